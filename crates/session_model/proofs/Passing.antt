-- Answers that a test may refuse.
use Rattle.std.proofs.Common.{Bool, Err, Ok, Result, false, refl, true, ◌≡◌}
use Rattle.std.specs.Prelude.{if◌then◌else◌}
use Rattle.session_model.specs.declared.answer.Refusal.{Refusal}

-- a test that no refusal stops
pub passes : {A : Type 0} (b : Bool) (e : Refusal) (r : Result A Refusal) (x : A) → (if b then Err e else r) ≡ Ok x
    → (b ≡ false) × (r ≡ Ok x)
passes true e r x is = absurd (let no : Err e ≡ Ok x = is in cc)
passes false e r x is = (refl, is)

-- one that lets through what passes
pub lets : {A : Type 0} (b : Bool) (e : Refusal) (r : Result A Refusal) (x : A) → (if b then r else Err e) ≡ Ok x → r ≡ Ok x
lets true e r x is = is
lets false e r x is = absurd (let no : Err e ≡ Ok x = is in cc)

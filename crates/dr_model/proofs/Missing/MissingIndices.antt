-- The indices of an epoch that haven't arrived.
use Rattle.std.proofs.Common.{◌≡◌, ℕ, zero, suc, ◌<◌, Bool, true, false, List, [], ◌∷◌, ◌++◌, refl, ap₂, arith, if◌then◌else◌}
use Rattle.dr_model.specs.Conversations.Indices.{is_among, missing_to}
use Rattle.dr_model.proofs.Missing.Arrived.{is_among-other}

-- an index, unless it arrived
abbrev pub unless_among : List ℕ → ℕ → List ℕ
unless_among arrived k = if is_among arrived k then [] else k ∷ []

-- one index more
pub missing_to-suc : (arrived : List ℕ) (n : ℕ)
    → missing_to arrived (suc n) ≡ missing_to arrived n ++ unless_among arrived (suc n)
unfolding missing_to
missing_to-suc arrived n = refl

-- an index that hasn't arrived, and one that has
pub unless : (b : Bool) (k : ℕ) → b ≡ false → (if b then [] else k ∷ []) ≡ k ∷ []
unless true k h = cc
unless false k h = refl

pub unless_not : (b : Bool) (k : ℕ) → b ≡ true → (if b then [] else k ∷ []) ≡ []
unless_not true k h = refl
unless_not false k h = cc

-- an index after the last changes nothing
pub missing_to-after : (arrived : List ℕ) (i n : ℕ) → n < i → missing_to (arrived ++ i ∷ []) n ≡ missing_to arrived n
unfolding missing_to
missing_to-after arrived i zero h = refl
missing_to-after arrived i (suc n) h =
    ap₂ (λ front b. front ++ (if b then [] else suc n ∷ []))
    (missing_to-after arrived i n (omega arith)) (is_among-other arrived i (suc n) (omega arith))

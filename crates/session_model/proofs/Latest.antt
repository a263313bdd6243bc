-- Which is the latest epoch of the peer's.
use Rattle.std.proofs.Common.{◌≡◌, ℕ, ◌+◌, ◌-◌, ◌≤◌, Bool, true, false, nat_eq, Some, None, refl, sym, ◌∙◌, ap, arith}
use Rattle.std.specs.Prelude.{not, if◌then◌else◌}
use Rattle.std.proofs.lemmas.Bool.Decides.{nat_tests}
use Rattle.std.proofs.lemmas.Bool.{cond-true, cond-false, not-true}
use Rattle.dr_base.specs.declared.position.Side.{Side}
use Rattle.dr_base.specs.Position.{is_own}
use Rattle.dr_base.proofs.Parity.{own_next}
use Rattle.session_model.specs.States.{receiving_epoch}

-- in an epoch of the peer's it is that one
pub latest-peers : (side : Side) (epoch : ℕ) → is_own side epoch ≡ false → receiving_epoch side epoch ≡ Some epoch
latest-peers side epoch h = cond-false (is_own side epoch) _ _ h

-- in an own epoch it is the one before
pub latest-own : (side : Side) (epoch : ℕ) → is_own side epoch ≡ true → 1 ≤ epoch → receiving_epoch side epoch ≡ Some (epoch - 1)
latest-own side epoch h one =
    cond-true (is_own side epoch) _ _ h ∙ cond-false (nat_eq epoch 0) None (Some (epoch - 1)) (grind (arith, nat_tests))

-- it is one of the peer's
latest_choice : (side : Side) (epoch it : ℕ) (own first : Bool) → is_own side epoch ≡ own → nat_eq epoch 0 ≡ first
    → (if own then (if first then None else Some (epoch - 1)) else Some epoch) ≡ Some it → is_own side it ≡ false
latest_choice side epoch it true true o f h = absurd (cc h)
latest_choice side epoch it true false o f h =
    let is : epoch - 1 ≡ it = cc in
    let some : 1 ≤ epoch = grind (arith, nat_tests) in
    let back : it + 1 ≡ epoch = omega arith in
    not-true (is_own side it) (sym (sym o ∙ ap (is_own side) (sym back) ∙ own_next side it))
latest_choice side epoch it false first o f h =
    let is : epoch ≡ it = cc in
    ap (is_own side) (sym is) ∙ o

pub latest_is-peers : (side : Side) (epoch it : ℕ) → receiving_epoch side epoch ≡ Some it → is_own side it ≡ false
latest_is-peers side epoch it h = latest_choice side epoch it (is_own side epoch) (nat_eq epoch 0) refl refl h

-- a turn keeps the latest peer's epoch
pub latest-turn : (side : Side) (epoch : ℕ) → is_own side epoch ≡ false → receiving_epoch side (epoch + 1) ≡ receiving_epoch side epoch
latest-turn side epoch h =
    let own : is_own side (epoch + 1) ≡ true = own_next side epoch ∙ ap not h in
    let back : epoch + 1 - 1 ≡ epoch = omega arith in
    latest-own side (epoch + 1) own (omega arith) ∙ ap (λ e. Some e) back ∙ sym (latest-peers side epoch h)

-- it was reached
reached_choice : (own first : Bool) (epoch it : ℕ) → (if own then (if first then None else Some (epoch - 1)) else Some epoch) ≡ Some it → it ≤ epoch
reached_choice true true epoch it h = absurd (cc h)
reached_choice true false epoch it h = let is : epoch - 1 ≡ it = cc in omega arith
reached_choice false first epoch it h = let is : epoch ≡ it = cc in omega arith

pub latest-reached : (side : Side) (epoch it : ℕ) → receiving_epoch side epoch ≡ Some it → it ≤ epoch
latest-reached side epoch it h = reached_choice (is_own side epoch) (nat_eq epoch 0) epoch it h

-- The receipt of a list of missing positions says enough: what isn't missing is covered by it.
use Rattle.std.proofs.Common.{◌≡◌, ℕ, ◌-◌, ◌<◌, ◌==◌, ◌%◌, ◌&&◌, ◌≤◌, Bool, true, false, not, nat_le, List, length, take, get_or, sym, ◌∙◌, ap, arith, inl, inr}
use Rattle.std.specs.List.{list_any}
use Rattle.std.proofs.lemmas.Bool.{and_from, cases_Bool}
use Rattle.std.proofs.lemmas.Bool.Decides.{nat_tests}
use Rattle.std.proofs.lemmas.List.{length-take, get_or-take}
use Rattle.std.proofs.lemmas.List.Folds.{list_any_at}
use Rattle.dr_base.specs.Position.{IsUpTo, is_at, is_own}
use Rattle.dr_base.specs.declared.limits.TheConstants.{RECEIPT_LIMIT}
use Rattle.dr_base.specs.declared.position.Position.{Position}
use Rattle.dr_base.specs.declared.position.Side.{Side}
use Rattle.dr_base.specs.declared.position.Side.TheVariants.{First, Second}
use Rattle.bodies.specs.Lawful.{AreListed, IsOpenedAt}
use Rattle.bodies.specs.Receipts.{is_up_to, is_covered_by, receipt_up_to}
use Rattle.bodies.proofs.Covered.{any_place, lawful_by, made_by}
use Rattle.bodies.proofs.Listed.{is-up_to}

-- two positions of a side's have one parity
same-parity : (side : Side) (n m : ℕ) → is_own side n ≡ true → is_own side m ≡ true → (n % 2 == m % 2) ≡ true
same-parity First n m one two = grind (arith, nat_tests)
same-parity Second n m one two = grind (arith, nat_tests)

-- what isn't in a list isn't among its first
pub none_first : (p d : Position) (list : List Position) (n : ℕ) → list_any (is_at p) list ≡ false
    → list_any (is_at p) (take n list) ≡ false
none_first p d list n none =
    elim (cases_Bool (list_any (is_at p) (take n list))) as (λ _. list_any (is_at p) (take n list) ≡ false) [
      | inl there ↦ absurd (at_place (any_place (is_at p) (take n list) there))
      | inr isnt ↦ isnt
    ]
  where
    at_place : (j : ℕ) × (j < length (take n list)) × ((d : Position) → is_at p (get_or (take n list) j d) ≡ true) → ⊥
    at_place place =
        let inside = place.1 in
        let below : place.0 < n = omega (arith, length-take n list) in
        let within : place.0 < length list = omega (arith, length-take n list) in
        let here : is_at p (get_or list place.0 d) ≡ true = ap (is_at p) (sym (get_or-take n list place.0 d below)) ∙ place.2 d in
        let e : true ≡ false = sym (list_any_at (is_at p) list place.0 d within here) ∙ none in cc

-- covered by a receipt of the one form or the other
covers_by : (all : Bool) (side : Side) (missing : List Position) (reached p : Position) → nat_le (length missing) RECEIPT_LIMIT ≡ all
    → AreListed side reached missing → IsOpenedAt side missing reached p
    → IsUpTo (made_by all missing reached).bound p → list_any (is_at p) (made_by all missing reached).listed ≡ false
    → is_covered_by (made_by all missing reached) p ≡ true
unfolding is_covered_by
covers_by all side missing reached p is listed opened most none =
    let r = made_by all missing reached in
    let own = (lawful_by all side missing reached is listed).listed.own in
    and_from (p.epoch % 2 == r.bound.epoch % 2) (is_up_to r.bound p && not (list_any (is_at p) r.listed))
    (same-parity side p.epoch r.bound.epoch opened.own own)
    (and_from (is_up_to r.bound p) (not (list_any (is_at p) r.listed)) (is-up_to r.bound p most) (ap not none))

pub all-covered : (side : Side) (missing : List Position) (reached p : Position) → AreListed side reached missing
    → length missing ≤ RECEIPT_LIMIT → IsOpenedAt side missing reached p → is_covered_by (receipt_up_to missing reached) p ≡ true
unfolding receipt_up_to
all-covered side missing reached p listed few opened =
    let is : nat_le (length missing) RECEIPT_LIMIT ≡ true = grind (arith, nat_tests) in
    ap (λ all. is_covered_by (made_by all missing reached) p) is
    ∙ covers_by true side missing reached p is listed opened opened.up_to opened.opened

pub first-covered : (side : Side) (missing : List Position) (reached p : Position) → AreListed side reached missing
    → RECEIPT_LIMIT < length missing → IsOpenedAt side missing reached p → IsUpTo (get_or missing (RECEIPT_LIMIT - 1) reached) p
    → is_covered_by (receipt_up_to missing reached) p ≡ true
unfolding receipt_up_to
first-covered side missing reached p listed many opened most =
    let is : nat_le (length missing) RECEIPT_LIMIT ≡ false = grind (arith, nat_tests) in
    ap (λ all. is_covered_by (made_by all missing reached) p) is
    ∙ covers_by false side missing reached p is listed opened most (none_first p reached missing RECEIPT_LIMIT opened.opened)

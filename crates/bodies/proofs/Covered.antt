-- The receipt of a list of missing positions: it is lawful, and what it covers isn't missing.
use Rattle.std.proofs.Common.{◌≡◌, ℕ, ◌-◌, ◌<◌, ◌==◌, ◌%◌, ◌&&◌, ◌||◌, Bool, true, false, not, nat_le, List, [], ◌∷◌, length, take, get_or, suc, refl, sym, ◌∙◌, ap, subst, arith, inl, inr, if◌then◌else◌}
use Rattle.std.specs.List.{list_any}
use Rattle.std.specs.Prelude.{AllPairs}
use Rattle.std.proofs.lemmas.Bool.{and_parts, cases_Bool, cases_lt, leb-true, not-true}
use Rattle.std.proofs.lemmas.Bool.Decides.{nat_tests}
use Rattle.std.proofs.lemmas.List.{length-take, get_or-take, get_or_default}
use Rattle.std.proofs.lemmas.List.Folds.{list_any_at}
use Rattle.dr_base.specs.Position.{IsBefore, IsUpTo, is_at, is_own}
use Rattle.dr_base.specs.declared.position.Position.{Position}
use Rattle.dr_base.specs.declared.position.Side.{Side}
use Rattle.dr_base.specs.declared.position.Side.TheVariants.{First, Second}
use Rattle.dr_base.proofs.Positions.{is_at-same}
use Rattle.bodies.specs.Lawful.{AreListed, IsLawfulReceipt, IsListed, IsOpenedAt}
use Rattle.bodies.specs.Receipts.{Receipt, is_up_to, is_covered_by, receipt_up_to}
use Rattle.dr_base.specs.declared.limits.TheConstants.{RECEIPT_LIMIT}
use Rattle.bodies.proofs.Listed.{up_to_is}

-- ---- the first of too many

module _ (side : Side) (missing : List Position) (reached : Position) (listed : AreListed side reached missing) (many : RECEIPT_LIMIT < length missing) where
  -- the last that is listed
  abbrev last : Position
  last = get_or missing (RECEIPT_LIMIT - 1) reached

  last-listed : IsListed side reached last
  last-listed = listed.each (RECEIPT_LIMIT - 1) reached (omega arith)

  short : length (take RECEIPT_LIMIT missing) ≡ RECEIPT_LIMIT
  short = omega (arith, length-take RECEIPT_LIMIT missing)

  first-is : (i : ℕ) (d : Position) → i < RECEIPT_LIMIT → get_or (take RECEIPT_LIMIT missing) i d ≡ get_or missing i d
  first-is i d below = get_or-take RECEIPT_LIMIT missing i d below

  up-to-last : (i : ℕ) (d : Position) → i < RECEIPT_LIMIT → IsUpTo last (get_or missing i d)
  up-to-last i d below =
      let same = get_or_default missing i reached d (omega arith) in
      subst (IsUpTo last) same
      (elim (cases_lt i (RECEIPT_LIMIT - 1)) as (λ _. IsUpTo last (get_or missing i reached)) [
        | inl less ↦
            let before = listed.ascending i (RECEIPT_LIMIT - 1) reached less (omega arith) in
            (before.0, λ one. let lower = before.1 one in omega arith)
        | inr most ↦
            let here : i ≡ RECEIPT_LIMIT - 1 = omega arith in
            subst (λ (j : ℕ). IsUpTo last (get_or missing j reached)) (sym here) (omega arith, λ _. omega arith)
      ])

  first-listed : (i : ℕ) (d : Position) → i < length (take RECEIPT_LIMIT missing) → IsListed side last (get_or (take RECEIPT_LIMIT missing) i d)
  first-listed i d inside =
      let below : i < RECEIPT_LIMIT = omega (arith, short) in
      let one = listed.each i d (omega arith) in
      subst (IsListed side last) (sym (first-is i d below))
      (record { own = one.own; from_one = one.from_one; up_to = up-to-last i d below; fits = one.fits })

  first-ascending : AllPairs IsBefore (take RECEIPT_LIMIT missing)
  first-ascending i j d lt inside =
      let below : j < RECEIPT_LIMIT = omega (arith, short) in
      let first = sym (first-is i d (omega arith)) in
      let second = sym (first-is j d below) in
      subst (λ (p : Position). IsBefore p (get_or (take RECEIPT_LIMIT missing) j d)) first
      (subst (IsBefore (get_or missing i d)) second (listed.ascending i j d lt (omega arith)))

  first-lawful : IsLawfulReceipt side (record { bound = last; listed = take RECEIPT_LIMIT missing })
  first-lawful = record {
    few = omega (arith, short);
    listed = record { own = last-listed.own; fits = last-listed.fits; each = first-listed; ascending = first-ascending };
  }

-- ---- all of them, or the first

abbrev pub made_by : Bool → List Position → Position → Receipt
made_by all missing reached =
    if all then record { bound = reached; listed = missing }
    else record { bound = get_or missing (RECEIPT_LIMIT - 1) reached; listed = take RECEIPT_LIMIT missing }

pub lawful_by : (all : Bool) (side : Side) (missing : List Position) (reached : Position) → nat_le (length missing) RECEIPT_LIMIT ≡ all
    → AreListed side reached missing → IsLawfulReceipt side (made_by all missing reached)
lawful_by true side missing reached few listed = record { few = leb-true (length missing) RECEIPT_LIMIT few; listed = listed }
lawful_by false side missing reached many listed = first-lawful side missing reached listed (grind (arith, nat_tests))

pub receipt-lawful : (side : Side) (missing : List Position) (reached : Position) → AreListed side reached missing
    → IsLawfulReceipt side (receipt_up_to missing reached)
unfolding receipt_up_to
receipt-lawful side missing reached listed = lawful_by (nat_le (length missing) RECEIPT_LIMIT) side missing reached refl listed

-- ---- what is covered isn't missing

-- the place of one that passes
pub any_place : {X : Type 0} (test : X → Bool) (xs : List X) → list_any test xs ≡ true
    → (j : ℕ) × (j < length xs) × ((d : X) → test (get_or xs j d) ≡ true)
any_place test [] h = cc
any_place test (x ∷ xs) h =
    elim (cases_Bool (test x)) as (λ _. (j : ℕ) × (j < length (x ∷ xs)) × ((d : _) → test (get_or (x ∷ xs) j d) ≡ true)) [
      | inl here ↦ (0, omega arith, λ d. here)
      | inr other ↦
          let later = any_place test xs (behind (test x) (list_any test xs) other h) in
          (suc later.0, omega (arith, later.1), λ d. later.2 d)
    ]
  where
    behind : (a b : Bool) → a ≡ false → (a || b) ≡ true → b ≡ true
    behind true b is h = cc
    behind false b is h = h

-- a missing one after the last that is listed isn't up to there
beyond : (xs : List Position) (p d : Position) (n j : ℕ) → AllPairs IsBefore xs → n < j → j < length xs
    → get_or xs j d ≡ p → IsUpTo (get_or xs n d) p → ⊥
beyond xs p d n j ascending lt inside is most =
    let before = subst (IsBefore (get_or xs n d)) is (ascending n j d lt inside) in
    let low = before.0 in
    let high = before.1 in
    let lower = most.0 in
    let higher = most.1 in
    let same : p.epoch ≡ (get_or xs n d).epoch = omega arith in
    let more = high (sym same) in
    let less = higher same in
    absurd (omega arith)

up-to-reach : (reached last p : Position) → IsUpTo reached last → IsUpTo last p → IsUpTo reached p
up-to-reach reached last p bound most = (omega (arith, bound.0, most.0), λ same. omega (arith, bound.0, most.0, bound.1, most.1))

module _ (side : Side) (missing : List Position) (reached p : Position) (listed : AreListed side reached missing) where
  unlisted : RECEIPT_LIMIT < length missing → IsUpTo (get_or missing (RECEIPT_LIMIT - 1) reached) p
      → list_any (is_at p) (take RECEIPT_LIMIT missing) ≡ false → list_any (is_at p) missing ≡ false
  unlisted many most none =
      elim (cases_Bool (list_any (is_at p) missing)) as (λ _. list_any (is_at p) missing ≡ false) [
        | inl there ↦ absurd (at_place (any_place (is_at p) missing there))
        | inr isnt ↦ isnt
      ]
    where
      at_place : (j : ℕ) × (j < length missing) × ((d : Position) → is_at p (get_or missing j d) ≡ true) → ⊥
      at_place place =
          let is = is_at-same p (get_or missing place.0 reached) (place.2 reached) in
          let inside = place.1 in
          elim (cases_lt place.0 RECEIPT_LIMIT) as (λ _. ⊥) [
            | inl early ↦
                let shorter : place.0 < length (take RECEIPT_LIMIT missing) = omega (arith, length-take RECEIPT_LIMIT missing) in
                let here : is_at p (get_or (take RECEIPT_LIMIT missing) place.0 reached) ≡ true =
                ap (is_at p) (get_or-take RECEIPT_LIMIT missing place.0 reached early) ∙ place.2 reached in
                let e : true ≡ false = sym (list_any_at (is_at p) (take RECEIPT_LIMIT missing) place.0 reached shorter here) ∙ none in cc
            | inr late ↦ beyond missing p reached (RECEIPT_LIMIT - 1) place.0 listed.ascending (omega arith) inside is most
          ]

  opened_by : (all : Bool) → nat_le (length missing) RECEIPT_LIMIT ≡ all → is_own side p.epoch ≡ true
      → IsUpTo (made_by all missing reached).bound p → list_any (is_at p) (made_by all missing reached).listed ≡ false
      → IsOpenedAt side missing reached p
  opened_by true few own most none = record { own = own; up_to = most; opened = none }
  opened_by false more own most none =
      let many : RECEIPT_LIMIT < length missing = grind (arith, nat_tests) in
      record {
        own = own;
        up_to = up-to-reach reached (get_or missing (RECEIPT_LIMIT - 1) reached) p (last-listed side missing reached listed many).up_to most;
        opened = unlisted many most none;
      }

-- a position of the parity of one of a side's is one of that side's
same-side : (side : Side) (n m : ℕ) → is_own side m ≡ true → (n % 2 == m % 2) ≡ true → is_own side n ≡ true
same-side First n m own same = grind (arith, nat_tests)
same-side Second n m own same = grind (arith, nat_tests)

pub covered-opened : (side : Side) (missing : List Position) (reached p : Position) → AreListed side reached missing
    → is_covered_by (receipt_up_to missing reached) p ≡ true → IsOpenedAt side missing reached p
unfolding is_covered_by receipt_up_to
covered-opened side missing reached p listed h =
    let all = nat_le (length missing) RECEIPT_LIMIT in
    let r = made_by (nat_le (length missing) RECEIPT_LIMIT) missing reached in
    let a = and_parts (p.epoch % 2 == r.bound.epoch % 2) (is_up_to r.bound p && not (list_any (is_at p) r.listed)) h in
    let b = and_parts (is_up_to r.bound p) (not (list_any (is_at p) r.listed)) a.1 in
    let own = (lawful_by all side missing reached refl listed).listed.own in
    opened_by side missing reached p listed all refl (same-side side p.epoch r.bound.epoch own a.0) (up_to_is r.bound p b.0)
    (not-true (list_any (is_at p) r.listed) b.1)

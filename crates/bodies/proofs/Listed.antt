-- Which receipts pass the tests of their reader: those that are lawful.
use Rattle.std.proofs.Common.{◌≡◌, ℕ, zero, suc, ◌+◌, ◌<◌, ◌≤◌, true, List, [], ◌∷◌, ◌++◌, length, get_or, take, Option, Some, None, refl, sym, ◌∙◌, ap, subst, arith}
use Rattle.std.specs.Prelude.{◌&&◌, nat_le, All, AllPairs}
use Rattle.std.proofs.lemmas.Bool.{and_from, and_parts, leb-true, le-leb}
use Rattle.std.proofs.lemmas.Bool.Decides.{nat_tests}
use Rattle.std.proofs.lemmas.List.{take_more}
use Rattle.std.proofs.lemmas.List.Quantifiers.{all_pairs_push}
use Rattle.std.proofs.lemmas.List.Elements.{All-push}
use Rattle.dr_base.specs.Position.{IsBefore, IsUpTo, is_own, position_at}
use Rattle.dr_base.specs.declared.position.Position.{Position}
use Rattle.dr_base.specs.declared.position.Side.{Side}
use Rattle.grammar.specs.Printer.{AreItems, no_items, and_item}
use Rattle.grammar.proofs.Lists.{items-from}
use Rattle.bodies.specs.Lawful.{IsListed, IsLawfulReceipt, IsReceiptOrNone}
use Rattle.bodies.specs.Receipts.{Receipt, is_before, is_up_to, is_listed, last_in}
use Rattle.dr_base.specs.declared.limits.TheConstants.{RECEIPT_LIMIT}
use Rattle.bodies.proofs.Passing.{PassesListed, PassesOrNone, PassesReceipt, of_place}

pub last_in-push : (p : Position) (list : List Position) (q : Position) → last_in p (list ++ q ∷ []) ≡ q
last_in-push p [] q = refl
last_in-push p (first ∷ list) q = last_in-push first list q

abbrev first_place : Position
first_place = position_at 0 0

-- ---- what the tests say

before_is : (p q : Position) → is_before p q ≡ true → IsBefore p q
before_is p q h = (grind (arith, nat_tests), λ same. grind (arith, nat_tests))

is-before : (p q : Position) → IsBefore p q → is_before p q ≡ true
is-before p q h =
    let low = h.0 in
    let high = h.1 in
    grind (arith, nat_tests)

pub up_to_is : (q p : Position) → is_up_to q p ≡ true → IsUpTo q p
up_to_is q p h = (grind (arith, nat_tests), λ same. grind (arith, nat_tests))

pub is-up_to : (q p : Position) → IsUpTo q p → is_up_to q p ≡ true
is-up_to q p h =
    let low = h.0 in
    let high = h.1 in
    grind (arith, nat_tests)

-- ---- from the tests

record HasParts (side : Side) (bound last p : Position) : Type 0 where
  own : is_own side p.epoch ≡ true
  one : 1 ≤ p.index
  after : IsBefore last p
  inside : IsUpTo bound p

parts_of : (side : Side) (bound last p : Position) → is_listed side bound last (of_place p) ≡ true → HasParts side bound last p
parts_of side bound last p h =
    let a = and_parts (is_own side p.epoch) (nat_le 1 p.index && (is_before last p && is_up_to bound p)) h in
    let b = and_parts (nat_le 1 p.index) (is_before last p && is_up_to bound p) a.1 in
    let c = and_parts (is_before last p) (is_up_to bound p) b.1 in
    record { own = a.0; one = leb-true 1 p.index b.0; after = before_is last p c.0; inside = up_to_is bound p c.1 }

before_all : (p q r : Position) → IsUpTo q p → IsBefore q r → IsBefore p r
before_all p q r most below = (omega (arith, most.0, below.0), λ same. omega (arith, most.0, below.0, most.1, below.1))

later : (p q r : Position) → IsUpTo q p → IsBefore q r → IsUpTo r p
later p q r most below = (omega (arith, most.0, below.0), λ same. omega (arith, most.0, below.0, most.1, below.1))

record AreUp (side : Side) (bound : Position) (list : List Position) : Type 0 where
  each : All (IsListed side bound) list
  up : AllPairs IsBefore list
  last : All (IsUpTo (last_in first_place list)) list

ups : (side : Side) (bound : Position) (n : ℕ) (list : List Position) → AreItems (PassesListed side bound) n list → AreUp side bound list
ups side bound n list no_items = record { each = λ i d inside. absurd (omega arith); up = λ i j d small inside. absurd (omega arith); last = λ i d inside. absurd (omega arith) }
ups side bound m list (and_item n before a were lawful) =
    let earlier = ups side bound n before were in
    let parts = parts_of side bound (last_in first_place before) a lawful.test in
    let is : last_in first_place (before ++ a ∷ []) ≡ a = last_in-push first_place before a in
    record {
      each = All-push (IsListed side bound) before a earlier.each (record { own = parts.own; from_one = parts.one; up_to = parts.inside; fits = lawful.fits });
      up = all_pairs_push IsBefore before a earlier.up (λ i d inside. before_all _ _ _ (earlier.last i d inside) parts.after);
      last = subst (λ (p : Position). All (IsUpTo p) (before ++ a ∷ [])) (sym is)
          (All-push (IsUpTo a) before a (λ i d inside. later _ _ _ (earlier.last i d inside) parts.after) (omega arith, λ _. omega arith));
    }

pub receipt-lawful : (side : Side) (r : Receipt) → PassesReceipt side r → IsLawfulReceipt side r
receipt-lawful side r l =
    let list = ups side r.bound (length r.listed) r.listed l.items in
    record {
      few = leb-true (length r.listed) RECEIPT_LIMIT l.count.1;
      listed = record { own = l.own; fits = l.fits; each = list.each; ascending = list.up };
    }

-- ---- to the tests

last_before : (list : List Position) (i : ℕ) (d : Position) → i < length list → 1 ≤ (get_or list i d).index → AllPairs IsBefore list
    → IsBefore (last_in first_place (take i list)) (get_or list i d)
last_before list zero d inside one up = (omega arith, λ _. omega arith)
last_before list (suc i) d inside one up =
    let below : i < length list = omega arith in
    let next : suc i ≡ i + 1 = omega arith in
    let last : last_in first_place (take (suc i) list) ≡ get_or list i d =
    ap (λ n. last_in first_place (take n list)) next ∙ ap (λ l. last_in first_place l) (take_more list i d below) ∙ last_in-push first_place (take i list) (get_or list i d) in
    subst (λ (p : Position). IsBefore p (get_or list (suc i) d)) (sym last) (up i (suc i) d (omega arith) inside)

pub receipt-passes : (side : Side) (r : Receipt) → IsLawfulReceipt side r → PassesReceipt side r
receipt-passes side r l =
    let few = l.few in
    record {
      own = l.listed.own;
      fits = l.listed.fits;
      count = (omega arith, le-leb (length r.listed) RECEIPT_LIMIT l.few);
      items = items-from (PassesListed side r.bound) r.listed first_place (λ i d inside.
          let one = l.listed.each i d inside in
          record {
            test = and_from _ _ one.own (and_from _ _ (le-leb 1 (get_or r.listed i d).index one.from_one)
                (and_from _ _ (is-before _ _ (last_before r.listed i d inside one.from_one l.listed.ascending)) (is-up_to _ _ one.up_to)));
            fits = one.fits;
          });
    }

pub or-lawful : (side : Side) (o : Option Receipt) → PassesOrNone side o → IsReceiptOrNone side o
or-lawful side None l = l
or-lawful side (Some r) l = receipt-lawful side r l

pub or-passes : (side : Side) (o : Option Receipt) → IsReceiptOrNone side o → PassesOrNone side o
or-passes side None l = l
or-passes side (Some r) l = receipt-passes side r l

-- The grammar of receipts.
use Rattle.std.proofs.Common.{◌≡◌, ℕ, ◌^◌, ◌<◌, true, List, Option, Some, None, refl, ap, arith}
use Rattle.std.specs.Int.{w8, w32}
use Rattle.std.proofs.lemmas.Bool.Decides.{nat_tests}
use Rattle.dr_base.specs.Position.{is_own, position_at}
use Rattle.dr_base.specs.declared.position.Position.{Position}
use Rattle.dr_base.specs.declared.position.Side.{Side}
use Rattle.dr_base.proofs.Widths.{exact8, exact32}
use Rattle.grammar.specs.Grammar.{IsGrammar}
use Rattle.grammar.specs.Printer.{IsMaybe}
use Rattle.grammar.proofs.Fields.{number_grammar}
use Rattle.grammar.proofs.Choices.{maybe_grammar}
use Rattle.grammar.proofs.Combined.{both_grammar, checked_grammar, mapped_grammar}
use Rattle.grammar.proofs.Lists.{counted_grammar}
use Rattle.bodies.specs.Receipts.{Receipt, is_listed, last_in, listed_place, listed_behind, listed_item, with_listed, bound_field, is_one, receipt_field, position_bytes, bound_text, receipt_code, receipt_text, at_most}
use Rattle.dr_base.specs.declared.limits.TheConstants.{RECEIPT_LIMIT}
use Rattle.bodies.proofs.Passing.{PassesListed, PassesOrNone, PassesReceipt, of_place}

listed_grammar : (side : Side) (bound : Position) (before : List Position)
    → IsGrammar position_bytes (PassesListed side bound before) (listed_item side bound before)
unfolding listed_behind
listed_grammar side bound before =
    mapped_grammar _ _ _
    (checked_grammar _ _ _
    (both_grammar _ _ _ _ _ _ (number_grammar w32 (2 ^ 32) exact32) (λ _ _. number_grammar w32 (2 ^ 32) exact32))
    (is_listed side bound (last_in (position_at 0 0) before)))
    (PassesListed side bound before) listed_place of_place
    (λ e l. (record { test = l.1; fits = record { epoch = l.0.0; index = l.0.1 } }, refl))
    (λ p l. (((l.fits.epoch, l.fits.index), l.test), refl))

abbrev of_bound : Receipt → (ℕ × ℕ) × List Position
of_bound r = (of_place r.bound, r.listed)

bound_grammar : (side : Side) → IsGrammar bound_text (PassesReceipt side) (bound_field side)
unfolding bound_field
bound_grammar side =
    mapped_grammar _ _ _
    (both_grammar _ _ _ _ _ _
    (both_grammar _ _ _ _ _ _
    (checked_grammar _ _ _ (number_grammar w32 (2 ^ 32) exact32) (is_own side))
    (λ _ _. number_grammar w32 (2 ^ 32) exact32))
    (λ bound _.
    let place = listed_place bound in
    counted_grammar position_bytes (PassesListed side place) (listed_item side place) (listed_grammar side place)
    (w8) (2 ^ 8) exact8 (at_most RECEIPT_LIMIT)))
    (PassesReceipt side) with_listed of_bound
    (λ e l.
    (record { own = l.0.0.1; fits = record { epoch = l.0.0.0; index = l.0.1 }; count = l.1.0; items = l.1.1 }, refl))
    (λ r l. (((((l.fits.epoch, l.own), l.fits.index), (l.count, l.items))), refl))

-- ---- the byte before it tells whether there is one

from_code : (side : Side) (n : ℕ) (o : Option Receipt) → at_most 1 n ≡ true → IsMaybe (is_one n) (PassesReceipt side) o
    → PassesOrNone side o × (receipt_code o ≡ n)
from_code side n None few l = let zero_is : 0 ≡ n = grind (arith, nat_tests) in (tt, zero_is)
from_code side n (Some r) few l =
    let test = l.0 in
    let one : 1 ≡ n = grind (arith, nat_tests) in (l.1, one)

to_code : (side : Side) (o : Option Receipt) → PassesOrNone side o
    → ((receipt_code o < 2 ^ 8) × (at_most 1 (receipt_code o) ≡ true)) × IsMaybe (is_one (receipt_code o)) (PassesReceipt side) o
to_code side None l = ((omega arith, refl), refl)
to_code side (Some r) l = ((omega arith, refl), (refl, l))

pub receipt_grammar : (side : Side) → IsGrammar receipt_text (PassesOrNone side) (receipt_field side)
unfolding receipt_field
receipt_grammar side =
    mapped_grammar _ _ _
    (both_grammar _ _ _ _ _ _
    (checked_grammar _ _ _ (number_grammar w8 (2 ^ 8) exact8) (at_most 1))
    (λ there _. maybe_grammar _ _ _ (bound_grammar side) (is_one there)))
    (PassesOrNone side) (λ e. e.1) (λ o. (receipt_code o, o))
    (λ e l. let first = from_code side e.0 e.1 l.0.1 l.1 in (first.0, ap (λ n. (n, e.1)) first.1))
    (λ o l. (to_code side o l, refl))

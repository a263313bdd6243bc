use Rattle.std.proofs.Common.{◌≡◌, ◌<◌, ℕ, List, ℤ, pos, arith, sym, ap, ◌∙◌, lit≤, get_or, get_or-set_other, subst}
use Rattle.ntru_ring.specs.declared.rows_three.Row3.{Row3}
use Rattle.ntru_ring.specs.Elements.{element}
use Rattle.ntru_ring.specs.Ring.{coefficient, times, zero_of}
use Rattle.ntru_ring.specs.Reduction.{reduced, Annihilates, IsInverse}
use Rattle.ntru_ring.specs.Elimination.{IsCombined, IsEchelon}
use Rattle.ntru_ring.specs.Rows3.{parts_3, AreMultiples3}
use Rattle.ntru_ring.proofs.Rings.Places.{coefficient-zero_of}
use Rattle.ntru_ring.proofs.Vectors.Elements.{length-element}
use Rattle.ntru_ring.proofs.Eliminating.Inverses.{IsBuilt, IsBuilt-none, IsBuilt-more, combined_from_multiple, multiple_from_combined, annihilates_from_zero, combined_at_minus_one, inverse_from_zero, all_cleared}
use Rattle.ntru_ring.proofs.elimination_three.inverse3_by_rows.Goals as goal

pub loop-k-init : goal.loop-k-init
loop-k-init c =
    let g = c.args.g.now in
    let rows = c.fill_three.new.self.rows_three.items in
    (c.fill_three.ensures, subst (λ (t : List ℤ). IsBuilt Row3 parts_3 1 761 g.coefficients rows t 0) (sym c.planes_of-power.ensures) (IsBuilt-none Row3 parts_3 1 760 g.coefficients rows g.length))

pub returns-then-pivot-eq761 : goal.returns-then-pivot-eq761
returns-then-pivot-eq761 c =
    let k = c.loop-k.k in
    let g = c.args.g.now in
    let unit = c.planes_of-unit.result in
    let is_unit = c.planes_of-unit.ensures ∙ c.monomial.ensures in
    let pair = c.clear-pair.result in
    let power = element c.loop-k.power in
    let start = ap (λ t. reduced 1 (times g.coefficients t)) is_unit ∙ c.loop-k.invariant.1.power (omega arith) in
    let combined = c.clear-pair.ensures.combined g.coefficients (zero_of 761) (subst (λ (rows : List Row3). AreMultiples3 g.coefficients rows k) (sym c.deref.ensures.value) c.loop-k.invariant.1.multiples) (combined_from_multiple 1 761 g.coefficients power (element unit) (length-element unit) start) in
    let multiple = multiple_from_combined 1 761 g.coefficients (element pair.a) (element pair.b) (length-element pair.b) combined in
    subst (λ (t : List ℤ). Annihilates 1 g.coefficients t) (sym c.r3_of.ensures)
    (annihilates_from_zero 1 761 k g.coefficients (element pair.a) (element pair.b) g.length (length-element pair.a) (length-element pair.b) (omega arith) multiple
    (λ j u. c.lead-pivot.ensures.before j (omega (arith, c.if-pivot-eq761.true)))
    (c.clear-pair.ensures.kept k (omega arith) ∙ ap (λ t. coefficient t k) is_unit))

pub row_of-requires-clause-trailing : goal.row_of-requires-clause-trailing
row_of-requires-clause-trailing c = λ j l.
    let k = c.loop-k.k in
    let ne : ¬ (j ≡ k) = omega arith in
    c.clear-pair.ensures.kept j (omega arith) ∙ ap (λ t. coefficient t j) (c.planes_of-unit.ensures ∙ c.monomial.ensures) ∙ get_or-set_other (zero_of 761) k j (pos 1) (pos 0) ne ∙ coefficient-zero_of 761 j

pub loop-k-preserved : goal.loop-k-preserved
loop-k-preserved c =
    let k = c.loop-k.k in
    let g = c.args.g.now in
    let unit = c.planes_of-unit.result in
    let pair = c.clear-pair.result in
    let power = element c.loop-k.power in
    let row = c.row_of.ensures in
    let start = ap (λ t. reduced 1 (times g.coefficients t)) (c.planes_of-unit.ensures ∙ c.monomial.ensures) ∙ c.loop-k.invariant.1.power (omega arith) in
    let combined = c.clear-pair.ensures.combined g.coefficients (zero_of 761) (subst (λ (rows : List Row3). AreMultiples3 g.coefficients rows k) (sym c.deref.ensures.value) c.loop-k.invariant.1.multiples) (combined_from_multiple 1 761 g.coefficients power (element unit) (length-element unit) start) in
    let multiple = multiple_from_combined 1 761 g.coefficients (element pair.a) (element pair.b) (length-element pair.b) combined in
    let cleared = subst (λ (rows : List Row3). (i : ℕ) (d : Row3) → i < k → coefficient (element pair.a) (get_or rows i d).pivot ≡ pos 0) c.deref.ensures.value c.clear-pair.ensures.cleared in (
      omega (arith, c.loop-k.invariant.0),
      IsBuilt-more Row3 parts_3 1 761 g.coefficients c.loop-k.work.rows_three.items power (element c.shift-power.result) k c.row_of.result
          (omega (arith, c.loop-k.invariant.0, c.loop-k.work.rows_three.ok.0)) (omega arith) (omega (arith, row.top)) (row.multiple g.coefficients multiple)
          (λ i d l. row.zeros (get_or c.loop-k.work.rows_three.items i d).pivot (cleared i d l)) c.shift-power.ensures c.loop-k.invariant.1,
    )

pub returns : goal.returns
returns c =
    let g = c.args.g.now in
    let rows = c.loop-k.work.rows_three.items in
    let minus = c.planes_of-minus_one.result in
    let pair = c.clear.result in
    let e : c.loop-k.k ≡ 761 = omega arith in
    let echelon = subst (λ (n : ℕ). IsEchelon Row3 parts_3 rows n) e c.loop-k.invariant.1.echelon in
    let cleared = subst (λ (xs : List Row3). (i : ℕ) (d : Row3) → i < 761 → coefficient (element pair.a) (get_or xs i d).pivot ≡ pos 0) c.deref-2.ensures.value c.clear.ensures.cleared in
    let none = all_cleared Row3 parts_3 rows 761 (element pair.a) (omega (arith, c.loop-k.invariant.0, c.loop-k.work.rows_three.ok.0)) echelon (λ x. x.pivot_in) (λ x. x.one) cleared in
    let combined = c.clear.ensures.combined g.coefficients (element minus) (subst (λ (xs : List Row3). AreMultiples3 g.coefficients xs 761) (sym c.deref-2.ensures.value) (λ j d l. c.loop-k.invariant.1.multiples j d (omega arith))) (combined_at_minus_one 1 761 g.coefficients (element minus) (element c.zero.result) (length-element minus) c.zero.ensures) in
    subst (λ (t : List ℤ). IsInverse 1 g.coefficients t) (sym c.r3_of-2.ensures)
    (inverse_from_zero 1 760 g.coefficients (element pair.a) (element pair.b) (lit≤ tt) g.length (length-element pair.a) (length-element pair.b)
    (subst (λ (t : List ℤ). IsCombined 1 g.coefficients t (element pair.a) (element pair.b)) (c.planes_of-minus_one.ensures ∙ c.monomial-2.ensures) combined) none)

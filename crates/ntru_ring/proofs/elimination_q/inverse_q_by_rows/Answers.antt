use Rattle.std.proofs.Common.{◌≡◌, ◌<◌, ℕ, List, ℤ, pos, arith, sym, ap, ◌∙◌, lit≤, get_or, get_or-set_other, subst}
use Rattle.ntru_ring.specs.declared.rows_q.RowQ.{RowQ}
use Rattle.ntru_ring.specs.Ring.{coefficient, times, zero_of}
use Rattle.ntru_ring.specs.Reduction.{reduced}
use Rattle.ntru_ring.specs.Elimination.{IsCombined, IsEchelon}
use Rattle.ntru_ring.specs.RowsQ.{parts_q, AreMultiplesQ}
use Rattle.ntru_ring.proofs.Rings.Places.{coefficient-zero_of}
use Rattle.ntru_ring.proofs.Eliminating.Inverses.{IsBuilt-none, IsBuilt-more, combined_from_multiple, multiple_from_combined, annihilates_from_zero, combined_at_minus_one, inverse_from_zero, all_cleared}
use Rattle.ntru_ring.proofs.elimination_q.inverse_q_by_rows.Goals as goal

pub loop-k-init : goal.loop-k-init
loop-k-init c = (c.fill_q.ensures, IsBuilt-none RowQ parts_q 2295 760 c.args.f.now.coefficients c.fill_q.new.self.rows_q.items c.args.f.now.length)

pub returns-then-pivot-eq761 : goal.returns-then-pivot-eq761
returns-then-pivot-eq761 c =
    let k = c.loop-k.k in
    let g = c.args.f.now in
    let unit = c.monomial.result in
    let pair = c.clear-pair.result in
    let start = ap (λ t. reduced 2295 (times g.coefficients t)) c.monomial.ensures ∙ c.loop-k.invariant.1.power (omega arith) in
    let combined = c.clear-pair.ensures.combined g.coefficients (zero_of 761) (subst (λ (rows : List RowQ). AreMultiplesQ g.coefficients rows k) (sym c.deref.ensures.value) c.loop-k.invariant.1.multiples) (combined_from_multiple 2295 761 g.coefficients c.loop-k.power.coefficients unit.coefficients unit.length start) in
    let multiple = multiple_from_combined 2295 761 g.coefficients pair.a.coefficients pair.b.coefficients pair.b.length combined in
    annihilates_from_zero 2295 761 k g.coefficients pair.a.coefficients pair.b.coefficients g.length pair.a.length pair.b.length (omega arith) multiple
    (λ j u. c.lead-pivot.ensures.before j (omega (arith, c.if-pivot-eq761.true)))
    (c.clear-pair.ensures.kept k (omega arith) ∙ ap (λ t. coefficient t k) c.monomial.ensures)

pub row_of-requires-clause-trailing : goal.row_of-requires-clause-trailing
row_of-requires-clause-trailing c = λ j l.
    let k = c.loop-k.k in
    let ne : ¬ (j ≡ k) = omega arith in
    c.clear-pair.ensures.kept j (omega arith) ∙ ap (λ t. coefficient t j) c.monomial.ensures ∙ get_or-set_other (zero_of 761) k j (pos 1) (pos 0) ne ∙ coefficient-zero_of 761 j

pub loop-k-preserved : goal.loop-k-preserved
loop-k-preserved c =
    let k = c.loop-k.k in
    let g = c.args.f.now in
    let unit = c.monomial.result in
    let pair = c.clear-pair.result in
    let row = c.row_of.ensures in
    let start = ap (λ t. reduced 2295 (times g.coefficients t)) c.monomial.ensures ∙ c.loop-k.invariant.1.power (omega arith) in
    let combined = c.clear-pair.ensures.combined g.coefficients (zero_of 761) (subst (λ (rows : List RowQ). AreMultiplesQ g.coefficients rows k) (sym c.deref.ensures.value) c.loop-k.invariant.1.multiples) (combined_from_multiple 2295 761 g.coefficients c.loop-k.power.coefficients unit.coefficients unit.length start) in
    let multiple = multiple_from_combined 2295 761 g.coefficients pair.a.coefficients pair.b.coefficients pair.b.length combined in
    let cleared = subst (λ (rows : List RowQ). (i : ℕ) (d : RowQ) → i < k → coefficient pair.a.coefficients (get_or rows i d).pivot ≡ pos 0) c.deref.ensures.value c.clear-pair.ensures.cleared in (
      omega (arith, c.loop-k.invariant.0),
      IsBuilt-more RowQ parts_q 2295 761 g.coefficients c.loop-k.work.rows_q.items c.loop-k.power.coefficients c.shift-power.result.coefficients k c.row_of.result
          (omega (arith, c.loop-k.invariant.0, c.loop-k.work.rows_q.ok.0)) (omega arith) (omega (arith, row.top)) (row.multiple g.coefficients multiple)
          (λ i d l. row.zeros (get_or c.loop-k.work.rows_q.items i d).pivot (cleared i d l)) c.shift-power.ensures c.loop-k.invariant.1,
    )

pub returns : goal.returns
returns c =
    let g = c.args.f.now in
    let rows = c.loop-k.work.rows_q.items in
    let minus = c.monomial-2.result in
    let pair = c.clear.result in
    let e : c.loop-k.k ≡ 761 = omega arith in
    let echelon = subst (λ (n : ℕ). IsEchelon RowQ parts_q rows n) e c.loop-k.invariant.1.echelon in
    let cleared = subst (λ (xs : List RowQ). (i : ℕ) (d : RowQ) → i < 761 → coefficient pair.a.coefficients (get_or xs i d).pivot ≡ pos 0) c.deref-2.ensures.value c.clear.ensures.cleared in
    let none = all_cleared RowQ parts_q rows 761 pair.a.coefficients (omega (arith, c.loop-k.invariant.0, c.loop-k.work.rows_q.ok.0)) echelon (λ x. x.pivot_in) (λ x. x.one) cleared in
    let combined = c.clear.ensures.combined g.coefficients minus.coefficients (subst (λ (xs : List RowQ). AreMultiplesQ g.coefficients xs 761) (sym c.deref-2.ensures.value) (λ j d l. c.loop-k.invariant.1.multiples j d (omega arith))) (combined_at_minus_one 2295 761 g.coefficients minus.coefficients c.zero.result.coefficients minus.length c.zero.ensures) in
    inverse_from_zero 2295 760 g.coefficients pair.a.coefficients pair.b.coefficients (lit≤ tt) g.length pair.a.length pair.b.length
    (subst (λ (t : List ℤ). IsCombined 2295 g.coefficients t pair.a.coefficients pair.b.coefficients) c.monomial-2.ensures combined) none

use Rattle.std.proofs.Common.{◌*ℤ◌, sym, ap, ◌∙◌, lit<}
use Rattle.ntru_ring.specs.Ring.{coefficient, scale}
use Rattle.ntru_ring.specs.Reduction.{centred, reduced}
use Rattle.ntru_ring.proofs.Eliminating.Elimination.{scaled_multiple, scaled_zero, scaled_at}
use Rattle.ntru_ring.proofs.Rings.Places.{coefficient_within}
use Rattle.ntru_ring.proofs.Numbers.Ranges.{stored}
use mir.Syntax.{w16}
use Rattle.ntru_ring.proofs.elimination_q.row_of.Goals as goal

pub invariant_of-result : goal.invariant_of-result
invariant_of-result c =
    let pair = c.args.pair.now in
    let by = c.inverse_of-by.result in
    let f = stored w16 2295 by c.inverse_of-by.ensures.within (lit< tt) in
    let p = c.scale.ensures ∙ ap (λ t. reduced 2295 (scale t pair.a.coefficients)) f in
    let q = c.scale-2.ensures ∙ ap (λ t. reduced 2295 (scale t pair.b.coefficients)) f in
    let x = coefficient pair.a.coefficients c.args.pivot in
    let r = stored w16 2295 x (coefficient_within 2295 pair.a.coefficients c.args.pivot pair.a.within) (lit< tt) in
    record {
      pivot_in = c.requires.pivot;
      top_in = c.requires.top;
      one = scaled_at 2295 pair.a.coefficients c.scale.result.coefficients by c.args.pivot p ∙ ap (λ t. centred 2295 (by *ℤ t)) (sym r) ∙ c.inverse_of-by.ensures.value;
      leading = λ k l. scaled_zero 2295 pair.a.coefficients c.scale.result.coefficients by k p (c.requires.leading k l);
      trailing = λ k l. scaled_zero 2295 pair.b.coefficients c.scale-2.result.coefficients by k q (c.requires.trailing k l);
    }

pub returns-clause-multiple : goal.returns-clause-multiple
returns-clause-multiple c = λ g m.
    let pair = c.args.pair.now in
    scaled_multiple 2295 g pair.a.coefficients pair.b.coefficients c.scale.result.coefficients c.scale-2.result.coefficients _ c.scale.ensures c.scale-2.ensures m

pub returns-clause-zeros : goal.returns-clause-zeros
returns-clause-zeros c = λ k z.
    let pair = c.args.pair.now in scaled_zero 2295 pair.a.coefficients c.scale.result.coefficients _ k c.scale.ensures z

use Rattle.std.proofs.Common.{◌≡◌, ◌*ℤ◌, ℤ, sym, ap, ◌∙◌, lit<}
use Rattle.ntru_ring.specs.declared.planes_three.Planes3.{Planes3}
use Rattle.ntru_ring.specs.Elements.{element}
use Rattle.ntru_ring.specs.Ring.{coefficient, plus, scale, zero_of}
use Rattle.ntru_ring.specs.Reduction.{centred, reduced}
use Rattle.ntru_ring.proofs.Rings.Algebra.{length-scale}
use Rattle.ntru_ring.proofs.Vectors.Elements.{length-element}
use Rattle.ntru_ring.proofs.Eliminating.Elimination.{scaled_multiple, scaled_zero, scaled_at}
use Rattle.ntru_ring.proofs.Vectors.Lanes3.{own_inverse}
use Rattle.ntru_ring.proofs.Numbers.Ranges.{stored}
use Rattle.ntru_ring.proofs.Rings.Unit.{zero_of-plus}
use mir.Syntax.{w16}
use Rattle.ntru_ring.proofs.elimination_three.row_of.Goals as goal

-- a multiple added to 0
scaled : (none a r : Planes3) (by : ℤ) → element none ≡ zero_of 761 → element r ≡ reduced 1 (plus (element none) (scale by (element a))) → element r ≡ reduced 1 (scale by (element a))
scaled none a r by z e = e ∙ ap (λ t. reduced 1 (plus t (scale by (element a)))) z ∙ ap (reduced 1) (zero_of-plus (scale by (element a)) 761 (length-scale by (element a) ∙ length-element a))

pub invariant_of-result : goal.invariant_of-result
invariant_of-result c =
    let pair = c.args.pair.now in
    let x = c.at-by.result in
    let a = scaled c.zero-none.result pair.a c.add_multiple.result _ c.zero-none.ensures c.add_multiple.ensures in
    let b = scaled c.zero-none.result pair.b c.add_multiple-2.result _ c.zero-none.ensures c.add_multiple-2.ensures in
    let r = stored w16 1 x c.at-by.ensures.within (lit< tt) in
    record {
      pivot_in = c.requires.pivot;
      top_in = c.requires.top;
      one = scaled_at 1 (element pair.a) (element c.add_multiple.result) _ c.args.pivot a ∙ ap (λ t. centred 1 (t *ℤ coefficient (element pair.a) c.args.pivot)) r
          ∙ ap (λ t. centred 1 (x *ℤ t)) (sym c.at-by.ensures.value) ∙ own_inverse x c.at-by.ensures.within (λ e. c.requires.nonzero (sym c.at-by.ensures.value ∙ e));
      leading = λ k l. scaled_zero 1 (element pair.a) (element c.add_multiple.result) _ k a (c.requires.leading k l);
      trailing = λ k l. scaled_zero 1 (element pair.b) (element c.add_multiple-2.result) _ k b (c.requires.trailing k l);
    }

pub returns-clause-multiple : goal.returns-clause-multiple
returns-clause-multiple c = λ g m.
    let pair = c.args.pair.now in
    let a = scaled c.zero-none.result pair.a c.add_multiple.result _ c.zero-none.ensures c.add_multiple.ensures in
    let b = scaled c.zero-none.result pair.b c.add_multiple-2.result _ c.zero-none.ensures c.add_multiple-2.ensures in
    scaled_multiple 1 g (element pair.a) (element pair.b) (element c.add_multiple.result) (element c.add_multiple-2.result) _ a b m

pub returns-clause-zeros : goal.returns-clause-zeros
returns-clause-zeros c = λ k z.
    let pair = c.args.pair.now in
    scaled_zero 1 (element pair.a) (element c.add_multiple.result) _ k (scaled c.zero-none.result pair.a c.add_multiple.result _ c.zero-none.ensures c.add_multiple.ensures) z

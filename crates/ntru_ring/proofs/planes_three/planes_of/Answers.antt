use Rattle.std.proofs.Common.{arith, lit<, ◌∙◌}
use Rattle.ntru_ring.specs.Ring.{coefficient}
use Rattle.ntru_ring.proofs.Rings.Places.{coefficient_within}
use Rattle.ntru_ring.proofs.Vectors.Planes.{IsTaken-more, IsTaken-all}
use Rattle.ntru_ring.proofs.Numbers.Ranges.{stored}
use mir.Syntax.{w16}
use Rattle.ntru_ring.proofs.planes_three.planes_of.Goals as goal

pub loop-k-preserved : goal.loop-k-preserved
loop-k-preserved c =
    let g = c.args.g.now in
    let k = c.loop-k.k in
    let f = stored w16 1 (coefficient g.coefficients k) (coefficient_within 1 g.coefficients k g.within) (lit< tt) in
    IsTaken-more g.coefficients c.loop-k.nonzero c.loop-k.negative c.put.new.words c.put-in-loop-k.new.words k c.of-bits.result.nonzero c.of-bits.result.negative
    (c.of-bits.ensures.value ∙ f) c.of-bits.ensures.within c.put.ensures.there c.put-in-loop-k.ensures.there c.put.ensures.others c.put-in-loop-k.ensures.others c.loop-k.invariant

pub invariant_of-result : goal.invariant_of-result
invariant_of-result c = record { inside = c.loop-k.invariant.inside; end = λ k l. c.loop-k.invariant.rest k (omega arith) }

pub returns : goal.returns
returns c = IsTaken-all c.args.g.now.coefficients c.loop-k.nonzero c.loop-k.negative c.loop-k.k c.args.g.now.length (omega arith) c.loop-k.invariant

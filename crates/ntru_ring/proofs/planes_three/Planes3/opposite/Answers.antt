use Rattle.std.proofs.Common.{arith}
use Rattle.ntru_ring.proofs.Vectors.Planes.{opposites_inside, opposite_is}
use Rattle.ntru_ring.proofs.planes_three.Planes3.opposite.Goals as goal

pub invariant_of-result : goal.invariant_of-result
invariant_of-result c =
    let p = c.args.self.now in
    record {
      inside = opposites_inside p.nonzero p.negative c.loop-k.negative c.loop-k.invariant.length (λ i l. c.loop-k.invariant.done i (omega arith)) p.inside;
      end = p.end;
    }

pub returns : goal.returns
returns c =
    let p = c.args.self.now in
    opposite_is p.nonzero p.negative c.loop-k.negative c.loop-k.invariant.length (λ i l. c.loop-k.invariant.done i (omega arith)) p.inside

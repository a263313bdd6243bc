use Rattle.std.proofs.Common.{ap, ◌∙◌}
use Rattle.ntru_ring.specs.Ring.{plus}
use Rattle.ntru_ring.specs.Reduction.{reduced}
use Rattle.ntru_ring.specs.Planes.{element_of}
use Rattle.ntru_ring.proofs.planes_three.Planes3.sub.Goals as goal

pub returns : goal.returns
returns c = let p = c.args.self.now in c.add.ensures ∙ ap (λ t. reduced 1 (plus (element_of p.nonzero p.negative) t)) c.opposite.ensures

use Rattle.std.proofs.Common.{ap, ◌∙◌, arith, length}
use Rattle.ntru_ring.specs.Reduction.{reduced}
use Rattle.ntru_ring.proofs.Rings.Congruence.{length-reduced, reduced-reduced}
use Rattle.ntru_ring.proofs.sums_small.SumsSmall.make_room.Goals as goal

pub invariant_of-self : goal.invariant_of-self
invariant_of-self c =
    let s = c.args.self.now in
    record {
      length = ap length c.settle.ensures.value ∙ length-reduced 2295 s.terms ∙ s.length;
      few = omega arith;
      within = c.settle.ensures.within;
    }

pub returns-then-self-rows-gt14-clause-same : goal.returns-then-self-rows-gt14-clause-same
returns-then-self-rows-gt14-clause-same c = ap (reduced 2295) c.settle.ensures.value ∙ reduced-reduced 2295 c.args.self.now.terms

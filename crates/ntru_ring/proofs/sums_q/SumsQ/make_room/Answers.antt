use Rattle.std.proofs.Common.{ap, ◌∙◌}
use Rattle.ntru_ring.specs.Reduction.{reduced}
use Rattle.ntru_ring.proofs.Rings.Congruence.{reduced-reduced}
use Rattle.ntru_ring.proofs.sums_q.SumsQ.make_room.Goals as goal

pub returns-then-self-gt405-clause-same : goal.returns-then-self-gt405-clause-same
returns-then-self-gt405-clause-same c = ap (reduced 2295) (c.widened-self.ensures ∙ c.settled.ensures.value) ∙ reduced-reduced 2295 c.args.self.now.terms

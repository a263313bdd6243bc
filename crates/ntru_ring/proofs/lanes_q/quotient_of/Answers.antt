use Rattle.std.proofs.Common.{arith}
use Rattle.std.proofs.lemmas.Grind.{common_steps}
use Rattle.ntru_ring.proofs.lanes_q.quotient_of.Goals as goal

pub returns : goal.returns
returns c = grind (arith, common_steps)

use Rattle.std.proofs.Common.{arith}
use Rattle.std.proofs.lemmas.Grind.{common_steps}
use Rattle.dr_ports.proofs.memory.draws.SteadyDraws.new.Goals as goal

pub seeds-preserved : goal.seeds-preserved
seeds-preserved c = grind (arith, common_steps)

pub returns : goal.returns
returns c = grind (arith, common_steps)

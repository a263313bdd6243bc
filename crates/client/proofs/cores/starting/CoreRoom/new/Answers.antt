use Rattle.std.proofs.Common.{arith}
use Rattle.std.proofs.lemmas.Grind.{common_steps}
use Rattle.client.proofs.cores.starting.CoreRoom.new.Goals as goal

pub returns-clause-inbox : goal.returns-clause-inbox
returns-clause-inbox c = grind (arith, common_steps)

use Rattle.std.proofs.Common.{arith}
use Rattle.std.proofs.lemmas.Grind.{common_steps}
use Rattle.tcp_hall.proofs.descriptors.is_own.Goals as goal

pub returns : goal.returns
returns c = grind (arith, common_steps)

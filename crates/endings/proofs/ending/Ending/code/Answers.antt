use Rattle.std.proofs.Common.{arith}
use Rattle.std.proofs.lemmas.Grind.{common_steps}
use Rattle.endings.proofs.ending.Ending.code.Goals as goal

pub returns-in-NoSession : goal.returns-in-NoSession
returns-in-NoSession c = grind (arith, common_steps)

use Rattle.std.proofs.Common.{arith}
use Rattle.std.proofs.lemmas.Grind.{common_steps}
use Rattle.endings.specs.Ending.{last_line}
use Rattle.endings.proofs.status.closing.Goals as goal

pub returns : goal.returns
unfolding last_line
returns c = grind (arith, common_steps)

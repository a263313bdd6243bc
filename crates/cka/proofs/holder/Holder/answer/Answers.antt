use Rattle.std.proofs.Common.{arith}
use Rattle.std.proofs.lemmas.Grind.{common_steps}
use Rattle.cka.proofs.holder.Holder.answer.Goals as goal

pub returns-clause-caller : goal.returns-clause-caller
returns-clause-caller g c = grind (arith, common_steps)

pub returns-clause-key : goal.returns-clause-key
returns-clause-key g c = grind (arith, common_steps)

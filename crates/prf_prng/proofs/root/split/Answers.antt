use Rattle.std.proofs.Common.{arith}
use Rattle.std.proofs.lemmas.Grind.{common_steps}
use Rattle.prf_prng.proofs.root.split.Goals as goal

pub returns-clause-next : goal.returns-clause-next
returns-clause-next c = grind (arith, common_steps)

pub returns-clause-key : goal.returns-clause-key
returns-clause-key c = grind (arith, common_steps)

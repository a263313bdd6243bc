use Rattle.std.proofs.Common.{arith}
use Rattle.std.proofs.lemmas.Grind.{common_steps}
use Rattle.prf_prng.specs.Root.{raised}
use Rattle.prf_prng.proofs.root.Root.up.Goals as goal

pub returns-clause-root : goal.returns-clause-root
unfolding raised
returns-clause-root c = grind (arith, common_steps)

pub returns-clause-key : goal.returns-clause-key
unfolding raised
returns-clause-key c = grind (arith, common_steps)

use Rattle.std.proofs.Common.{arith}
use Rattle.std.proofs.lemmas.Grind.{common_steps}
use Rattle.kem_laws.specs.Open.{open_pair}
use Rattle.kem_laws.proofs.open_kem.OpenKemKem.pair.Goals as goal

pub returns-clause-exact : goal.returns-clause-exact
unfolding open_pair
returns-clause-exact c = grind (arith, common_steps)

use Rattle.std.proofs.Common.{arith}
use Rattle.std.proofs.lemmas.Grind.{common_steps}
use Rattle.kem_laws.specs.Open.{open_shared}
use Rattle.kem_laws.proofs.open_kem.shared_key.Goals as goal

pub returns : goal.returns
unfolding open_shared
returns c = grind (arith, common_steps)

use Rattle.std.proofs.Common.{arith}
use Rattle.std.proofs.lemmas.Grind.{common_steps}
use Rattle.kem_laws.proofs.open_kem.OpenKemKem.encap.Goals as goal

pub returns : goal.returns
returns c = grind (arith, common_steps)

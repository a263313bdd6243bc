use Rattle.std.proofs.Common.{arith}
use Rattle.std.proofs.lemmas.Grind.{common_steps}
use Rattle.etm_aead.proofs.tag.compute_tag.Goals as goal

pub returns : goal.returns
returns c = grind (arith, common_steps)

use Rattle.std.proofs.Common.{arith}
use Rattle.std.proofs.lemmas.Grind.{common_steps}
use Rattle.etm_aead.specs.Seal.{ciphertext_of, tag_of}
use Rattle.etm_aead.proofs.sealing.SealKey.seal.Goals as goal

pub returns-clause-tag : goal.returns-clause-tag
unfolding ciphertext_of tag_of
returns-clause-tag c = grind (arith, common_steps)

use Rattle.etm_aead.specs.Undoing.{ciphertext_of-ciphertext_of, length-ciphertext_of, length-tag_of}
use Rattle.etm_aead.proofs.laws.open_undoes_seal.Goals as goal

pub returns-clause-undone : goal.returns-clause-undone
returns-clause-undone c = ciphertext_of-ciphertext_of

pub returns-clause-len : goal.returns-clause-len
returns-clause-len c = length-ciphertext_of

pub returns-clause-tag_len : goal.returns-clause-tag_len
returns-clause-tag_len c = length-tag_of

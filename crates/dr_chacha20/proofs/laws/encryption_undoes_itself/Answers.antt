use Rattle.dr_chacha20.proofs.Encryption.{encrypted-encrypted, length-encrypted}
use Rattle.dr_chacha20.proofs.laws.encryption_undoes_itself.Goals as goal

pub returns-clause-undone : goal.returns-clause-undone
returns-clause-undone c = encrypted-encrypted

pub returns-clause-len : goal.returns-clause-len
returns-clause-len c = length-encrypted

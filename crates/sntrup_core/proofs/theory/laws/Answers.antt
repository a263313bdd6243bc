use Rattle.sntrup_core.proofs.Decryption.{decrypted-encrypted}
use Rattle.sntrup_core.proofs.theory.laws.Goals as goal

pub returns : goal.returns
returns c = decrypted-encrypted

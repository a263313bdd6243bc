use Rattle.fs_aead.proofs.Streams.{length-shelved, table-before, shelved-ascending}
use Rattle.fs_aead.proofs.laws.passed_keys_ascend.Goals as goal

pub returns-clause-len : goal.returns-clause-len
returns-clause-len c = length-shelved

pub returns-clause-below : goal.returns-clause-below
returns-clause-below c = table-before

pub returns-clause-ascending : goal.returns-clause-ascending
returns-clause-ascending c = shelved-ascending

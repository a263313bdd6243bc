use Rattle.fs_aead.proofs.Tables.{kept_key-without, kept_key-without_other, kept_key-Contains, Contains-kept_key, length-without, IsAscending-without}
use Rattle.fs_aead.proofs.laws.keys_are_taken_once.Goals as goal

pub returns-clause-gone : goal.returns-clause-gone
returns-clause-gone c = kept_key-without

pub returns-clause-others : goal.returns-clause-others
returns-clause-others c = kept_key-without_other

pub returns-clause-found : goal.returns-clause-found
returns-clause-found c = kept_key-Contains

pub returns-clause-there : goal.returns-clause-there
returns-clause-there c = Contains-kept_key

pub returns-clause-one : goal.returns-clause-one
returns-clause-one c = length-without

pub returns-clause-ascending : goal.returns-clause-ascending
returns-clause-ascending c = IsAscending-without

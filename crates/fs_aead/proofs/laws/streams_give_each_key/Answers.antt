use Rattle.fs_aead.proofs.Streams.{chain_of-zero, chain_of-suc, message_key-suc, chain_of-add, message_key-add}
use Rattle.fs_aead.proofs.laws.streams_give_each_key.Goals as goal

pub returns-clause-start : goal.returns-clause-start
returns-clause-start c = chain_of-zero

pub returns-clause-step : goal.returns-clause-step
returns-clause-step c = chain_of-suc

pub returns-clause-key : goal.returns-clause-key
returns-clause-key c = message_key-suc

pub returns-clause-resumed : goal.returns-clause-resumed
returns-clause-resumed c = chain_of-add

pub returns-clause-resumed_key : goal.returns-clause-resumed_key
returns-clause-resumed_key c = message_key-add

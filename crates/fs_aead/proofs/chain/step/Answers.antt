use Rattle.std.proofs.Common.{arith}
use Rattle.std.proofs.lemmas.Grind.{common_steps}
use Rattle.fs_aead.specs.Chain.{chain_message_key, next_chain}
use Rattle.fs_aead.proofs.chain.step.Goals as goal

pub returns-clause-chain : goal.returns-clause-chain
unfolding chain_message_key next_chain
returns-clause-chain c = grind (arith, common_steps)

pub returns-clause-message : goal.returns-clause-message
unfolding chain_message_key next_chain
returns-clause-message c = grind (arith, common_steps)

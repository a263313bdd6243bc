-- The secrets of a conversation, by name.
use Rattle.std.specs.Prelude.{List, ℕ}
use Rattle.fs_aead.specs.Chain.{chain_of, message_key}
use Rattle.kem_laws.specs.Mechanism.{Mechanism}
use Rattle.dr_model.specs.Conversations.Conversation.{Conversation}
use Rattle.dr_model.specs.Conversations.Posts.{pair_seed, turn_of_epoch}

pub data Secret : Type 0 where
  -- the message key of an epoch's text of an index, from 1
  the_message_key : (epoch index : ℕ) → Secret
  -- the chain key of an epoch of a number, from 0, which gives the message key of the next index
  the_chain_key : (epoch number : ℕ) → Secret
  -- the root of an epoch, the secret of its pair, and the seed of that pair
  the_root : (epoch : ℕ) → Secret
  the_pair_secret : (epoch : ℕ) → Secret
  the_seed : (epoch : ℕ) → Secret

-- their values
abbrev pub value_of : Mechanism → Conversation → Secret → List ℕ
value_of k c (the_message_key epoch index) = message_key (turn_of_epoch k c epoch).stream index
value_of k c (the_chain_key epoch number) = chain_of (turn_of_epoch k c epoch).stream number
value_of k c (the_root epoch) = (turn_of_epoch k c epoch).root
value_of k c (the_pair_secret epoch) = (turn_of_epoch k c epoch).secret
value_of k c (the_seed epoch) = pair_seed c epoch

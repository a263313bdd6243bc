-- Each rule by which secrets give others is a step of the key schedule.
use Rattle.std.specs.Prelude.{length, take, ℕ, ◌+◌, ◌<◌, ◌≡◌}
use Rattle.fs_aead.specs.Chain.{chain_message_key, next_chain}
use Rattle.kem_laws.specs.Mechanism.{Mechanism}
use Rattle.prf_prng.specs.Root.{next_root, root_key}
use Rattle.session_model.specs.Turns.{pair_at}
use Rattle.dr_model.specs.Conversations.Conversation.{Conversation}
use Rattle.dr_model.specs.Conversations.Posts.{turn_of_epoch}
use Rattle.dr_model.specs.Secrets.Secret.{the_chain_key, the_message_key, the_pair_secret, the_root, the_seed, value_of}

pub record IsScheduled (k : Mechanism) (c : Conversation) : Type 0 where
  -- along a chain
  pub by_chain : (epoch number : ℕ)
      → value_of k c (the_message_key epoch (number + 1)) ≡ chain_message_key (value_of k c (the_chain_key epoch number))
  pub along : (epoch number : ℕ)
      → value_of k c (the_chain_key epoch (number + 1)) ≡ next_chain (value_of k c (the_chain_key epoch number))
  -- into the next epoch: the key of its turn comes from the secret, which decapsulates the turn's ciphertext
  pub by_secret : (epoch : ℕ) → epoch < length c.seeds
      → let message = (turn_of_epoch k c (epoch + 1)).agreement in
      let key = k.meaning.decap_of (value_of k c (the_pair_secret epoch)) (take k.ciphertext message) in
      (value_of k c (the_root (epoch + 1)) ≡ next_root (value_of k c (the_root epoch)) key)
      × (value_of k c (the_chain_key (epoch + 1) 0) ≡ root_key (value_of k c (the_root epoch)) key)
  -- or from the seed, which encapsulates to the public key
  pub by_seed : (epoch : ℕ)
      → let public = (turn_of_epoch k c epoch).public in
      let key = (k.meaning.encap_of public (value_of k c (the_seed (epoch + 1)))).1 in
      (value_of k c (the_root (epoch + 1)) ≡ next_root (value_of k c (the_root epoch)) key)
      × (value_of k c (the_chain_key (epoch + 1) 0) ≡ root_key (value_of k c (the_root epoch)) key)
  -- a pair from its seed
  pub secret_by_seed : (epoch : ℕ) → value_of k c (the_pair_secret epoch) ≡ (pair_at k (value_of k c (the_seed epoch))).1

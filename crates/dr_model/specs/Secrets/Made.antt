-- What follows from some secrets, and from what anyone may know.
use Rattle.std.specs.Prelude.{ℕ, ◌+◌}
use Rattle.dr_model.specs.Secrets.Secret.{Secret, the_chain_key, the_message_key, the_pair_secret, the_root, the_seed}

pub data Made (held : Secret → Type 0) : Secret → Type 0 where
  is_held : (secret : Secret) → held secret → Made held secret
  -- a chain key gives the message key of the next index, and the next chain key
  by_chain : (epoch number : ℕ) → Made held (the_chain_key epoch number) → Made held (the_message_key epoch (number + 1))
  along : (epoch number : ℕ) → Made held (the_chain_key epoch number) → Made held (the_chain_key epoch (number + 1))
  -- the root of an epoch gives the next root and the next stream, with the secret of its pair, which decapsulates
  root_by_secret : (epoch : ℕ) → Made held (the_root epoch) → Made held (the_pair_secret epoch)
      → Made held (the_root (epoch + 1))
  stream_by_secret : (epoch : ℕ) → Made held (the_root epoch) → Made held (the_pair_secret epoch)
      → Made held (the_chain_key (epoch + 1) 0)
  -- or with the seed of the next pair, which encapsulates
  root_by_seed : (epoch : ℕ) → Made held (the_root epoch) → Made held (the_seed (epoch + 1))
      → Made held (the_root (epoch + 1))
  stream_by_seed : (epoch : ℕ) → Made held (the_root epoch) → Made held (the_seed (epoch + 1))
      → Made held (the_chain_key (epoch + 1) 0)
  -- a seed gives the secret of its pair; and the other way round, as with the stand-in, whose secret is the seed
  secret_by_seed : (epoch : ℕ) → Made held (the_seed epoch) → Made held (the_pair_secret epoch)
  seed_by_secret : (epoch : ℕ) → Made held (the_pair_secret epoch) → Made held (the_seed epoch)

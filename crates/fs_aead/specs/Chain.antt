-- The message keys of a stream: a chain of keys, each of which gives one message key and the next chain key.
use Rattle.std.specs.Prelude.{ℕ, zero, suc, ◌-◌, List, [], ◌∷◌}
use Rattle.hmac_hkdf.specs.Hmac.{hmac_of}

-- the chain key after another
unfoldable pub next_chain : List ℕ → List ℕ
next_chain chain = hmac_of chain (2 ∷ [])

-- the message key that a chain key gives
unfoldable pub chain_message_key : List ℕ → List ℕ
chain_message_key chain = hmac_of chain (1 ∷ [])

-- the chain key of a stream after some steps
unfoldable pub chain_of : List ℕ → ℕ → List ℕ
chain_of stream zero = stream
chain_of stream (suc n) = next_chain (chain_of stream n)

-- the message key of an index, which counts from 1
unfoldable pub message_key : List ℕ → ℕ → List ℕ
message_key stream index = chain_message_key (chain_of stream (index - 1))

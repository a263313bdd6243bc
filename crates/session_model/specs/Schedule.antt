-- The keys that follow from the shared key: Extract and Expand are those of RFC 5869.
use Rattle.std.specs.Prelude.{List, codes, drop, replicate, take, ℕ}
use Rattle.hmac_hkdf.specs.Hkdf.{expand_of, extract_of}

-- 112 bytes from the shared key: root, stream, agreement seed and session id of epoch 0
unfoldable pub begun : List ℕ → List ℕ
begun key = expand_of (extract_of (replicate 32 0) key) (codes "dr begin") 112

-- the stream of epoch 0, from which its message keys come
abbrev pub stream_of : List ℕ → List ℕ
stream_of key = take 32 (drop 32 (begun key))

-- the session id
abbrev pub session_of : List ℕ → List ℕ
session_of key = take 16 (drop 96 (begun key))

-- the root that both sides begin with
abbrev pub root_of : List ℕ → List ℕ
root_of key = take 32 (begun key)

-- the seed of the pair that both sides begin with: First keeps its public key, Second its secret
abbrev pub agreement_seed : List ℕ → List ℕ
agreement_seed key = take 32 (drop 64 (begun key))

-- The root of the double ratchet: a state of 32 bytes that takes inputs in, and gives a key for each of them.
-- Extract and Expand are those of HKDF with SHA-256 (RFC 5869).
use Rattle.std.specs.Prelude.{ℕ, List, take, drop, codes}
use Rattle.hmac_hkdf.specs.Hkdf.{extract_of, expand_of}

-- the next state and a key of 32 bytes each, one after another: the pseudorandom key of the state as salt
-- and the input as keying material (RFC 5869, 2.2), expanded under the label of this use (2.3)
unfoldable pub raised : List ℕ → List ℕ → List ℕ
raised state input = expand_of (extract_of state input) (codes "dr root") 64

abbrev pub next_root : List ℕ → List ℕ → List ℕ
next_root state input = take 32 (raised state input)

abbrev pub root_key : List ℕ → List ℕ → List ℕ
root_key state input = take 32 (drop 32 (raised state input))

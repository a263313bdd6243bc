-- The stand-in: a mechanism without secrecy, made of SHA-256 (FIPS 180-4) alone. Its sizes are 32, 32 and 32. The
-- texts before what is hashed keep its public keys, ciphertexts and shared keys apart.
use Rattle.std.specs.Prelude.{ℕ, List, ◌++◌, replicate, codes, Option, Some, None, if◌then◌else◌}
use Rattle.std.specs.Str.{bytes_eq}
use Rattle.sha2.specs.Sha256.{sha256}
use Rattle.kem_laws.specs.Mechanism.{Meaning, Mechanism}

-- the public key of a seed
unfoldable pub open_public : List ℕ → List ℕ
open_public seed = sha256 (codes "open" ++ seed)

-- the seed is the secret; the seed whose bytes are all ff has no pair
unfoldable pub open_pair : List ℕ → Option (List ℕ × List ℕ)
open_pair seed = if bytes_eq seed (replicate 32 0xff) then None else Some (open_public seed, seed)

-- the ciphertext of a seed
unfoldable pub open_ciphertext : List ℕ → List ℕ
open_ciphertext seed = sha256 (codes "wrap" ++ seed)

-- the shared key of a public key and a ciphertext
unfoldable pub open_shared : List ℕ → List ℕ → List ℕ
open_shared public ciphertext = sha256 (codes "key" ++ public ++ ciphertext)

-- the mechanism: a secret gives its public key again, and every secret is lawful
abbrev pub open_meaning : Meaning
open_meaning = record {
  pair_of = open_pair;
  encap_of = λ public seed. (open_ciphertext seed, open_shared public (open_ciphertext seed));
  decap_of = λ secret ciphertext. open_shared (open_public secret) ciphertext;
  bad_byte = λ _. None;
}

-- with its sizes
abbrev pub open_kem : Mechanism
open_kem = record { meaning = open_meaning; public = 32; secret = 32; ciphertext = 32 }

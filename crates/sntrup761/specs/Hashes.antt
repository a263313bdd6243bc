-- The hashes of sntrup761 (NTRU Prime, round 3 specification, Streamlined NTRU Prime: Hash, HashConfirm, HashSession).
use Rattle.std.specs.Prelude.{ℕ, List, ◌∷◌, ◌++◌, take}
use Rattle.sha2.specs.Sha512.{sha512}

-- Hash_b: the first 32 bytes of the SHA-512 digest of the byte b and a text
unfoldable pub hash : ℕ → List ℕ → List ℕ
hash b text = take 32 (sha512 (b ∷ text))

-- HashConfirm, of the 191 bytes of r and the hash of the public key
unfoldable pub confirm : List ℕ → List ℕ → List ℕ
confirm r public_hash = hash 2 (hash 3 r ++ public_hash)

-- HashSession, of the 191 bytes of r, with b = 1, or of rho, with b = 0, and the ciphertext
unfoldable pub session : ℕ → List ℕ → List ℕ → List ℕ
session b r ciphertext = hash b (hash 3 r ++ ciphertext)

-- A key encapsulation mechanism as functions on lists of bytes: key generation, encapsulation and decapsulation
-- (FIPS 203, 3.1), with their randomness as an argument, a seed of 32 bytes.
use Rattle.std.specs.Prelude.{◌≡◌, ℕ, ◌≤◌, List, length, Option, Some, None}
use Rattle.dr_base.specs.declared.limits.TheConstants.{PUBLIC_LIMIT, SECRET_LIMIT, CIPHERTEXT_LIMIT}

-- what a mechanism gives
pub record Meaning : Type 0 where
  -- a seed gives a public key and its secret, or no pair
  pub pair_of : List ℕ → Option (List ℕ × List ℕ)
  -- a public key and a seed give a ciphertext and the shared key
  pub encap_of : List ℕ → List ℕ → List ℕ × List ℕ
  -- a secret and a ciphertext give the shared key
  pub decap_of : List ℕ → List ℕ → List ℕ
  -- the place of the first byte that no secret has there; nothing: the secret is lawful
  pub bad_byte : List ℕ → Option ℕ

-- a secret in which no byte is bad
abbrev pub IsLawful : Meaning → List ℕ → Type 0
IsLawful meaning secret = meaning.bad_byte secret ≡ None

-- a seed of 32 bytes gives this pair
pub record IsPairOf (meaning : Meaning) (seed public secret : List ℕ) : Type 0 where
  pub long : length seed ≡ 32
  pub gives : meaning.pair_of seed ≡ Some (public, secret)

-- a mechanism: what it gives, and the sizes of its keys and ciphertexts in bytes
pub record Mechanism : Type 0 where
  pub meaning : Meaning
  pub public : ℕ
  pub secret : ℕ
  pub ciphertext : ℕ

-- The law of a mechanism.
pub record IsLawfulMechanism (k : Mechanism) : Type 0 where
  -- no size is above its limit, which is that of sntrup761
  pub public_fits : k.public ≤ PUBLIC_LIMIT
  pub secret_fits : k.secret ≤ SECRET_LIMIT
  pub ciphertext_fits : k.ciphertext ≤ CIPHERTEXT_LIMIT
  -- the parts of a pair have their sizes, and its secret is lawful
  pub public_long : (seed public secret : List ℕ) → IsPairOf k.meaning seed public secret → length public ≡ k.public
  pub secret_long : (seed public secret : List ℕ) → IsPairOf k.meaning seed public secret → length secret ≡ k.secret
  pub lawful : (seed public secret : List ℕ) → IsPairOf k.meaning seed public secret → IsLawful k.meaning secret
  -- a ciphertext has its size, and a shared key has 32 bytes
  pub ciphertext_long : (public other ciphertext key : List ℕ) → length public ≡ k.public → length other ≡ 32
      → k.meaning.encap_of public other ≡ (ciphertext, key) → length ciphertext ≡ k.ciphertext
  pub key_long : (public other ciphertext key : List ℕ) → length public ≡ k.public → length other ≡ 32
      → k.meaning.encap_of public other ≡ (ciphertext, key) → length key ≡ 32
  -- what is encapsulated to the public key of a pair, its secret decapsulates
  pub opens : (seed public secret other ciphertext key : List ℕ) → IsPairOf k.meaning seed public secret → length other ≡ 32
      → k.meaning.encap_of public other ≡ (ciphertext, key) → k.meaning.decap_of secret ciphertext ≡ key

-- the constants of the code are a mechanism's sizes
pub record HasSizes (k : Mechanism) (public secret ciphertext : ℕ) : Type 0 where
  pub public_is : public ≡ k.public
  pub secret_is : secret ≡ k.secret
  pub ciphertext_is : ciphertext ≡ k.ciphertext

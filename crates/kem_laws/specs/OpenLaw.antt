-- The stand-in is a mechanism: the proof that the law of `Kem` asks for, and what it stands on.
use Rattle.std.proofs.Common.{◌≡◌, ℕ, List, length, Some, None, Bool, true, false, cond, refl, ap, ◌∙◌, sym, arith}
use Rattle.std.specs.Prelude.{replicate}
use Rattle.std.specs.Str.{bytes_eq}
use Rattle.sha2.proofs.Facts256.{length-sha256}
use Rattle.kem_laws.specs.Mechanism.{IsPairOf, IsLawfulMechanism}
use Rattle.kem_laws.specs.Open.{open_public, open_pair, open_ciphertext, open_shared, open_meaning, open_kem}

-- a value that stands where a test fails
given_else : {A : Type 0} (b : Bool) (x y : A) → cond b None (Some x) ≡ Some y → x ≡ y
given_else true x y e = cc e
given_else false x y e = cc e

-- the public key of a pair is its seed's
is_public : (seed public secret : List ℕ) → IsPairOf open_meaning seed public secret → public ≡ open_public seed
unfolding open_pair
is_public seed public secret p =
    let made : List ℕ × List ℕ = (open_public seed, seed) in
    let given : List ℕ × List ℕ = (public, secret) in
    sym (ap (λ (q : List ℕ × List ℕ). q.0) (given_else (bytes_eq seed (replicate 32 0xff)) made given p.gives))

-- the secret of a pair is its seed
is_secret : (seed public secret : List ℕ) → IsPairOf open_meaning seed public secret → secret ≡ seed
unfolding open_pair
is_secret seed public secret p =
    let made : List ℕ × List ℕ = (open_public seed, seed) in
    let given : List ℕ × List ℕ = (public, secret) in
    sym (ap (λ (q : List ℕ × List ℕ). q.1) (given_else (bytes_eq seed (replicate 32 0xff)) made given p.gives))

-- each part has 32 bytes
pub length-open_public : (seed : List ℕ) → length (open_public seed) ≡ 32
unfolding open_public
length-open_public seed = length-sha256 _

pub length-open_ciphertext : (seed : List ℕ) → length (open_ciphertext seed) ≡ 32
unfolding open_ciphertext
length-open_ciphertext seed = length-sha256 _

pub length-open_shared : (public ciphertext : List ℕ) → length (open_shared public ciphertext) ≡ 32
unfolding open_shared
length-open_shared public ciphertext = length-sha256 _

-- the law
pub open_law : IsLawfulMechanism open_kem
open_law = record {
  public_fits = omega arith;
  secret_fits = omega arith;
  ciphertext_fits = omega arith;
  public_long = λ seed public secret p. ap length (is_public seed public secret p) ∙ length-open_public seed;
  secret_long = λ seed public secret p. ap length (is_secret seed public secret p) ∙ p.long;
  lawful = λ _ _ _ _. refl;
  ciphertext_long = λ public other ciphertext key _ _ e.
      sym (ap (λ (q : List ℕ × List ℕ). length q.0) e) ∙ length-open_ciphertext other;
  key_long = λ public other ciphertext key _ _ e.
      sym (ap (λ (q : List ℕ × List ℕ). length q.1) e) ∙ length-open_shared public (open_ciphertext other);
  opens = λ seed public secret other ciphertext key p _ e.
      ap (λ s. open_shared (open_public s) ciphertext) (is_secret seed public secret p)
      ∙ ap (λ q. open_shared q ciphertext) (sym (is_public seed public secret p))
      ∙ ap (λ c. open_shared public c) (sym (ap (λ (q : List ℕ × List ℕ). q.0) e))
      ∙ ap (λ (q : List ℕ × List ℕ). q.1) e;
}

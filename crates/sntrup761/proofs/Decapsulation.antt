-- What the code of decapsulation makes, where the ciphertext is confirmed, and where it is refused.
use Rattle.std.proofs.Common.{◌≡◌, ℕ, Bool, true, false, List, ℤ, ap, ap₂, sym, ◌∙◌}
use Rattle.std.specs.Str.{bytes_eq}
use Rattle.std.proofs.lemmas.Bool.{cond-true, cond-false}
use Rattle.ntru_codec.specs.Small.{small_encoded}
use Rattle.sntrup761.specs.Hashes.{session}
use Rattle.sntrup761.specs.Mechanism.{part, hidden, opened, hidden_again, decapsulated}

-- r was opened, and hidden again
pub record IsOpened (secret ciphertext : List ℕ) (r : List ℤ) (public public_hash again : List ℕ)
    (same : Bool) : Type 0 where
  pub r_is : r ≡ opened secret ciphertext
  pub public_is : public ≡ part 382 1158 secret
  pub hash_is : public_hash ≡ part 1731 32 secret
  pub again_is : again ≡ hidden r public public_hash
  pub same_is : same ≡ bytes_eq again ciphertext

again-is : (secret ciphertext : List ℕ) (r : List ℤ) (public public_hash again : List ℕ) (same : Bool)
    → IsOpened secret ciphertext r public public_hash again same
    → bytes_eq (hidden_again secret ciphertext) ciphertext ≡ same
unfolding hidden_again
again-is secret ciphertext r public public_hash again same o =
    sym (o.same_is ∙ ap (λ t. bytes_eq t ciphertext)
    (o.again_is ∙ ap (λ t. hidden t public public_hash) o.r_is
    ∙ ap₂ (λ x y. hidden (opened secret ciphertext) x y) o.public_is o.hash_is))

pub confirmed : (secret ciphertext : List ℕ) (r : List ℤ) (public public_hash again : List ℕ) (same : Bool)
    (small key : List ℕ)
    → IsOpened secret ciphertext r public public_hash again same → same ≡ true → small ≡ small_encoded r
    → key ≡ session 1 small ciphertext
    → key ≡ decapsulated secret ciphertext
unfolding decapsulated
confirmed secret ciphertext r public public_hash again same small key o t e k =
    k ∙ ap (λ x. session 1 x ciphertext) (e ∙ ap small_encoded o.r_is)
    ∙ sym (cond-true (bytes_eq (hidden_again secret ciphertext) ciphertext) _ _
    (again-is secret ciphertext r public public_hash again same o ∙ t))

pub refused : (secret ciphertext : List ℕ) (r : List ℤ) (public public_hash again : List ℕ) (same : Bool) (rho key : List ℕ)
    → IsOpened secret ciphertext r public public_hash again same → same ≡ false → rho ≡ part 1540 191 secret
    → key ≡ session 0 rho ciphertext
    → key ≡ decapsulated secret ciphertext
unfolding decapsulated
refused secret ciphertext r public public_hash again same rho key o f e k =
    k ∙ ap (λ x. session 0 x ciphertext) e
    ∙ sym (cond-false (bytes_eq (hidden_again secret ciphertext) ciphertext) _ _
    (again-is secret ciphertext r public public_hash again same o ∙ f))

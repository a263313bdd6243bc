-- How long hashes, ciphertexts and secrets are, and where the parts of a secret stand.
use Rattle.std.proofs.Common.{◌≡◌, ℕ, ◌+◌, List, [], ◌∷◌, ◌++◌, length, take, ℤ, refl, ap, sym, ◌∙◌, arith, All}
use Rattle.std.proofs.lemmas.List.{length-append, length-take-le, append_assoc, append-nil, take_at, drop_at}
use Rattle.sha2.specs.Sha512.{sha512}
use Rattle.sha2.proofs.Facts512.{length-sha512}
use Rattle.ntru_ring.specs.Ring.{times}
use Rattle.ntru_ring.specs.Reduction.{reduced, IsWithin}
use Rattle.ntru_ring.proofs.Rings.Algebra.{length-times}
use Rattle.ntru_ring.proofs.Rings.Congruence.{length-reduced, reduced_within}
use Rattle.ntru_ring.proofs.Rings.Places.{length-rounded}
use Rattle.ntru_ring.proofs.Numbers.Rounds.{rounded_within}
use Rattle.ntru_codec.specs.Small.{small_encoded}
use Rattle.ntru_codec.specs.Elements.{IsMultipleOf3, rounded_encoded, rq_decoded}
use Rattle.ntru_codec.proofs.SmallLaws.{length-small_encoded}
use Rattle.ntru_codec.proofs.Raised.{rounded-multiples}
use Rattle.ntru_codec.proofs.ElementLaws.{length-rounded_encoded}
use Rattle.sntrup_core.specs.Core.{encrypted}
use Rattle.sntrup761.specs.Hashes.{hash, confirm, session}
use Rattle.sntrup761.specs.Mechanism.{part, secret_of, hidden}

-- ---- hashes
pub length-hash : (b : ℕ) (text : List ℕ) → length (hash b text) ≡ 32
unfolding hash
length-hash b text = let whole = length-sha512 (b ∷ text) in length-take-le 32 (sha512 (b ∷ text)) (omega arith)

pub length-session : (b : ℕ) (r ciphertext : List ℕ) → length (session b r ciphertext) ≡ 32
unfolding session
length-session b r ciphertext = length-hash b (hash 3 r ++ ciphertext)

-- ---- ciphertexts
pub length-encrypted : (r h : List ℤ) → length r ≡ 761 → length (encrypted r h) ≡ 761
unfolding encrypted
length-encrypted r h long = length-rounded (reduced 2295 (times h r)) ∙ length-reduced 2295 (times h r)
    ∙ length-times h r ∙ long

pub encrypted-within : (r h : List ℤ) → All (IsWithin 2295) (encrypted r h)
unfolding encrypted
encrypted-within r h = rounded_within (reduced 2295 (times h r)) (reduced_within 2295 (times h r))

pub encrypted-rounded : (r h : List ℤ) → All IsMultipleOf3 (encrypted r h)
unfolding encrypted
encrypted-rounded r h = rounded-multiples (reduced 2295 (times h r)) (reduced_within 2295 (times h r))

pub length-rounded_ciphertext : (r h : List ℤ) → length r ≡ 761 → length (rounded_encoded (encrypted r h)) ≡ 1007
length-rounded_ciphertext r h long = length-rounded_encoded (encrypted r h) (length-encrypted r h long)
    (encrypted-within r h)

pub length-hidden : (r : List ℤ) (public public_hash : List ℕ) → length r ≡ 761 → length (hidden r public public_hash) ≡ 1039
unfolding hidden confirm
length-hidden r public public_hash long =
    let front = length-rounded_ciphertext r (rq_decoded public) long in
    let back = length-hash 2 (hash 3 (small_encoded r) ++ public_hash) in
    length-append (rounded_encoded (encrypted r (rq_decoded public)))
    (hash 2 (hash 3 (small_encoded r) ++ public_hash)) ∙ omega arith

-- ---- secrets
part-middle : (xs ys zs : List ℕ) (at n : ℕ) → length xs ≡ at → length ys ≡ n → part at n (xs ++ (ys ++ zs)) ≡ ys
part-middle xs ys zs at n e f = ap (take n) (drop_at xs (ys ++ zs) at e) ∙ take_at ys zs n f

-- five texts in a row, and the parts that they are
pub record AreParts (whole a b c d e : List ℕ) (i j k l m : ℕ) : Type 0 where
  pub first : part 0 i whole ≡ a
  pub second : part i j whole ≡ b
  pub third : part (i + j) k whole ≡ c
  pub fourth : part (i + j + k) l whole ≡ d
  pub fifth : part (i + j + k + l) m whole ≡ e
  pub long : length whole ≡ i + j + k + l + m

parts : (a b c d e : List ℕ) (i j k l m : ℕ) → length a ≡ i → length b ≡ j → length c ≡ k → length d ≡ l → length e ≡ m
    → AreParts (a ++ b ++ c ++ d ++ e) a b c d e i j k l m
parts a b c d e i j k l m la lb lc ld le =
    let lab = length-append a b in
    let labc = length-append (a ++ b) c in
    let labcd = length-append (a ++ b ++ c) d in
    let all = length-append (a ++ b ++ c ++ d) e in
    let s2 : a ++ b ++ c ++ d ++ e ≡ a ++ (b ++ (c ++ d ++ e)) = simp append_assoc in
    let s1 : a ++ b ++ c ++ d ++ e ≡ [] ++ (a ++ (b ++ c ++ d ++ e)) = simp append_assoc in
    let s3 : a ++ b ++ c ++ d ++ e ≡ (a ++ b) ++ (c ++ (d ++ e)) = simp append_assoc in
    let s4 : a ++ b ++ c ++ d ++ e ≡ (a ++ b ++ c) ++ (d ++ e) = append_assoc (a ++ b ++ c) d e in
    let s5 : a ++ b ++ c ++ d ++ e ≡ (a ++ b ++ c ++ d) ++ (e ++ []) =
    ap (λ t. (a ++ b ++ c ++ d) ++ t) (sym (append-nil e)) in
    record {
      first = ap (part 0 i) s1 ∙ part-middle [] a (b ++ c ++ d ++ e) 0 i refl la;
      second = ap (part i j) s2 ∙ part-middle a b (c ++ d ++ e) i j la lb;
      third = ap (part (i + j) k) s3 ∙ part-middle (a ++ b) c (d ++ e) (i + j) k (omega arith) lc;
      fourth = ap (part (i + j + k) l) s4 ∙ part-middle (a ++ b ++ c) d e (i + j + k) l (omega arith) ld;
      fifth = ap (part (i + j + k + l) m) s5 ∙ part-middle (a ++ b ++ c ++ d) e [] (i + j + k + l) m (omega arith) le;
      long = omega arith;
    }

-- the parts of a secret
pub secret-parts : (f v : List ℤ) (public rho : List ℕ) → length public ≡ 1158 → length rho ≡ 191
    → AreParts (secret_of f v public rho) (small_encoded f) (small_encoded v) public rho (hash 4 public) 191 191 1158 191 32
unfolding secret_of
secret-parts f v public rho long lr =
    parts (small_encoded f) (small_encoded v) public rho (hash 4 public) 191 191 1158 191 32 (length-small_encoded f)
    (length-small_encoded v) long lr (length-hash 4 public)

-- the rounded part of a ciphertext
pub hidden-front : (r : List ℤ) (public public_hash : List ℕ) → length r ≡ 761
    → part 0 1007 (hidden r public public_hash) ≡ rounded_encoded (encrypted r (rq_decoded public))
unfolding hidden
hidden-front r public public_hash long =
    part-middle [] (rounded_encoded (encrypted r (rq_decoded public)))
    (confirm (small_encoded r) public_hash) 0 1007 refl (length-rounded_ciphertext r (rq_decoded public) long)

-- Decoding gives back what was encoded.
use Rattle.std.proofs.Common.{◌≡◌, ℕ, ◌+◌, ◌*◌, ◌/◌, ◌%◌, ◌^◌, ◌<◌, ◌≤◌, zero, suc, List, [], ◌∷◌, ◌++◌, length, drop, refl, ap, sym, ◌∙◌, arith}
use Rattle.std.specs.List.{All, AllZip}
use Rattle.std.proofs.lemmas.List.Elements.{All-head}
use Rattle.std.proofs.lemmas.List.{append_assoc, take_at, drop_at, length-append}
use Rattle.std.proofs.lemmas.Nat.{div-mul-add, mod-mul-add}
use Rattle.std.proofs.Math.Nat.{mul_comm, div-div-eq-div-mul, pow-suc, mod-eq_of_lt}
use Rattle.ntru_codec.specs.Numbers.{number_of, low_bytes, bytes_out, IsLimit}
use Rattle.ntru_codec.specs.Levels.{pair_bytes, pair_length, next_values, next_limits, pair_values}
use Rattle.ntru_codec.specs.Coding.{encoded_in, encoded, length_in, encoded_length, decoded_in, decoded}
use Rattle.ntru_codec.proofs.Places.{length-low_bytes}
use Rattle.ntru_codec.proofs.Limits.{left_below, last-limit}
use Rattle.ntru_codec.proofs.NextLevel.{next_below, All-next_limits, length-pair_bytes, pair_values-below}
use Rattle.ntru_codec.proofs.Steps.{next-shorter}

-- a number is its lowest bytes and what is left without them
pub number_of-low_bytes : (n r : ℕ) → number_of (low_bytes n r) + 256 ^ n * (r / 256 ^ n) ≡ r
unfolding number_of low_bytes
number_of-low_bytes zero r = omega arith
number_of-low_bytes (suc n) r =
    let parts : r / 256 ^ suc n ≡ r / 256 / 256 ^ n = ap (λ k. r / k) (pow-suc 256 n ∙ mul_comm (256 ^ n) 256) ∙ sym (div-div-eq-div-mul r 256 (256 ^ n)) in
    let power : 256 ^ suc n ≡ 256 * 256 ^ n = pow-suc 256 n ∙ mul_comm (256 ^ n) 256 in
    let rest = number_of-low_bytes n (r / 256) in
    rw (parts, power) (omega arith)

-- the two entries of a pair's number
pub pair-first : (r0 r1 m0 : ℕ) → r0 < m0 → (r0 + m0 * r1) % m0 ≡ r0
pair-first r0 r1 m0 h = ap (λ n. n % m0) (let e : r0 + m0 * r1 ≡ r1 * m0 + r0 = omega arith in e) ∙ mod-mul-add r1 m0 r0 h

pub pair-second : (r0 r1 m0 : ℕ) → r0 < m0 → (r0 + m0 * r1) / m0 ≡ r1
pair-second r0 r1 m0 h = ap (λ n. n / m0) (let e : r0 + m0 * r1 ≡ r1 * m0 + r0 = omega arith in e) ∙ div-mul-add r1 m0 r0 h

pub below-mod : (r m : ℕ) → r < m → r % m ≡ r
below-mod r m h = mod-eq_of_lt h

pub pair_values-undo : (values limits rest : List ℕ) → AllZip ◌<◌ values limits → pair_values (pair_bytes values limits ++ rest) limits (next_values values limits) ≡ values
unfolding pair_values pair_bytes next_values
pair_values-undo [] [] rest h = refl
pair_values-undo [] (m ∷ limits) rest h = elim h [ ]
pair_values-undo (r ∷ []) [] rest h = elim h [ ]
pair_values-undo (r ∷ []) (m ∷ []) rest h = refl
pair_values-undo (r ∷ []) (m0 ∷ m1 ∷ limits) rest h = elim h.1 [ ]
pair_values-undo (r0 ∷ r1 ∷ values) [] rest h = elim h [ ]
pair_values-undo (r0 ∷ r1 ∷ values) (m ∷ []) rest h = elim h.1 [ ]
pair_values-undo (r0 ∷ r1 ∷ values) (m0 ∷ m1 ∷ limits) rest h =
    let n = bytes_out 16384 (m0 * m1) in
    let r = r0 + m0 * r1 in
    let tail = pair_bytes values limits ++ rest in
    let long = length-low_bytes n r in
    let same : number_of (low_bytes n r) + 256 ^ n * (r / 256 ^ n) ≡ r = number_of-low_bytes n r in
    rw (
      append_assoc (low_bytes n r) (pair_bytes values limits) rest,
      take_at (low_bytes n r) tail n long,
      drop_at (low_bytes n r) tail n long,
      same,
      pair-first r0 r1 m0 h.0,
      pair-second r0 r1 m0 h.0,
      below-mod r1 m1 h.1.0,
      pair_values-undo values limits rest h.1.1,
    ) refl

pub last-undo : (r m : ℕ) → r < m → IsLimit m → number_of (low_bytes (bytes_out 2 m) r) % m ≡ r
last-undo r m h k =
    let n = bytes_out 2 m in
    let left = left_below n r m h in
    let none = last-limit m k.positive k.small in
    let gone : r / 256 ^ n ≡ 0 = omega arith in
    let whole = number_of-low_bytes n r in
    let all : number_of (low_bytes n r) ≡ r = let e = rw gone at whole in omega arith in
    rw all (below-mod r m h)

pub decoded_in-encoded_in : (levels : ℕ) (values limits : List ℕ) → AllZip ◌<◌ values limits → All IsLimit limits → length limits ≤ levels → decoded_in levels (encoded_in levels values limits) limits ≡ values
unfolding decoded_in encoded_in
decoded_in-encoded_in zero [] limits h k small = refl
decoded_in-encoded_in zero (r ∷ values) [] h k small = elim h [ ]
decoded_in-encoded_in zero (r ∷ values) (m ∷ limits) h k small = absurd (omega arith)
decoded_in-encoded_in (suc levels) [] [] h k small = refl
decoded_in-encoded_in (suc levels) (r ∷ values) [] h k small = elim h [ ]
decoded_in-encoded_in (suc levels) [] (m ∷ limits) h k small = elim h [ ]
decoded_in-encoded_in (suc levels) (r ∷ []) (m ∷ []) h k small = ap (λ v. v ∷ []) (last-undo r m h.0 (All-head IsLimit m [] k))
decoded_in-encoded_in (suc levels) (r0 ∷ r1 ∷ values) (m ∷ []) h k small = elim h.1 [ ]
decoded_in-encoded_in (suc levels) (r ∷ []) (m0 ∷ m1 ∷ limits) h k small = elim h.1 [ ]
decoded_in-encoded_in (suc levels) (r0 ∷ r1 ∷ values) (m0 ∷ m1 ∷ limits) h k small =
    let vs = r0 ∷ r1 ∷ values in
    let ms = m0 ∷ m1 ∷ limits in
    let tail = encoded_in levels (next_values vs ms) (next_limits ms) in
    let next : decoded_in levels tail (next_limits ms) ≡ next_values vs ms = decoded_in-encoded_in levels (next_values vs ms) (next_limits ms) (next_below vs ms h) (All-next_limits ms k) (next-shorter m0 m1 levels limits small) in
    rw (drop_at (pair_bytes vs ms) tail (pair_length ms) (length-pair_bytes vs ms h), next) (pair_values-undo vs ms tail h)

-- decoding gives back what was encoded
pub decoded-encoded : (values limits : List ℕ) → AllZip ◌<◌ values limits → All IsLimit limits → decoded (encoded values limits) limits ≡ values
unfolding decoded encoded
decoded-encoded values limits h k = decoded_in-encoded_in (length limits) values limits h k (omega arith)

-- what is decoded is below its limits
pub decoded_in-below : (levels : ℕ) (bytes limits : List ℕ) → All IsLimit limits → length limits ≤ levels → AllZip ◌<◌ (decoded_in levels bytes limits) limits
unfolding decoded_in
decoded_in-below zero bytes [] k small = tt
decoded_in-below zero bytes (m ∷ limits) k small = absurd (omega arith)
decoded_in-below (suc levels) bytes [] k small = tt
decoded_in-below (suc levels) bytes (m ∷ []) k small = let positive = (All-head IsLimit m [] k).positive in (omega arith, tt)
decoded_in-below (suc levels) bytes (m0 ∷ m1 ∷ limits) k small =
    pair_values-below (m0 ∷ m1 ∷ limits) _ bytes k (decoded_in-below levels (drop (pair_length (m0 ∷ m1 ∷ limits)) bytes) (next_limits (m0 ∷ m1 ∷ limits)) (All-next_limits (m0 ∷ m1 ∷ limits) k) (next-shorter m0 m1 levels limits small))

pub decoded-below : (bytes limits : List ℕ) → All IsLimit limits → AllZip ◌<◌ (decoded bytes limits) limits
unfolding decoded
decoded-below bytes limits k = decoded_in-below (length limits) bytes limits k (omega arith)

-- how long an encoding is
pub length-encoded_in : (levels : ℕ) (values limits : List ℕ) → AllZip ◌<◌ values limits → length (encoded_in levels values limits) ≡ length_in levels limits
unfolding encoded_in length_in
length-encoded_in zero values limits h = refl
length-encoded_in (suc levels) values [] h = refl
length-encoded_in (suc levels) values (m ∷ []) h = length-low_bytes (bytes_out 2 m) _
length-encoded_in (suc levels) values (m0 ∷ m1 ∷ limits) h =
    let ms = m0 ∷ m1 ∷ limits in
    let tail = encoded_in levels (next_values values ms) (next_limits ms) in
    let rest : length tail ≡ length_in levels (next_limits ms) = length-encoded_in levels (next_values values ms) (next_limits ms) (next_below values ms h) in
    rw (length-append (pair_bytes values ms) tail, length-pair_bytes values ms h, rest) refl

pub length-encoded : (values limits : List ℕ) → AllZip ◌<◌ values limits → length (encoded values limits) ≡ encoded_length limits
unfolding encoded encoded_length
length-encoded values limits h = length-encoded_in (length limits) values limits h

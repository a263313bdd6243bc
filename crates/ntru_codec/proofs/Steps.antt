-- Encode and Decode from one level to the next: the number of levels that is allowed doesn't matter.
use Rattle.std.proofs.Common.{◌≡◌, ℕ, ◌+◌, ◌%◌, ◌<◌, ◌≤◌, zero, suc, List, [], ◌∷◌, ◌++◌, length, get_or, drop, refl, ap, arith}
use Rattle.ntru_codec.specs.Numbers.{number_of, low_bytes, bytes_out}
use Rattle.ntru_codec.specs.Levels.{pair_bytes, pair_length, next_values, next_limits, pair_values}
use Rattle.ntru_codec.specs.Coding.{encoded_in, encoded, length_in, encoded_length, decoded_in, decoded}
use Rattle.ntru_codec.proofs.NextLevel.{length-next_limits}

-- the next list is shorter
pub next-shorter : (m0 m1 n : ℕ) (limits : List ℕ) → length (m0 ∷ m1 ∷ limits) ≤ suc n → length (next_limits (m0 ∷ m1 ∷ limits)) ≤ n
next-shorter m0 m1 n limits h = let e = length-next_limits (m0 ∷ m1 ∷ limits) in omega arith

pub encoded-stable : (a b : ℕ) (values limits : List ℕ) → length limits ≤ a → length limits ≤ b → encoded_in a values limits ≡ encoded_in b values limits
unfolding encoded_in
encoded-stable zero zero values limits h k = refl
encoded-stable zero (suc b) values [] h k = refl
encoded-stable zero (suc b) values (m ∷ limits) h k = absurd (omega arith)
encoded-stable (suc a) zero values [] h k = refl
encoded-stable (suc a) zero values (m ∷ limits) h k = absurd (omega arith)
encoded-stable (suc a) (suc b) values [] h k = refl
encoded-stable (suc a) (suc b) values (m ∷ []) h k = refl
encoded-stable (suc a) (suc b) values (m0 ∷ m1 ∷ limits) h k =
    ap (λ t. pair_bytes values (m0 ∷ m1 ∷ limits) ++ t) (encoded-stable a b (next_values values (m0 ∷ m1 ∷ limits)) (next_limits (m0 ∷ m1 ∷ limits)) (next-shorter m0 m1 a limits h) (next-shorter m0 m1 b limits k))

pub length-stable : (a b : ℕ) (limits : List ℕ) → length limits ≤ a → length limits ≤ b → length_in a limits ≡ length_in b limits
unfolding length_in
length-stable zero zero limits h k = refl
length-stable zero (suc b) [] h k = refl
length-stable zero (suc b) (m ∷ limits) h k = absurd (omega arith)
length-stable (suc a) zero [] h k = refl
length-stable (suc a) zero (m ∷ limits) h k = absurd (omega arith)
length-stable (suc a) (suc b) [] h k = refl
length-stable (suc a) (suc b) (m ∷ []) h k = refl
length-stable (suc a) (suc b) (m0 ∷ m1 ∷ limits) h k =
    ap (λ t. pair_length (m0 ∷ m1 ∷ limits) + t) (length-stable a b (next_limits (m0 ∷ m1 ∷ limits)) (next-shorter m0 m1 a limits h) (next-shorter m0 m1 b limits k))

pub decoded-stable : (a b : ℕ) (bytes limits : List ℕ) → length limits ≤ a → length limits ≤ b → decoded_in a bytes limits ≡ decoded_in b bytes limits
unfolding decoded_in
decoded-stable zero zero bytes limits h k = refl
decoded-stable zero (suc b) bytes [] h k = refl
decoded-stable zero (suc b) bytes (m ∷ limits) h k = absurd (omega arith)
decoded-stable (suc a) zero bytes [] h k = refl
decoded-stable (suc a) zero bytes (m ∷ limits) h k = absurd (omega arith)
decoded-stable (suc a) (suc b) bytes [] h k = refl
decoded-stable (suc a) (suc b) bytes (m ∷ []) h k = refl
decoded-stable (suc a) (suc b) bytes (m0 ∷ m1 ∷ limits) h k =
    ap (λ t. pair_values bytes (m0 ∷ m1 ∷ limits) t) (decoded-stable a b (drop (pair_length (m0 ∷ m1 ∷ limits)) bytes) (next_limits (m0 ∷ m1 ∷ limits)) (next-shorter m0 m1 a limits h) (next-shorter m0 m1 b limits k))

-- one level
pub encoded-level : (values limits : List ℕ) → 1 < length limits → encoded values limits ≡ pair_bytes values limits ++ encoded (next_values values limits) (next_limits limits)
unfolding encoded encoded_in
encoded-level values [] h = absurd (omega arith)
encoded-level values (m ∷ []) h = absurd (omega arith)
encoded-level values (m0 ∷ m1 ∷ limits) h =
    ap (λ t. pair_bytes values (m0 ∷ m1 ∷ limits) ++ t) (encoded-stable (length (m1 ∷ limits)) (length (next_limits (m0 ∷ m1 ∷ limits))) (next_values values (m0 ∷ m1 ∷ limits)) (next_limits (m0 ∷ m1 ∷ limits)) (next-shorter m0 m1 (length (m1 ∷ limits)) limits (omega arith)) (omega arith))

pub encoded_length-level : (limits : List ℕ) → 1 < length limits → encoded_length limits ≡ pair_length limits + encoded_length (next_limits limits)
unfolding encoded_length length_in
encoded_length-level [] h = absurd (omega arith)
encoded_length-level (m ∷ []) h = absurd (omega arith)
encoded_length-level (m0 ∷ m1 ∷ limits) h =
    ap (λ t. pair_length (m0 ∷ m1 ∷ limits) + t) (length-stable (length (m1 ∷ limits)) (length (next_limits (m0 ∷ m1 ∷ limits))) (next_limits (m0 ∷ m1 ∷ limits)) (next-shorter m0 m1 (length (m1 ∷ limits)) limits (omega arith)) (omega arith))

pub decoded-level : (bytes limits : List ℕ) → 1 < length limits → decoded bytes limits ≡ pair_values bytes limits (decoded (drop (pair_length limits) bytes) (next_limits limits))
unfolding decoded decoded_in
decoded-level bytes [] h = absurd (omega arith)
decoded-level bytes (m ∷ []) h = absurd (omega arith)
decoded-level bytes (m0 ∷ m1 ∷ limits) h =
    ap (λ t. pair_values bytes (m0 ∷ m1 ∷ limits) t) (decoded-stable (length (m1 ∷ limits)) (length (next_limits (m0 ∷ m1 ∷ limits))) (drop (pair_length (m0 ∷ m1 ∷ limits)) bytes) (next_limits (m0 ∷ m1 ∷ limits)) (next-shorter m0 m1 (length (m1 ∷ limits)) limits (omega arith)) (omega arith))

-- a single entry
pub encoded-one : (values limits : List ℕ) → length limits ≡ 1 → encoded values limits ≡ low_bytes (bytes_out 2 (get_or limits 0 0)) (get_or values 0 0)
unfolding encoded encoded_in
encoded-one values [] h = absurd (omega arith)
encoded-one values (m ∷ []) h = refl
encoded-one values (m0 ∷ m1 ∷ limits) h = absurd (omega arith)

pub encoded_length-one : (limits : List ℕ) → length limits ≡ 1 → encoded_length limits ≡ bytes_out 2 (get_or limits 0 0)
unfolding encoded_length length_in
encoded_length-one [] h = absurd (omega arith)
encoded_length-one (m ∷ []) h = refl
encoded_length-one (m0 ∷ m1 ∷ limits) h = absurd (omega arith)

pub decoded-one : (bytes limits : List ℕ) → length limits ≡ 1 → decoded bytes limits ≡ (number_of bytes % get_or limits 0 0) ∷ []
unfolding decoded decoded_in
decoded-one bytes [] h = absurd (omega arith)
decoded-one bytes (m ∷ []) h = refl
decoded-one bytes (m0 ∷ m1 ∷ limits) h = absurd (omega arith)

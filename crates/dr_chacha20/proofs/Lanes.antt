-- What holds of each of the four words of a row, and a row's bytes.
use Rattle.std.proofs.Common.{◌≡◌, ℕ, zero, suc, ◌<◌, ◌+◌, ◌-◌, ◌*◌, ◌/◌, ◌%◌, ◌^◌, List, [], ◌∷◌, length, slice_index, bit_or, bit_xor, arith, refl, subst, lit<}
use Rattle.std.proofs.Math.Nat.{div-one}
use Rattle.std.proofs.lemmas.Grind.{same_number_lists}
use Rattle.std.proofs.lemmas.Simd.{get_or_narrower}
use Rattle.std.specs.Simd.Lanes.{Each1, zip2, number_l, digits_l}
use Rattle.dr_chacha20.specs.Block.{xor_rotate, bytes_of}
use Rattle.dr_chacha20.specs.Rows.{row_of}

pub below_four : (P : ℕ → Type 0) → P 0 → P 1 → P 2 → P 3 → (j : ℕ) → j < 4 → P j
below_four P p q r s zero h = p
below_four P p q r s (suc zero) h = q
below_four P p q r s (suc (suc zero)) h = r
below_four P p q r s (suc (suc (suc zero))) h = s
below_four P p q r s (suc (suc (suc (suc j)))) h = absurd (omega arith)

-- what holds of each list of four elements
pub four_words : (P : List ℕ → Type 0) → ((a b c d : ℕ) → P (a ∷ b ∷ c ∷ d ∷ [])) → (xs : List ℕ) → length xs ≡ 4 → P xs
four_words P p (a ∷ b ∷ c ∷ d ∷ []) h = p a b c d
four_words P p [] h = absurd (omega arith)
four_words P p (a ∷ []) h = absurd (omega arith)
four_words P p (a ∷ b ∷ []) h = absurd (omega arith)
four_words P p (a ∷ b ∷ c ∷ []) h = absurd (omega arith)
four_words P p (a ∷ b ∷ c ∷ d ∷ e ∷ xs) h = absurd (omega arith)

-- two shifts of each word and an or are a rotation
abbrev Rotates : ℕ → List ℕ → List ℕ → Type 0
Rotates k x y = (j : ℕ) → j < 4
    → slice_index (zip2 bit_or
    (zip2 (λ z n. z * 2 ^ n % 2 ^ 32) (zip2 bit_xor x y) (k ∷ k ∷ k ∷ k ∷ []))
    (zip2 (λ z n. z / 2 ^ n) (zip2 bit_xor x y) ((32 - k) ∷ (32 - k) ∷ (32 - k) ∷ (32 - k) ∷ []))) j
    ≡ xor_rotate (slice_index x j) (slice_index y j) k

pub shifts_rotate : (k : ℕ) → 0 < k → k < 32 → (x : List ℕ) → length x ≡ 4 → (y : List ℕ) → length y ≡ 4 → Rotates k x y
shifts_rotate k low high =
    let up : k % 32 ≡ k = omega arith in
    let down : (32 - k) % 32 ≡ 32 - k = omega arith in
    four_words (λ x. (y : List ℕ) → length y ≡ 4 → Rotates k x y) (λ a b c d.
    four_words (Rotates k (a ∷ b ∷ c ∷ d ∷ [])) (λ e f g h.
    below_four _ (rw (up, down) refl) (rw (up, down) refl) (rw (up, down) refl) (rw (up, down) refl)))

-- byte 4 * j + i of a row is byte i of its word j
abbrev IsByte : List ℕ → ℕ → Type 0
IsByte row k = slice_index (digits_l 256 16 (number_l (2 ^ 32) row)) k ≡ slice_index (bytes_of (row_of row)) k

narrow : (row : List ℕ) → Each1 (λ x. x < 2 ^ 32) row → (j i : ℕ) → i < 4 → 4 * j + i < 16
    → slice_index (digits_l 256 16 (number_l (2 ^ 32) row)) (4 * j + i) ≡ slice_index row j / 256 ^ i % 256
narrow row fits j i low within = get_or_narrower (2 ^ 32) 4 256 16 row j i refl fits low within

row_byte : (row : List ℕ) → Each1 (λ x. x < 2 ^ 32) row → (j : ℕ) → j < 4 → (i : ℕ) → i < 4 → IsByte row (4 * j + i)
unfolding bytes_of
row_byte row fits =
    below_four (λ j. (i : ℕ) → i < 4 → IsByte row (4 * j + i))
    (below_four _
    (rw (← div-one (slice_index row 0)) (narrow row fits 0 0 (lit< tt) (lit< tt)))
    (narrow row fits 0 1 (lit< tt) (lit< tt))
    (narrow row fits 0 2 (lit< tt) (lit< tt))
    (narrow row fits 0 3 (lit< tt) (lit< tt)))
    (below_four _
    (rw (← div-one (slice_index row 1)) (narrow row fits 1 0 (lit< tt) (lit< tt)))
    (narrow row fits 1 1 (lit< tt) (lit< tt))
    (narrow row fits 1 2 (lit< tt) (lit< tt))
    (narrow row fits 1 3 (lit< tt) (lit< tt)))
    (below_four _
    (rw (← div-one (slice_index row 2)) (narrow row fits 2 0 (lit< tt) (lit< tt)))
    (narrow row fits 2 1 (lit< tt) (lit< tt))
    (narrow row fits 2 2 (lit< tt) (lit< tt))
    (narrow row fits 2 3 (lit< tt) (lit< tt)))
    (below_four _
    (rw (← div-one (slice_index row 3)) (narrow row fits 3 0 (lit< tt) (lit< tt)))
    (narrow row fits 3 1 (lit< tt) (lit< tt))
    (narrow row fits 3 2 (lit< tt) (lit< tt))
    (narrow row fits 3 3 (lit< tt) (lit< tt)))

-- the bytes of a row's lanes are the bytes of its words
pub row_bytes : (row : List ℕ) → Each1 (λ x. x < 2 ^ 32) row → digits_l 256 16 (number_l (2 ^ 32) row) ≡ bytes_of (row_of row)
unfolding bytes_of
row_bytes row fits =
    same_number_lists _ _ refl (λ k below.
    let place : 4 * (k / 4) + k % 4 ≡ k = omega arith in
    subst (IsByte row) place (row_byte row fits (k / 4) (omega arith) (k % 4) (omega arith)))

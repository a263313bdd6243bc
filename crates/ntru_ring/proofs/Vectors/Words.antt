-- Numbers -1, 0 and 1 by two bits each, in words of 64.
use Rattle.std.proofs.Common.{◌≡◌, ◌≢◌, ℕ, ◌+◌, ◌*◌, ◌/◌, ◌%◌, ◌^◌, ◌-◌, ◌<◌, ◌≤◌, pos, zero, suc, neg_ℤ, ◌+ℤ◌, ◌-ℤ◌, ◌*ℤ◌, to_z, of_z, max, min, refl, sym, ap, ◌∙◌, arith, lit≤}
use Rattle.std.proofs.lemmas.Int.{ints}
use Rattle.std.proofs.lemmas.Nat.Bits.{bit_at-lt, bit_at-suc, bit_at_and, bit_at_or, bit_at_xor, bit_at_above, bit_at_cat_low, bit_at_cat_high, bit_at-zero, shr_and_one, bit_at_ones, bit_at_ones_above, bit_at_set_same, bit_at_set_other}
use Rattle.std.proofs.Math.Nat.{zero-mul, zero-mod}
use Rattle.std.specs.Int.{bit_at}
use Rattle.std.specs.Int.Bits.{or_zero_r}
use Rattle.std.specs.Int.RustNames.{bit_or, bit_xor}
use lib.Bits.{bit_and}
use mir.Syntax.{w16, w64}
use Rattle.ntru_ring.specs.Reduction.{centred, IsWithin}
use Rattle.ntru_ring.specs.Planes.{from_bits}

-- ---- the two bits of a number
pub from_bits_within : (m x : ℕ) → m < 2 → x ≤ m → IsWithin 1 (from_bits m x)
from_bits_within m x l i = record { low = omega (arith, ints); high = omega (arith, ints) }

pub from_bits_zero : (m x : ℕ) → m < 2 → x ≤ m → from_bits m x ≡ pos 0 → m ≡ 0
from_bits_zero m x l i e = omega (arith, ints)

-- ---- the sum of two numbers, as the code makes it of their bits
sum_nonzero : ℕ → ℕ → ℕ → ℕ → ℕ
sum_nonzero m x n y = max (((m + y) % 2 + x) % 2) (((x + n) % 2 + y) % 2)

sum_negative : ℕ → ℕ → ℕ → ℕ → ℕ
sum_negative m x n y = min ((m + y) % 2) ((x + n) % 2)

IsSummed : ℕ → ℕ → ℕ → ℕ → Type 0
IsSummed m x n y = (sum_negative m x n y ≤ sum_nonzero m x n y) × (from_bits (sum_nonzero m x n y) (sum_negative m x n y) ≡ centred 1 (from_bits m x +ℤ from_bits n y))

sum_of_bits : (m x n y : ℕ) → m < 2 → x ≤ m → n < 2 → y ≤ n → IsSummed m x n y
unfolding IsSummed sum_nonzero sum_negative centred
sum_of_bits (suc (suc m)) x n y l i k j = absurd (omega arith)
sum_of_bits zero (suc x) n y l i k j = absurd (omega arith)
sum_of_bits (suc zero) (suc (suc x)) n y l i k j = absurd (omega arith)
sum_of_bits m x (suc (suc n)) y l i k j = absurd (omega arith)
sum_of_bits m x zero (suc y) l i k j = absurd (omega arith)
sum_of_bits m x (suc zero) (suc (suc y)) l i k j = absurd (omega arith)
sum_of_bits zero zero zero zero l i k j = (lit≤ tt, refl)
sum_of_bits zero zero (suc zero) zero l i k j = (lit≤ tt, refl)
sum_of_bits zero zero (suc zero) (suc zero) l i k j = (lit≤ tt, refl)
sum_of_bits (suc zero) zero zero zero l i k j = (lit≤ tt, refl)
sum_of_bits (suc zero) zero (suc zero) zero l i k j = (lit≤ tt, refl)
sum_of_bits (suc zero) zero (suc zero) (suc zero) l i k j = (lit≤ tt, refl)
sum_of_bits (suc zero) (suc zero) zero zero l i k j = (lit≤ tt, refl)
sum_of_bits (suc zero) (suc zero) (suc zero) zero l i k j = (lit≤ tt, refl)
sum_of_bits (suc zero) (suc zero) (suc zero) (suc zero) l i k j = (lit≤ tt, refl)

-- the same of the bits at j of four words
module _ (m x n y j : ℕ) where
  nonzero_is : bit_at (bit_or (bit_xor (bit_xor m y) x) (bit_xor (bit_xor x n) y)) j ≡ sum_nonzero (bit_at m j) (bit_at x j) (bit_at n j) (bit_at y j)
  unfolding sum_nonzero
  nonzero_is =
      bit_at_or (bit_xor (bit_xor m y) x) (bit_xor (bit_xor x n) y) j
      ∙ ap (λ t. max t (bit_at (bit_xor (bit_xor x n) y) j)) (bit_at_xor (bit_xor m y) x j ∙ ap (λ t. (t + bit_at x j) % 2) (bit_at_xor m y j))
      ∙ ap (max (((bit_at m j + bit_at y j) % 2 + bit_at x j) % 2)) (bit_at_xor (bit_xor x n) y j ∙ ap (λ t. (t + bit_at y j) % 2) (bit_at_xor x n j))

  negative_is : bit_at (bit_and (bit_xor m y) (bit_xor x n)) j ≡ sum_negative (bit_at m j) (bit_at x j) (bit_at n j) (bit_at y j)
  unfolding sum_negative
  negative_is =
      bit_at_and (bit_xor m y) (bit_xor x n) j ∙ ap (λ t. min t (bit_at (bit_xor x n) j)) (bit_at_xor m y j) ∙ ap (min ((bit_at m j + bit_at y j) % 2)) (bit_at_xor x n j)

  summed : bit_at x j ≤ bit_at m j → bit_at y j ≤ bit_at n j → IsSummed (bit_at m j) (bit_at x j) (bit_at n j) (bit_at y j)
  summed i k = sum_of_bits (bit_at m j) (bit_at x j) (bit_at n j) (bit_at y j) (bit_at-lt m j) i (bit_at-lt n j) k

  pub sum_inside : bit_at x j ≤ bit_at m j → bit_at y j ≤ bit_at n j → bit_at (bit_and (bit_xor m y) (bit_xor x n)) j ≤ bit_at (bit_or (bit_xor (bit_xor m y) x) (bit_xor (bit_xor x n) y)) j
  unfolding IsSummed
  sum_inside i k = let s = (summed i k).0 in omega (arith, nonzero_is, negative_is)

  pub sum_value : bit_at x j ≤ bit_at m j → bit_at y j ≤ bit_at n j
      → from_bits (bit_at (bit_or (bit_xor (bit_xor m y) x) (bit_xor (bit_xor x n) y)) j) (bit_at (bit_and (bit_xor m y) (bit_xor x n)) j) ≡ centred 1 (from_bits (bit_at m j) (bit_at x j) +ℤ from_bits (bit_at n j) (bit_at y j))
  unfolding IsSummed
  sum_value i k = ap (λ t. from_bits t (bit_at (bit_and (bit_xor m y) (bit_xor x n)) j)) nonzero_is ∙ ap (from_bits (sum_nonzero (bit_at m j) (bit_at x j) (bit_at n j) (bit_at y j))) negative_is ∙ (summed i k).1

-- ---- the opposite
opposite_bits : (m x : ℕ) → m < 2 → x ≤ m → ((m + x) % 2 ≤ m) × (from_bits m ((m + x) % 2) ≡ neg_ℤ (from_bits m x))
opposite_bits (suc (suc m)) x l i = absurd (omega arith)
opposite_bits zero (suc x) l i = absurd (omega arith)
opposite_bits (suc zero) (suc (suc x)) l i = absurd (omega arith)
opposite_bits zero zero l i = (lit≤ tt, refl)
opposite_bits (suc zero) zero l i = (lit≤ tt, refl)
opposite_bits (suc zero) (suc zero) l i = (lit≤ tt, refl)

pub opposite_inside : (m x j : ℕ) → bit_at x j ≤ bit_at m j → bit_at (bit_xor m x) j ≤ bit_at m j
opposite_inside m x j i = let o = (opposite_bits (bit_at m j) (bit_at x j) (bit_at-lt m j) i).0 in omega (arith, bit_at_xor m x j)

pub opposite_value : (m x j : ℕ) → bit_at x j ≤ bit_at m j → from_bits (bit_at m j) (bit_at (bit_xor m x) j) ≡ neg_ℤ (from_bits (bit_at m j) (bit_at x j))
opposite_value m x j i = ap (from_bits (bit_at m j)) (bit_at_xor m x j) ∙ (opposite_bits (bit_at m j) (bit_at x j) (bit_at-lt m j) i).1

-- ---- a word moved up, after the word b
pub moved_first : (w b : ℕ) → bit_at (bit_or (w * 2 % 18446744073709551616) (b / 9223372036854775808)) 0 ≡ bit_at b 63
moved_first w b =
    let even : bit_at (w * 2 % 2 ^ 64) 0 ≡ 0 = omega arith in
    let same : bit_at (b / 2 ^ 63) 0 ≡ bit_at b 63 = omega arith in
    let zero_most : max 0 (bit_at (b / 2 ^ 63) 0) ≡ bit_at (b / 2 ^ 63) 0 = omega arith in
    bit_at_or (w * 2 % 2 ^ 64) (b / 2 ^ 63) 0 ∙ ap (λ t. max t (bit_at (b / 2 ^ 63) 0)) even ∙ zero_most ∙ same

-- the bits below 64 of a number are those of its remainder
bit_at_low : (n j : ℕ) → j < 64 → bit_at (n % 2 ^ 64) j ≡ bit_at n j
bit_at_low n j l =
    sym (bit_at_cat_low (n / 2 ^ 64) 64 (n % 2 ^ 64) j l) ∙ ap (λ t. bit_at t j) (omega arith)

pub moved_rest : (w b j : ℕ) → b < 2 ^ 64 → j < 63 → bit_at (bit_or (w * 2 % 18446744073709551616) (b / 9223372036854775808)) (j + 1) ≡ bit_at w j
moved_rest w b j l h =
    let e : j + 1 ≡ suc j = omega arith in
    let half : w * 2 / 2 ≡ w = omega arith in
    let most_zero : max (bit_at (w * 2 % 2 ^ 64) (suc j)) 0 ≡ bit_at (w * 2 % 2 ^ 64) (suc j) = omega arith in
    let none = bit_at_above (b / 2 ^ 63) 1 (suc j) (omega (arith, l)) (omega arith) in
    ap (bit_at (bit_or (w * 2 % 2 ^ 64) (b / 2 ^ 63))) e ∙ bit_at_or (w * 2 % 2 ^ 64) (b / 2 ^ 63) (suc j)
    ∙ ap (max (bit_at (w * 2 % 2 ^ 64) (suc j))) none ∙ most_zero ∙ bit_at_low (w * 2) (suc j) (omega arith) ∙ bit_at-suc (w * 2) j ∙ ap (λ t. bit_at t j) half

-- ---- the last 64 places of 761, of which the word b has seven
pub last_low : (w b k : ℕ) → k < 7 → bit_at (bit_or (b / 144115188075855872) (w * 128 % 18446744073709551616)) k ≡ bit_at b (57 + k)
last_low w b k l =
    let parts : b / 2 ^ 57 * 2 ^ 57 + b % 2 ^ 57 ≡ b = omega arith in
    let j : 57 + k - 57 ≡ k = omega arith in
    let there = bit_at_cat_high (b / 2 ^ 57) 57 (b % 2 ^ 57) (57 + k) (omega arith) (omega arith) in
    let one : bit_at (b / 2 ^ 57) k ≡ bit_at b (57 + k) = ap (bit_at (b / 2 ^ 57)) (sym j) ∙ sym there ∙ ap (λ t. bit_at t (57 + k)) parts in
    let plain : w * 128 ≡ w * 2 ^ 7 + 0 = omega arith in
    let none : bit_at (w * 128 % 2 ^ 64) k ≡ 0 = bit_at_low (w * 128) k (omega arith) ∙ ap (λ t. bit_at t k) plain ∙ bit_at_cat_low w 7 0 k l ∙ bit_at-zero k in
    let most : max (bit_at (b / 2 ^ 57) k) 0 ≡ bit_at (b / 2 ^ 57) k = omega arith in
    bit_at_or (b / 2 ^ 57) (w * 128 % 2 ^ 64) k ∙ ap (max (bit_at (b / 2 ^ 57) k)) none ∙ most ∙ one

pub last_high : (w b k : ℕ) → b < 2 ^ 64 → 7 ≤ k → k < 64 → bit_at (bit_or (b / 144115188075855872) (w * 128 % 18446744073709551616)) k ≡ bit_at w (k - 7)
last_high w b k h l m =
    let none = bit_at_above (b / 2 ^ 57) 7 k (omega (arith, h)) l in
    let plain : w * 128 ≡ w * 2 ^ 7 + 0 = omega arith in
    let there = bit_at_low (w * 128) k m ∙ ap (λ t. bit_at t k) plain ∙ bit_at_cat_high w 7 0 k (omega arith) l in
    let most : max 0 (bit_at (w * 128 % 2 ^ 64) k) ≡ bit_at (w * 128 % 2 ^ 64) k = omega arith in
    bit_at_or (b / 2 ^ 57) (w * 128 % 2 ^ 64) k ∙ ap (λ t. max t (bit_at (w * 128 % 2 ^ 64) k)) none ∙ most ∙ there

-- ---- a bit put where 0 is
pub put_same : (w b k : ℕ) → k < 64 → b < 2 → bit_at w k ≡ 0 → bit_at (bit_or w (b * 2 ^ k % 2 ^ 64)) k ≡ b
put_same w zero k l h e = ap (λ t. bit_at (bit_or w t) k) (ap (λ t. t % 2 ^ 64) (zero-mul (2 ^ k)) ∙ zero-mod (2 ^ 64)) ∙ ap (λ t. bit_at t k) (or_zero_r w) ∙ e
put_same w (suc zero) k l h e = bit_at_set_same w64 w k l
put_same w (suc (suc b)) k l h e = absurd (omega arith)

pub put_other : (w b k : ℕ) → k < 64 → b < 2 → (j : ℕ) → j ≢ k → bit_at (bit_or w (b * 2 ^ k % 2 ^ 64)) j ≡ bit_at w j
put_other w zero k l h j n = ap (λ t. bit_at (bit_or w t) j) (ap (λ t. t % 2 ^ 64) (zero-mul (2 ^ k)) ∙ zero-mod (2 ^ 64)) ∙ ap (λ t. bit_at t j) (or_zero_r w)
put_other w (suc zero) k l h j n = bit_at_set_other w64 w k l j n
put_other w (suc (suc b)) k l h j n = absurd (omega arith)

-- ---- a word without its places from 57 on
pub masked_low : (w j : ℕ) → j < 57 → bit_at (bit_and w 144115188075855871) j ≡ bit_at w j
masked_low w j l =
    let least : min (bit_at w j) 1 ≡ bit_at w j = omega (arith, bit_at-lt w j) in
    bit_at_and w (2 ^ 57 - 1) j ∙ ap (min (bit_at w j)) (bit_at_ones 57 j l) ∙ least

pub masked_high : (w j : ℕ) → 57 ≤ j → bit_at (bit_and w 144115188075855871) j ≡ 0
masked_high w j l =
    let least : min (bit_at w j) 0 ≡ 0 = omega arith in
    bit_at_and w (2 ^ 57 - 1) j ∙ ap (min (bit_at w j)) (bit_at_ones_above 57 j l) ∙ least

-- ---- a bit at the places 0 and 1
pub twice_first : (b : ℕ) → b < 2 → bit_at (3 * b) 0 ≡ b
twice_first zero l = refl
twice_first (suc zero) l = refl
twice_first (suc (suc b)) l = absurd (omega arith)

pub twice_second : (b : ℕ) → b < 2 → bit_at (3 * b) 1 ≡ b
twice_second zero l = refl
twice_second (suc zero) l = refl
twice_second (suc (suc b)) l = absurd (omega arith)

pub twice_above : (b j : ℕ) → b < 2 → 2 ≤ j → bit_at (3 * b) j ≡ 0
twice_above b j l h = bit_at_above (3 * b) 2 j (omega arith) h

pub twice_inside : (m x : ℕ) → m < 2 → x ≤ m → (j : ℕ) → bit_at (3 * x) j ≤ bit_at (3 * m) j
twice_inside m x l i zero = omega (arith, twice_first x (omega arith), twice_first m l)
twice_inside m x l i (suc zero) = omega (arith, twice_second x (omega arith), twice_second m l)
twice_inside m x l i (suc (suc j)) = omega (arith, twice_above x (suc (suc j)) (omega arith) (omega arith))

-- ---- the two bits of a place, as the code reads them
read_bits : (m x : ℕ) → m < 2 → x ≤ m → to_z w16 (of_z w16 (to_z w16 m -ℤ to_z w16 (of_z w16 (pos 2 *ℤ to_z w16 x)))) ≡ from_bits m x
read_bits (suc (suc m)) x l i = absurd (omega arith)
read_bits zero (suc x) l i = absurd (omega arith)
read_bits (suc zero) (suc (suc x)) l i = absurd (omega arith)
read_bits zero zero l i = refl
read_bits (suc zero) zero l i = refl
read_bits (suc zero) (suc zero) l i = refl

pub read_place : (m x j : ℕ) → bit_at x j ≤ bit_at m j → to_z w16 (of_z w16 (to_z w16 (bit_and (m / 2 ^ j) 1) -ℤ to_z w16 (of_z w16 (pos 2 *ℤ to_z w16 (bit_and (x / 2 ^ j) 1))))) ≡ from_bits (bit_at m j) (bit_at x j)
read_place m x j i =
    ap (λ t. to_z w16 (of_z w16 (to_z w16 t -ℤ to_z w16 (of_z w16 (pos 2 *ℤ to_z w16 (bit_and (x / 2 ^ j) 1)))))) (shr_and_one m j)
    ∙ ap (λ t. to_z w16 (of_z w16 (to_z w16 (bit_at m j) -ℤ to_z w16 (of_z w16 (pos 2 *ℤ to_z w16 t))))) (shr_and_one x j)
    ∙ read_bits (bit_at m j) (bit_at x j) (bit_at-lt m j) i

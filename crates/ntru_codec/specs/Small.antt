-- The encoding of small elements (NTRU Prime, round 3 specification, Streamlined NTRU Prime: strings for elements of R/3):
-- each coefficient, raised by 1, is a digit of two bits, and a byte holds four digits, the lowest first. With 761
-- coefficients the last byte, byte 190, holds one digit.
use Rattle.std.specs.Prelude.{ℕ, ◌+◌, ◌*◌, ◌/◌, ◌%◌, ◌^◌, Bool, ◌||◌, ◌&&◌, ◌==◌, nat_lt, Option, List, map, find, slice_index, ℤ, pos, ◌+ℤ◌, ◌-ℤ◌, unsigned_abs}
use Rattle.std.specs.List.{range_with_len}

-- the digit of a coefficient
unfoldable pub digit : ℤ → ℕ
digit c = unsigned_abs (c +ℤ pos 1)

-- the digit at the place i, which is 0 after the last coefficient
abbrev pub digit_at : List ℤ → ℕ → ℕ
digit_at a i = slice_index (map digit a) i

-- the byte at the place k
unfoldable pub small_byte : List ℤ → ℕ → ℕ
small_byte a k =
    digit_at a (4 * k) + 4 * digit_at a (4 * k + 1) + 16 * digit_at a (4 * k + 2) + 64 * digit_at a (4 * k + 3)

-- the 191 bytes of an element
unfoldable pub small_encoded : List ℤ → List ℕ
small_encoded a = map (small_byte a) (range_with_len 0 191)

-- the coefficient at the place i
unfoldable pub small_coefficient : List ℕ → ℕ → ℤ
small_coefficient bytes i = pos (slice_index bytes (i / 4) / 4 ^ (i % 4) % 4) -ℤ pos 1

-- the 761 coefficients that the bytes stand for
unfoldable pub small_decoded : List ℕ → List ℤ
small_decoded bytes = map (small_coefficient bytes) (range_with_len 0 761)

-- one of the four digits is 3
unfoldable pub has_three : ℕ → Bool
has_three b = b % 4 == 3 || b / 4 % 4 == 3 || b / 16 % 4 == 3 || b / 64 % 4 == 3

-- no element has the byte b at the place k: a digit is 3, or a bit above the only digit of byte 190 is set
unfoldable pub is_bad : ℕ → ℕ → Bool
is_bad k b = has_three b || (k == 190 && nat_lt 3 b)

-- the place of the first such byte
unfoldable pub first_bad : List ℕ → Option ℕ
first_bad bytes = find (λ k. is_bad k (slice_index bytes k)) (range_with_len 0 191)

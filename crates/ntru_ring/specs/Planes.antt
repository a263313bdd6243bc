-- Elements of R/3 as two planes of bits, in words of 64: bit j of word k speaks of the coefficient of x^(64k + j).
use Rattle.std.specs.Prelude.{◌≡◌, ◌<◌, ◌≤◌, ◌+◌, length, ℕ, ◌*◌, ◌/◌, ◌%◌, List, map, slice_index_or, ℤ, pos, ◌-ℤ◌}
use Rattle.std.specs.Int.{bit_at}
use Rattle.std.specs.List.{range_with_len}

-- the bit of the place k
abbrev pub bit_of : List ℕ → ℕ → ℕ
bit_of words k = bit_at (slice_index_or words (k / 64) 0) (k % 64)

-- the number -1, 0 or 1 with these two bits: whether it isn't zero, and whether it is negative
abbrev pub from_bits : ℕ → ℕ → ℤ
from_bits nonzero negative = pos nonzero -ℤ pos (2 * negative)

-- the element of two planes
unfoldable pub element_of : List ℕ → List ℕ → List ℤ
element_of nonzero negative = map (λ k. from_bits (bit_of nonzero k) (bit_of negative k)) (range_with_len 0 761)

-- the bits of 12 words moved up by one place, without the last one of 761
pub record IsMoved (old new : List ℕ) : Type 0 where
  pub length : length new ≡ 12
  pub first : bit_of new 0 ≡ 0
  pub rest : (k : ℕ) → k < 760 → bit_of new (k + 1) ≡ bit_of old k
  pub end : (k : ℕ) → 761 ≤ k → bit_of new k ≡ 0

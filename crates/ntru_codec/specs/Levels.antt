-- One level of Encode and of Decode (NTRU Prime, round 3 specification, the subroutines Encode and Decode): the pairs of
-- a list. A pair r0, r1 below m0, m1 is the number r0 + m0 * r1 below m0 * m1. Its lowest bytes go out while its limit is
-- at least 16384, and what is left goes to the next list. An odd last entry is carried over.
use Rattle.std.specs.Prelude.{ℕ, ◌+◌, ◌*◌, ◌/◌, ◌%◌, ◌^◌, List, [], ◌∷◌, ◌++◌, take, drop}
use Rattle.ntru_codec.specs.Numbers.{number_of, low_bytes, limit_after, bytes_out}

-- the bytes that go out of the pairs
unfoldable pub pair_bytes : List ℕ → List ℕ → List ℕ
pair_bytes (r0 ∷ r1 ∷ values) (m0 ∷ m1 ∷ limits) =
    low_bytes (bytes_out 16384 (m0 * m1)) (r0 + m0 * r1) ++ pair_bytes values limits
pair_bytes _ _ = []

-- how many these are
unfoldable pub pair_length : List ℕ → ℕ
pair_length (m0 ∷ m1 ∷ limits) = bytes_out 16384 (m0 * m1) + pair_length limits
pair_length _ = 0

-- the next list's values
unfoldable pub next_values : List ℕ → List ℕ → List ℕ
next_values (r0 ∷ r1 ∷ values) (m0 ∷ m1 ∷ limits) =
    ((r0 + m0 * r1) / 256 ^ bytes_out 16384 (m0 * m1)) ∷ next_values values limits
next_values values _ = values

-- the next list's limits
unfoldable pub next_limits : List ℕ → List ℕ
next_limits (m0 ∷ m1 ∷ limits) = limit_after (bytes_out 16384 (m0 * m1)) (m0 * m1) ∷ next_limits limits
next_limits limits = limits

-- the two entries of each pair: its number is its bytes, and above them what the next list has of it
unfoldable pub pair_values : List ℕ → List ℕ → List ℕ → List ℕ
pair_values bytes (m0 ∷ m1 ∷ limits) (next ∷ nexts) =
    let n = bytes_out 16384 (m0 * m1) in
    let r = number_of (take n bytes) + 256 ^ n * next in
    (r % m0) ∷ (r / m0 % m1) ∷ pair_values (drop n bytes) limits nexts
pair_values bytes limits nexts = nexts

-- Encode and Decode (NTRU Prime, round 3 specification, the subroutines Encode and Decode): a list of numbers, each below
-- its own limit, as bytes. Each level is about half as long as the one before it, so a list of n entries has at most n.
use Rattle.std.specs.Prelude.{ℕ, zero, suc, ◌+◌, ◌%◌, List, [], ◌∷◌, ◌++◌, drop, length, slice_index}
use Rattle.ntru_codec.specs.Numbers.{number_of, low_bytes, bytes_out}
use Rattle.ntru_codec.specs.Levels.{pair_bytes, pair_length, next_values, next_limits, pair_values}

-- the bytes of this level's pairs, and then those of the next list; all bytes of a single entry go out
unfoldable pub encoded_in : ℕ → List ℕ → List ℕ → List ℕ
encoded_in zero values limits = []
encoded_in (suc levels) values [] = []
encoded_in (suc levels) values (m ∷ []) = low_bytes (bytes_out 2 m) (slice_index values 0)
encoded_in (suc levels) values limits =
    pair_bytes values limits ++ encoded_in levels (next_values values limits) (next_limits limits)

-- Encode
unfoldable pub encoded : List ℕ → List ℕ → List ℕ
encoded values limits = encoded_in (length limits) values limits

-- how many bytes those are: the limits alone decide
unfoldable pub length_in : ℕ → List ℕ → ℕ
length_in zero limits = 0
length_in (suc levels) [] = 0
length_in (suc levels) (m ∷ []) = bytes_out 2 m
length_in (suc levels) limits = pair_length limits + length_in levels (next_limits limits)

-- the length of an encoding under these limits
unfoldable pub encoded_length : List ℕ → ℕ
encoded_length limits = length_in (length limits) limits

-- the pairs of the next list, which is decoded from the bytes after this level's; a single entry is its bytes' number
unfoldable pub decoded_in : ℕ → List ℕ → List ℕ → List ℕ
decoded_in zero bytes limits = []
decoded_in (suc levels) bytes [] = []
decoded_in (suc levels) bytes (m ∷ []) = (number_of bytes % m) ∷ []
decoded_in (suc levels) bytes limits =
    pair_values bytes limits (decoded_in levels (drop (pair_length limits) bytes) (next_limits limits))

-- Decode
unfoldable pub decoded : List ℕ → List ℕ → List ℕ
decoded bytes limits = decoded_in (length limits) bytes limits

-- Small and short elements from words of 32 bits (NTRU Prime, round 3 specification, Streamlined NTRU Prime: random small
-- elements, and random short elements by sorting), with p = 761 coefficients and weight w = 286.
use Rattle.std.specs.Prelude.{ℕ, ◌+◌, ◌*◌, ◌/◌, ◌%◌, ◌^◌, List, [], ◌∷◌, ◌++◌, map, take, drop, nat_le, if◌then◌else◌, ℤ, pos, ◌-ℤ◌}

-- bit 0 cleared: such a word gives -1 or 1
abbrev pub nonzero_word : ℕ → ℕ
nonzero_word w = 2 * (w / 2)

-- bit 1 cleared and bit 0 set: such a word gives 0
abbrev pub zero_word : ℕ → ℕ
zero_word w = 4 * (w / 4) + 1

-- the number of the two lowest bits, less 1
abbrev pub short_coefficient : ℕ → ℤ
short_coefficient w = pos (w % 4) -ℤ pos 1

-- a number put into an ascending list
unfoldable pub inserted : ℕ → List ℕ → List ℕ
inserted x [] = x ∷ []
inserted x (y ∷ sorted) = if nat_le x y then x ∷ y ∷ sorted else (y ∷ inserted x sorted)

-- the numbers in ascending order
unfoldable pub ascending : List ℕ → List ℕ
ascending [] = []
ascending (x ∷ numbers) = inserted x (ascending numbers)

-- the words of the 286 coefficients that won't be zero, and then those of the others
unfoldable pub marked : List ℕ → List ℕ
marked words = map nonzero_word (take 286 words) ++ map zero_word (drop 286 words)

-- Short: the order that the words' upper bits give mixes the coefficients
unfoldable pub short_element : List ℕ → List ℤ
short_element words = map short_coefficient (ascending (marked words))

-- three times the lowest 30 bits, without the 30 lowest bits of the product: 0, 1 or 2; less 1
abbrev pub small_coefficient : ℕ → ℤ
small_coefficient w = pos (w % 2 ^ 30 * 3 / 2 ^ 30) -ℤ pos 1

-- Small
unfoldable pub small_element : List ℕ → List ℤ
small_element words = map small_coefficient words

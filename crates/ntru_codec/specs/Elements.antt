-- The encodings of elements of R/q and of rounded elements (NTRU Prime, round 3 specification, Streamlined NTRU Prime:
-- strings for elements of R/q, and for rounded elements), with q = 4591 and 761 coefficients in -2295..2295.
use Rattle.std.specs.Prelude.{◌≡◌, ℕ, ◌*◌, ◌/◌, List, map, replicate, ℤ, pos, ◌+ℤ◌, ◌-ℤ◌, unsigned_abs}
use Rattle.ntru_ring.specs.Reduction.{centred}
use Rattle.ntru_codec.specs.Coding.{encoded, decoded}

-- a coefficient as a number from 0 to 4590, and back
unfoldable pub raised : ℤ → ℕ
raised c = unsigned_abs (c +ℤ pos 2295)

unfoldable pub lowered : ℕ → ℤ
lowered v = pos v -ℤ pos 2295

-- one limit for all 761 coefficients
unfoldable pub limits_of : ℕ → List ℕ
limits_of m = replicate 761 m

-- the 1,158 bytes of an element of R/q, and the element
unfoldable pub rq_encoded : List ℤ → List ℕ
rq_encoded a = encoded (map raised a) (limits_of 4591)

unfoldable pub rq_decoded : List ℕ → List ℤ
rq_decoded bytes = map lowered (decoded bytes (limits_of 4591))

-- a coefficient is a multiple of 3: its remainder modulo 3 is zero
abbrev pub IsMultipleOf3 : ℤ → Type 0
IsMultipleOf3 c = centred 1 c ≡ pos 0

-- a multiple of 3 in -2295..2295 as a number from 0 to 1530, and back
unfoldable pub third : ℤ → ℕ
third c = raised c / 3

unfoldable pub tripled : ℕ → ℤ
tripled v = lowered (3 * v)

-- the 1,007 bytes of a rounded element, and the element
unfoldable pub rounded_encoded : List ℤ → List ℕ
rounded_encoded a = encoded (map third a) (limits_of 1531)

unfoldable pub rounded_decoded : List ℕ → List ℤ
rounded_decoded bytes = map tripled (decoded bytes (limits_of 1531))

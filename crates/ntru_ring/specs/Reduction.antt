-- The rings R/3 and R/q of NTRU Prime (round 3 specification, parameters of Streamlined NTRU Prime): coefficients
-- modulo the odd number 2h + 1, each by its representative in -h..h. R/3 has h = 1, and R/q with q = 4591 has h = 2295.
use Rattle.std.specs.Prelude.{◌≡◌, ◌≢◌, ℕ, ◌+◌, ◌*◌, List, length, map, ℤ, pos, neg_ℤ, ◌+ℤ◌, ◌-ℤ◌, ◌≤ℤ◌}
use Rattle.std.specs.Int.{int_rem_euclid}
use Rattle.ntru_ring.specs.Ring.{times, zero_of, one_of}

-- the remainder of z modulo 2h + 1 that lies in -h..h
unfoldable pub centred : ℕ → ℤ → ℤ
centred h z = int_rem_euclid (z +ℤ pos h) (pos (2 * h + 1)) -ℤ pos h

-- each coefficient by its representative
unfoldable pub reduced : ℕ → List ℤ → List ℤ
reduced h a = map (centred h) a

-- z lies in -h..h
pub record IsWithin (h : ℕ) (z : ℤ) : Type 0 where
  pub low : neg_ℤ (pos h) ≤ℤ z
  pub high : z ≤ℤ pos h

-- g * v = 1 modulo 2h + 1
abbrev pub IsInverse : ℕ → List ℤ → List ℤ → Type 0
IsInverse h g v = reduced h (times g v) ≡ one_of (length g)

-- z isn't zero, and g * z = 0 modulo 2h + 1
pub record Annihilates (h : ℕ) (g z : List ℤ) : Type 0 where
  pub nonzero : z ≢ zero_of (length z)
  pub product : reduced h (times g z) ≡ zero_of (length g)

-- z lies so near to -2295..2295 that adding 4591 twice or subtracting it once takes it there
pub record IsNear (z : ℤ) : Type 0 where
  pub low : neg_ℤ (pos 6967) ≤ℤ z
  pub high : z ≤ℤ pos 2376

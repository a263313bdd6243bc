-- The weight of an element, and Round (NTRU Prime, round 3 specification, parameters of Streamlined NTRU Prime).
use Rattle.std.specs.Prelude.{ℕ, Bool, true, false, List, map, count_by, ℤ, pos, negsuc, zero, suc, ◌-ℤ◌}
use Rattle.ntru_ring.specs.Reduction.{centred}

-- z isn't zero
abbrev pub is_nonzero : ℤ → Bool
is_nonzero (pos zero) = false
is_nonzero (pos (suc n)) = true
is_nonzero (negsuc n) = true

-- how many coefficients aren't zero
unfoldable pub weight : List ℤ → ℕ
weight a = count_by is_nonzero a

-- the nearest multiple of 3: z without its remainder in -1..1 modulo 3
unfoldable pub nearest : ℤ → ℤ
nearest z = z -ℤ centred 1 z

-- Round: each coefficient by the nearest multiple of 3
unfoldable pub rounded : List ℤ → List ℤ
rounded a = map nearest a

-- The inverse of an element, where it has one: the element v of all elements with g * v = 1 (NTRU Prime, round 3
-- specification, Streamlined NTRU Prime Core, KeyGen).
use Rattle.std.specs.Prelude.{ℕ, zero, suc, ◌+◌, ◌*◌, Bool, Option, List, [], ◌∷◌, length, map, find, ℤ, pos, ◌-ℤ◌}
use Rattle.std.specs.List.{range_with_len, flat_map}
use Rattle.std.specs.Cmp.Lexicographic.{pointwise}
use Rattle.std.specs.Ordering.{int_eq}
use Rattle.ntru_ring.specs.Ring.{times, one_of}
use Rattle.ntru_ring.specs.Reduction.{reduced}

-- the numbers in -h..h
unfoldable pub residues : ℕ → List ℤ
residues h = map (λ k. pos k -ℤ pos h) (range_with_len 0 (2 * h + 1))

-- all elements of n coefficients in -h..h
unfoldable pub elements : ℕ → ℕ → List (List ℤ)
elements h zero = [] ∷ []
elements h (suc n) = flat_map (λ a. map (λ c. c ∷ a) (residues h)) (elements h n)

-- whether g * v = 1 modulo 2h + 1
unfoldable pub is_inverse : ℕ → List ℤ → List ℤ → Bool
is_inverse h g v = pointwise int_eq (reduced h (times g v)) (one_of (length g))

-- 1/g modulo 2h + 1: in R/3 with h = 1, in R/q with h = 2295
unfoldable pub inverse : ℕ → List ℤ → Option (List ℤ)
inverse h g = find (is_inverse h g) (elements h (length g))

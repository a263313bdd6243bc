-- The ring R = Z[x]/(x^p - x - 1) of NTRU Prime (round 3 specification, parameters of Streamlined NTRU Prime),
-- where p is 761. An element is the list of its p coefficients, which are integers, with that of x^0 first. The
-- definitions hold at any length.
use Rattle.std.specs.Prelude.{ℕ, ◌-◌, List, [], ◌∷◌, map, replicate, slice_index_or, ℤ, pos, ◌+ℤ◌, ◌*ℤ◌}

-- a + b, place by place
unfoldable pub plus : List ℤ → List ℤ → List ℤ
plus [] b = []
plus (x ∷ a) [] = []
plus (x ∷ a) (y ∷ b) = (x +ℤ y) ∷ plus a b

-- c times each coefficient of a
unfoldable pub scale : ℤ → List ℤ → List ℤ
scale c a = map (λ x. c *ℤ x) a

-- the last coefficient of x ∷ a
unfoldable pub last : ℤ → List ℤ → ℤ
last x [] = x
last x (y ∷ a) = last y a

-- a moved up by one place after x, without its last coefficient
unfoldable pub behind : ℤ → List ℤ → List ℤ
behind x [] = []
behind x (y ∷ a) = x ∷ behind y a

-- x * a: each coefficient moves up by one place, and the last goes to the places 0 and 1, since x^p = x + 1
unfoldable pub shift : List ℤ → List ℤ
shift [] = []
shift (x ∷ a) = last x a ∷ behind (x +ℤ last x a) a

-- a * b, the sum over i of a_i * x^i * b
unfoldable pub times : List ℤ → List ℤ → List ℤ
times [] b = scale (pos 0) b
times (x ∷ a) b = plus (scale x b) (times a (shift b))

-- 0, as n coefficients
unfoldable pub zero_of : ℕ → List ℤ
zero_of n = replicate n (pos 0)

-- 1, as n coefficients
unfoldable pub one_of : ℕ → List ℤ
one_of n = pos 1 ∷ replicate (n - 1) (pos 0)

-- the coefficient of x^k
abbrev pub coefficient : List ℤ → ℕ → ℤ
coefficient a k = slice_index_or a k (pos 0)

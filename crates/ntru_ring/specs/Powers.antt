-- The powers of x times an element of R/q, as rows of one array.
use Rattle.std.specs.Prelude.{◌≡◌, ℕ, zero, suc, List, [], ◌∷◌, ◌++◌, length, All, slice_index_or, ℤ}
use Rattle.std.specs.Simd.Lanes.{chunk}
use Rattle.ntru_ring.specs.Ring.{plus, shift, zero_of}
use Rattle.ntru_ring.specs.Reduction.{reduced, IsWithin}

-- the coefficient of x^0 after the others
unfoldable pub rotated : List ℤ → List ℤ
rotated [] = []
rotated (x ∷ a) = a ++ (x ∷ [])

-- x^k * a in R/q
unfoldable pub power : ℕ → List ℤ → List ℤ
power zero a = a
power (suc k) a = reduced 2295 (shift (power k a))

-- the sum of the rows of 761 places that begin at the first k of these starts
unfoldable pub total : List ℤ → List ℕ → ℕ → List ℤ
total places starts zero = zero_of 761
total places starts (suc k) =
    plus (total places starts k) (chunk (slice_index_or starts k 0) 761 places)

-- 761 places in -2295..2295
pub record IsRow (row : List ℤ) : Type 0 where
  pub length : length row ≡ 761
  pub within : All (IsWithin 2295) row

-- x^k * a
unfoldable pub shifted : ℕ → List ℤ → List ℤ
shifted zero a = a
shifted (suc k) a = shifted k (shift a)

-- The algorithms of Streamlined NTRU Prime Core (NTRU Prime, round 3 specification) for p = 761, q = 4591 and w = 286,
-- where their random elements are arguments.
use Rattle.std.specs.Prelude.{◌≡◌, ◌==◌, Option, Some, List, ◌++◌, length, replicate, All, if◌then◌else◌, ℤ, pos}
use Rattle.std.specs.Option.{option_map}
use Rattle.ntru_ring.specs.Ring.{scale, times}
use Rattle.ntru_ring.specs.Reduction.{reduced, IsWithin}
use Rattle.ntru_ring.specs.Small.{weight, rounded}
use Rattle.sntrup_core.specs.Inverse.{inverse}

-- Small: all coefficients lie in -1..1
pub record IsSmall (a : List ℤ) : Type 0 where
  pub long : length a ≡ 761
  pub within : All (IsWithin 1) a

-- Short: small, and exactly 286 coefficients aren't zero
pub record IsShort (a : List ℤ) : Type 0 where
  pub small : IsSmall a
  pub weighs : weight a ≡ 286

-- g/(3f) in R/q, where f has an inverse; 1/3 is 3061
unfoldable pub quotient : List ℤ → List ℤ → Option (List ℤ)
quotient g f = option_map (λ w. reduced 2295 (scale (pos 3061) (times w g))) (inverse 2295 f)

-- KeyGen from g and f: the public key h = g/(3f), and v = 1/g, which is kept with f
pub record IsPair (g f h v : List ℤ) : Type 0 where
  pub inverse_is : inverse 1 g ≡ Some v
  pub quotient_is : quotient g f ≡ Some h
  -- h is the element with 3 * f * h = g
  pub exact : reduced 2295 (scale (pos 3) (times f h)) ≡ g

-- Encrypt: Round(h * r)
unfoldable pub encrypted : List ℤ → List ℤ → List ℤ
encrypted r h = rounded (reduced 2295 (times h r))

-- w ones, and zeros after them
unfoldable pub ones : List ℤ
ones = replicate 286 (pos 1) ++ replicate 475 (pos 0)

-- 3 * f * c in R/q, its coefficients modulo 3, times 1/g in R/3
unfoldable pub recovered : List ℤ → List ℤ → List ℤ → List ℤ
recovered f v c = reduced 1 (times (reduced 1 (reduced 2295 (scale (pos 3) (times f c)))) v)

-- Decrypt: what is recovered, where its weight is w
unfoldable pub decrypted : List ℤ → List ℤ → List ℤ → List ℤ
decrypted f v c = if weight (recovered f v c) == 286 then recovered f v c else ones

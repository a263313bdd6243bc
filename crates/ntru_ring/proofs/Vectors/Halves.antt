-- The high half of a number of 32 bits is one of 16 bits, lane by lane.
use Rattle.std.proofs.Common.{ℕ, zero, suc, ◌*◌, ◌%◌, ◌^◌, ◌<◌, List, [], ◌∷◌, replicate, ℤ, to_z, of_z, sym, arith, lit<, subst}
use Rattle.std.proofs.lemmas.Int.{ints}
use Rattle.std.proofs.Math.Facts.{sfits_to_z}
use lib.Lanes.{zip2, Each1}
use lib.Signed.{shr_z}
use mir.Syntax.{w16, w32}
use mir.Val.{SFits}
use Rattle.ntru_ring.specs.Reduction.{IsWithin}
use Rattle.ntru_ring.proofs.Numbers.Integers.{shr_low, shr_high}
use Rattle.ntru_ring.proofs.Numbers.Ranges.{stored}

half_within : (z : ℤ) → SFits w32 z → IsWithin 32768 (shr_z z 65536)
half_within z f = record { low = omega (arith, ints, f.sfits, shr_low z, shr_high z); high = omega (arith, ints, f.sfits, shr_low z, shr_high z) }

half_word : (z : ℤ) → SFits w32 z → SFits w16 (shr_z z 65536)
half_word z f = omega (arith, ints, f.sfits, shr_low z, shr_high z)

half_fits : (a : ℕ) → a < 4294967296 → SFits w16 (to_z w32 (of_z w32 (shr_z (to_z w32 a) 65536)))
half_fits a l =
    let f : SFits w32 (to_z w32 a) = sfits_to_z (record { fits = l }) in
    subst (SFits w16) (sym (stored w32 32768 (shr_z (to_z w32 a) 65536) (half_within (to_z w32 a) f) (lit< tt))) (half_word (to_z w32 a) f)

pub halves_fit : (n : ℕ) (xs : List ℕ) → Each1 (λ a. a < 4294967296) xs
    → Each1 (λ a. SFits w16 (to_z w32 a)) (zip2 (λ a b. of_z w32 (shr_z (to_z w32 a) (2 ^ b))) xs (replicate n 16))
halves_fit zero [] e = tt
halves_fit zero (a ∷ xs) e = tt
halves_fit (suc n) [] e = tt
halves_fit (suc n) (a ∷ xs) e = (half_fits a e.0, halves_fit n xs e.1)

pub products_below : (xs ys : List ℕ) → Each1 (λ a. a < 4294967296) (zip2 (λ a b. a * b % 4294967296) xs ys)
products_below [] ys = tt
products_below (x ∷ xs) [] = tt
products_below (x ∷ xs) (y ∷ ys) = (omega arith, products_below xs ys)

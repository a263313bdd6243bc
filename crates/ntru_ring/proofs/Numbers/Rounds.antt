-- What Round gives: multiples of 3, each at most 1 away, in the same range.
use Rattle.std.proofs.Common.{List, ℤ, sym, arith, All, subst}
use Rattle.std.proofs.lemmas.Int.{ints}
use Rattle.ntru_ring.specs.Reduction.{IsWithin}
use Rattle.ntru_ring.specs.Ring.{coefficient}
use Rattle.ntru_ring.specs.Small.{nearest, rounded}
use Rattle.ntru_ring.proofs.Numbers.Centred.{centred_within, centred_differs}
use Rattle.ntru_ring.proofs.Rings.Places.{within_places, coefficient_within, coefficient-rounded, length-rounded}

-- a multiple of 3 next to a number in -2295..2295 lies there too
pub nearest_within : (z : ℤ) → IsWithin 2295 z → IsWithin 2295 (nearest z)
unfolding nearest
nearest_within z w =
    let d = centred_differs 1 z in
    let c = centred_within 1 z in
    record { low = omega (arith, ints, w.low, w.high, c.low, c.high, d.2); high = omega (arith, ints, w.low, w.high, c.low, c.high, d.2) }

pub rounded_within : (a : List ℤ) → All (IsWithin 2295) a → All (IsWithin 2295) (rounded a)
rounded_within a w =
    within_places 2295 (rounded a)
    (λ k l. subst (IsWithin 2295) (sym (coefficient-rounded a k (omega (arith, length-rounded a)))) (nearest_within (coefficient a k) (coefficient_within 2295 a k w)))

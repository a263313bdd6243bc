-- Elements of R/3 that planes stand for.
use Rattle.std.proofs.Common.{◌≡◌, length, All}
use Rattle.ntru_ring.specs.declared.planes_three.Planes3.{Planes3}
use Rattle.ntru_ring.specs.Elements.{element}
use Rattle.ntru_ring.specs.Reduction.{reduced, IsWithin}
use Rattle.ntru_ring.proofs.Rings.Congruence.{reduced_keeps}
use Rattle.ntru_ring.proofs.Vectors.Planes.{length-element_of, element_within}

pub length-element : (p : Planes3) → length (element p) ≡ 761
length-element p = length-element_of p.nonzero p.negative

pub element-within : (p : Planes3) → All (IsWithin 1) (element p)
element-within p = element_within p.nonzero p.negative p.inside

pub reduced-element : (p : Planes3) → reduced 1 (element p) ≡ element p
reduced-element p = reduced_keeps 1 (element p) (element-within p)

-- The element of R/3 that its planes stand for.
use Rattle.std.specs.Prelude.{List, ℤ}
use Rattle.ntru_ring.specs.declared.planes_three.Planes3.{Planes3}
use Rattle.ntru_ring.specs.Planes.{element_of}

-- the element of a value of this type
abbrev pub element : Planes3 → List ℤ
element p = element_of p.nonzero p.negative

use Rattle.ntru_ring.specs.Planes.{element_of}
use Rattle.ntru_ring.proofs.Rings.Kernels.{IsFilling}
use Rattle.ntru_ring.proofs.planes_three.r3_of.Given as goal

abbrev pub invariant-loop-k : goal.invariant-loop-k
invariant-loop-k l = IsFilling (element_of l.planes.nonzero l.planes.negative) l.coefficients l.k

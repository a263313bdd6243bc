use Rattle.ntru_ring.proofs.Vectors.Planes.{IsTaken}
use Rattle.ntru_ring.proofs.planes_three.planes_of.Given as goal

abbrev pub invariant-loop-k : goal.invariant-loop-k
invariant-loop-k l = IsTaken l.g.coefficients l.nonzero l.negative l.k

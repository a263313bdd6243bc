use Rattle.ntru_ring.proofs.Vectors.Shifts.{IsMoving}
use Rattle.ntru_ring.proofs.planes_three.moved.Given as goal

abbrev pub invariant-loop-k : goal.invariant-loop-k
invariant-loop-k l = IsMoving l.words l.moved l.k

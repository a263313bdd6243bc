use Rattle.ntru_ring.proofs.Rings.Kernels.{IsAdded}
use Rattle.ntru_ring.proofs.sums_q.add_multiple.Given as goal

abbrev pub invariant-loop-k : goal.invariant-loop-k
invariant-loop-k l = IsAdded l.fn.sums l.sums l.row l.by l.from l.k

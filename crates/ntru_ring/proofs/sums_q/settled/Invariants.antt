use Rattle.ntru_ring.specs.Reduction.{reduced}
use Rattle.ntru_ring.proofs.Rings.Kernels.{IsFilling}
use Rattle.ntru_ring.proofs.sums_q.settled.Given as goal

abbrev pub invariant-loop-k : goal.invariant-loop-k
invariant-loop-k l = IsFilling (reduced 2295 l.sums) l.settled l.k

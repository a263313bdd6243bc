use Rattle.ntru_ring.specs.Reduction.{reduced}
use Rattle.ntru_ring.proofs.Rings.Kernels.{IsReplaced}
use Rattle.ntru_ring.proofs.sums_small.settle.Given as goal

abbrev pub invariant-loop-k : goal.invariant-loop-k
invariant-loop-k l = IsReplaced (reduced 2295 l.fn.sums) l.fn.sums l.sums l.k

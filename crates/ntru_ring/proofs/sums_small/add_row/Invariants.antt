use Rattle.std.proofs.Common.{pos}
use Rattle.ntru_ring.proofs.Rings.Kernels.{IsAdded}
use Rattle.ntru_ring.proofs.sums_small.add_row.Given as goal

abbrev pub invariant-loop-k : goal.invariant-loop-k
invariant-loop-k l = IsAdded l.fn.sums l.sums l.row (pos 1) 0 l.k

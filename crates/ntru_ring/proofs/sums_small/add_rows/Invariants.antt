use Rattle.std.proofs.Common.{pos}
use Rattle.ntru_ring.specs.Ring.{plus}
use Rattle.ntru_ring.proofs.Rings.Kernels.{IsAdded}
use Rattle.ntru_ring.proofs.sums_small.add_rows.Given as goal

abbrev pub invariant-loop-k : goal.invariant-loop-k
invariant-loop-k l = IsAdded l.fn.sums l.sums (plus (plus l.one l.two) (plus l.three l.four)) (pos 1) 0 l.k

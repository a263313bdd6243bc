use Rattle.ntru_ring.specs.Reduction.{reduced}
use Rattle.ntru_ring.specs.Ring.{plus}
use Rattle.ntru_ring.proofs.Rings.Kernels.{IsFilling}
use Rattle.ntru_ring.proofs.modulo_q.Rq.add.Given as goal

abbrev pub invariant-loop-k : goal.invariant-loop-k
invariant-loop-k l = IsFilling (reduced 2295 (plus l.self.coefficients l.o.coefficients)) l.sum l.k

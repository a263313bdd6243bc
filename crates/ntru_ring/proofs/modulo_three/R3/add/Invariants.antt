use Rattle.ntru_ring.specs.Reduction.{reduced}
use Rattle.ntru_ring.specs.Ring.{plus}
use Rattle.ntru_ring.proofs.Rings.Kernels.{IsFilling}
use Rattle.ntru_ring.proofs.modulo_three.R3.add.Given as goal

abbrev pub invariant-loop-k : goal.invariant-loop-k
invariant-loop-k l = IsFilling (reduced 1 (plus l.self.coefficients l.o.coefficients)) l.sum l.k

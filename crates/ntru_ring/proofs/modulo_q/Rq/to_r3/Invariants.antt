use Rattle.ntru_ring.specs.Reduction.{reduced}
use Rattle.ntru_ring.proofs.Rings.Kernels.{IsFilling}
use Rattle.ntru_ring.proofs.modulo_q.Rq.to_r3.Given as goal

abbrev pub invariant-loop-k : goal.invariant-loop-k
invariant-loop-k l = IsFilling (reduced 1 l.self.coefficients) l.small l.k

use Rattle.ntru_ring.specs.Reduction.{reduced}
use Rattle.ntru_ring.specs.Ring.{scale}
use Rattle.ntru_ring.proofs.Rings.Kernels.{IsFilling}
use Rattle.ntru_ring.proofs.modulo_q.Rq.scale.Given as goal

abbrev pub invariant-loop-k : goal.invariant-loop-k
invariant-loop-k l = IsFilling (reduced 2295 (scale l.by l.self.coefficients)) l.scaled l.k

use Rattle.ntru_ring.specs.Small.{rounded}
use Rattle.ntru_ring.proofs.Rings.Kernels.{IsFilling}
use Rattle.ntru_ring.proofs.modulo_q.Rq.round.Given as goal

abbrev pub invariant-loop-k : goal.invariant-loop-k
invariant-loop-k l = IsFilling (rounded l.self.coefficients) l.rounded l.k

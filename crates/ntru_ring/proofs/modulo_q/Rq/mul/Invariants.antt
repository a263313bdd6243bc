use Rattle.std.proofs.Common.{◌≡◌, ◌-◌, drop}
use Rattle.ntru_ring.specs.Ring.{times}
use Rattle.ntru_ring.specs.Reduction.{reduced}
use Rattle.ntru_ring.proofs.modulo_q.Rq.mul.Given as goal

abbrev pub invariant-loop-k : goal.invariant-loop-k
invariant-loop-k l = l.product.coefficients ≡ reduced 2295 (times (drop (761 - l.k) l.self.coefficients) l.o.coefficients)

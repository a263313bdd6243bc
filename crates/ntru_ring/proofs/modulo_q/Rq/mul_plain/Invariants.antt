use Rattle.std.proofs.Common.{◌≡◌, ◌-◌, drop}
use Rattle.ntru_ring.specs.Ring.{times}
use Rattle.ntru_ring.specs.Reduction.{reduced}
use Rattle.ntru_ring.proofs.modulo_q.Rq.mul_plain.Given as goal

abbrev pub invariant-loop-k : goal.invariant-loop-k
invariant-loop-k l = reduced 2295 l.sums.terms ≡ reduced 2295 (times (drop (761 - l.k) l.self.coefficients) l.o.coefficients)

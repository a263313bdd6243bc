use Rattle.std.proofs.Common.{◌≡◌, ◌<◌, ℕ, length, ◌-◌, ◌≤◌}
use Rattle.ntru_ring.specs.Ring.{coefficient}
use Rattle.ntru_ring.proofs.modulo_q.Rq.shift.Given as goal

abbrev pub invariant-loop-k : goal.invariant-loop-k
invariant-loop-k l = record {
  length : length l.moved ≡ 761;
  done : (j : ℕ) → 1 ≤ j → j < l.k → coefficient l.moved j ≡ coefficient l.self.coefficients (j - 1);
}

use Rattle.std.proofs.Common.{◌≡◌, ◌<◌, ℕ, length, ◌-◌, ◌≤◌}
use Rattle.ntru_ring.specs.Ring.{coefficient}
use Rattle.ntru_ring.proofs.sums_q.shifted.Given as goal

abbrev pub invariant-loop-k : goal.invariant-loop-k
invariant-loop-k l = record {
  length : length l.shifted ≡ 761;
  done : (j : ℕ) → 1 ≤ j → j < l.k → coefficient l.shifted j ≡ coefficient l.sums (j - 1);
}

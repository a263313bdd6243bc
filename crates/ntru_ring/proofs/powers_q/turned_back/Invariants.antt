use Rattle.std.proofs.Common.{◌≡◌, ◌<◌, ◌+◌, ℕ, length, All}
use Rattle.ntru_ring.specs.Ring.{coefficient}
use Rattle.ntru_ring.specs.Reduction.{IsWithin}
use Rattle.ntru_ring.proofs.powers_q.turned_back.Given as goal

abbrev pub invariant-loop-k : goal.invariant-loop-k
invariant-loop-k l = record {
  length : length l.coefficients ≡ 761;
  within : All (IsWithin 2295) l.coefficients;
  done : (j : ℕ) → j < l.k → coefficient l.coefficients (j + 1) ≡ coefficient l.row.coefficients j;
}

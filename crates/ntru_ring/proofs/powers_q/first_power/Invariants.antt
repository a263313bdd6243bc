use Rattle.std.proofs.Common.{◌≡◌, ◌<◌, ◌+◌, ℕ, length, All}
use Rattle.ntru_ring.specs.Ring.{coefficient}
use Rattle.ntru_ring.specs.Reduction.{IsWithin}
use Rattle.ntru_ring.proofs.powers_q.first_power.Given as goal

abbrev pub invariant-loop-k : goal.invariant-loop-k
invariant-loop-k l = record {
  length : length l.places ≡ 1521;
  within : All (IsWithin 2295) l.places;
  done : (j : ℕ) → j < l.k → coefficient l.places (760 + j) ≡ coefficient l.element.coefficients (j + 1);
}

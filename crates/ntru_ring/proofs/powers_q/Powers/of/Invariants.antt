use Rattle.std.proofs.Common.{◌≡◌, ◌≤◌, ◌-◌, ℕ, length, All}
use lib.Lanes.{chunk}
use Rattle.ntru_ring.specs.Reduction.{IsWithin}
use Rattle.ntru_ring.specs.Powers.{rotated, power}
use Rattle.ntru_ring.proofs.powers_q.Powers.of.Given as goal

abbrev pub invariant-loop-k : goal.invariant-loop-k
invariant-loop-k l = record {
  length : length l.places ≡ 1521;
  within : All (IsWithin 2295) l.places;
  rows : (j : ℕ) → j ≤ l.k → chunk (760 - j) 761 l.places ≡ rotated (power j l.element.coefficients);
}

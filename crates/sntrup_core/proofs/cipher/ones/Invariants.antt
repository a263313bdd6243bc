use Rattle.std.proofs.Common.{◌≡◌, ℕ, ◌<◌, ◌≤◌, length, get_or, pos}
use Rattle.sntrup_core.proofs.cipher.ones.Given as goal

abbrev pub invariant-loop-k : goal.invariant-loop-k
invariant-loop-k l = record {
  whole : length l.coefficients ≡ 761;
  ones : (j : ℕ) → j < l.k → get_or l.coefficients j (pos 0) ≡ pos 1;
  zeros : (j : ℕ) → l.k ≤ j → j < 761 → get_or l.coefficients j (pos 0) ≡ pos 0;
}

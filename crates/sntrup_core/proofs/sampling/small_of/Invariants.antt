use Rattle.std.proofs.Common.{◌≡◌, ℕ, ◌<◌, length, get_or, pos}
use Rattle.sntrup_core.specs.Sampling.{small_coefficient}
use Rattle.sntrup_core.proofs.sampling.small_of.Given as goal

abbrev pub invariant-loop-k : goal.invariant-loop-k
invariant-loop-k l = record {
  whole : length l.coefficients ≡ 761;
  written : (j : ℕ) → j < l.k → get_or l.coefficients j (pos 0) ≡ small_coefficient (get_or l.words j 0);
}

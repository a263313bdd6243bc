use Rattle.std.proofs.Common.{◌≡◌, ℕ, ◌<◌, length, get_or}
use Rattle.sntrup_core.specs.Sampling.{marked}
use Rattle.sntrup_core.proofs.sampling.mark.Given as goal

abbrev pub invariant-loop-k : goal.invariant-loop-k
invariant-loop-k l = record {
  whole : length l.marked ≡ 761;
  written : (j : ℕ) → j < l.k → get_or l.marked j 0 ≡ get_or (marked l.words) j 0;
}

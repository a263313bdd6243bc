use Rattle.std.proofs.Common.{◌≡◌, ℕ, ◌<◌, length, get_or}
use Rattle.sntrup761.specs.Draws.{word_at}
use Rattle.sntrup761.proofs.draws.words_of.Given as goal

abbrev pub invariant-loop-k : goal.invariant-loop-k
invariant-loop-k l = record {
  whole : length l.words ≡ 761;
  written : (j : ℕ) → j < l.k → get_or l.words j 0 ≡ word_at l.bytes j;
}

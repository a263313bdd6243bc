use Rattle.std.proofs.Common.{◌≡◌, ℕ, ◌<◌, length, get_or}
use Rattle.ntru_codec.specs.Small.{small_byte}
use Rattle.ntru_codec.proofs.small.small_encode.Given as goal

abbrev pub invariant-loop-k : goal.invariant-loop-k
invariant-loop-k l = record {
  whole : length l.bytes ≡ 191;
  written : (j : ℕ) → j < l.k → get_or l.bytes j 0 ≡ small_byte l.a.coefficients j;
}

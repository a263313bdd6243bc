use Rattle.std.proofs.Common.{◌≡◌, ℕ, ◌<◌, length, get_or, pos}
use Rattle.ntru_codec.specs.Small.{small_coefficient}
use Rattle.ntru_codec.proofs.small.small_decode.Given as goal

abbrev pub invariant-loop-i : goal.invariant-loop-i
invariant-loop-i l = record {
  whole : length l.coefficients ≡ 761;
  written : (j : ℕ) → j < l.i → get_or l.coefficients j (pos 0) ≡ small_coefficient l.bytes j;
}

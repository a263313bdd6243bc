use Rattle.std.proofs.Common.{◌≡◌, ℕ, ◌<◌, length, get_or, pos}
use Rattle.ntru_codec.specs.Elements.{tripled}
use Rattle.ntru_codec.proofs.elements.rounded_decode.Given as goal

abbrev pub invariant-loop-k : goal.invariant-loop-k
invariant-loop-k l = record {
  whole : length l.coefficients ≡ 761;
  written : (j : ℕ) → j < l.k → get_or l.coefficients j (pos 0) ≡ tripled (get_or l.values j 0);
}

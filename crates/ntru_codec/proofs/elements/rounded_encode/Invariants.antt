use Rattle.std.proofs.Common.{◌≡◌, ℕ, ◌<◌, length, get_or, pos}
use Rattle.ntru_codec.specs.Elements.{third}
use Rattle.ntru_codec.proofs.elements.rounded_encode.Given as goal

abbrev pub invariant-loop-k : goal.invariant-loop-k
invariant-loop-k l = record {
  whole : length l.values ≡ 761;
  written : (j : ℕ) → j < l.k → get_or l.values j 0 ≡ third (get_or l.a.coefficients j (pos 0));
}

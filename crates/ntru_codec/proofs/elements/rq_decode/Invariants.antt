use Rattle.std.proofs.Common.{◌≡◌, ℕ, ◌<◌, length, get_or, pos}
use Rattle.ntru_codec.specs.Elements.{lowered}
use Rattle.ntru_codec.proofs.elements.rq_decode.Given as goal

abbrev pub invariant-loop-k : goal.invariant-loop-k
invariant-loop-k l = record {
  whole : length l.coefficients ≡ 761;
  written : (j : ℕ) → j < l.k → get_or l.coefficients j (pos 0) ≡ lowered (get_or l.values j 0);
}

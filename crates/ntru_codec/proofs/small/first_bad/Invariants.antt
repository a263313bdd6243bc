use Rattle.std.proofs.Common.{◌≡◌, ℕ, ◌<◌, false, get_or}
use Rattle.ntru_codec.specs.Small.{is_bad}
use Rattle.ntru_codec.proofs.small.first_bad.Given as goal

abbrev pub invariant-loop-k : goal.invariant-loop-k
invariant-loop-k l = (j : ℕ) → j < l.k → is_bad j (get_or l.bytes j 0) ≡ false

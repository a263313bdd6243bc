use Rattle.std.proofs.Common.{◌≡◌, ◌<◌, ℕ, length, get_or}
use Rattle.std.specs.Int.RustNames.{bit_xor}
use Rattle.ntru_ring.proofs.planes_three.Planes3.opposite.Given as goal

abbrev pub invariant-loop-k : goal.invariant-loop-k
invariant-loop-k l = record {
  length : length l.negative ≡ 12;
  done : (i : ℕ) → i < l.k → get_or l.negative i 0 ≡ bit_xor (get_or l.self.nonzero i 0) (get_or l.self.negative i 0);
}

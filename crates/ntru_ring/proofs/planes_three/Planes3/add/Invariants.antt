use Rattle.std.proofs.Common.{◌≡◌, ◌<◌, ◌≤◌, ℕ, length, get_or, ◌+ℤ◌}
use Rattle.std.specs.Int.{bit_at}
use Rattle.ntru_ring.specs.Reduction.{centred}
use Rattle.ntru_ring.specs.Planes.{from_bits}
use Rattle.ntru_ring.proofs.planes_three.Planes3.add.Given as goal

abbrev pub invariant-loop-k : goal.invariant-loop-k
invariant-loop-k l = record {
  nonzero_length : length l.nonzero ≡ 12;
  negative_length : length l.negative ≡ 12;
  inside : (i j : ℕ) → i < l.k → bit_at (get_or l.negative i 0) j ≤ bit_at (get_or l.nonzero i 0) j;
  done : (i j : ℕ) → i < l.k → from_bits (bit_at (get_or l.nonzero i 0) j) (bit_at (get_or l.negative i 0) j)
      ≡ centred 1 (from_bits (bit_at (get_or l.self.nonzero i 0) j) (bit_at (get_or l.self.negative i 0) j) +ℤ from_bits (bit_at (get_or l.o.nonzero i 0) j) (bit_at (get_or l.o.negative i 0) j));
}

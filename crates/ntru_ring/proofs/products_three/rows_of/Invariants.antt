use Rattle.std.proofs.Common.{◌≡◌, ◌*◌, ◌<◌, ℕ, get_or, length}
use Rattle.ntru_ring.specs.declared.planes_three.Planes3.{Planes3}
use Rattle.ntru_ring.specs.Elements.{element}
use Rattle.ntru_ring.specs.Powers.{shifted}
use Rattle.ntru_ring.specs.Reduction.{reduced}
use Rattle.ntru_ring.proofs.products_three.rows_of.Given as goal

abbrev pub invariant-loop-k : goal.invariant-loop-k
invariant-loop-k l = record {
  long : length l.rows ≡ 12;
  rows : (k : ℕ) (d : Planes3) → k < l.k → element (get_or l.rows k d) ≡ reduced 1 (shifted (64 * k) (element l.a));
}

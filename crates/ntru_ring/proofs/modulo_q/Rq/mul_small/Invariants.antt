use Rattle.std.proofs.Common.{◌≡◌, ◌≤◌, negsuc}
use Rattle.ntru_ring.specs.Ring.{plus, scale, times}
use Rattle.ntru_ring.specs.Reduction.{reduced}
use Rattle.ntru_ring.specs.Elements.{element}
use Rattle.ntru_ring.specs.Powers.{rotated, total}
use Rattle.ntru_ring.proofs.Rings.Products.{left_of}
use Rattle.ntru_ring.proofs.modulo_q.Rq.mul_small.Given as goal

abbrev pub invariant-loop-k : goal.invariant-loop-k
invariant-loop-k l = record {
  added : l.added.count ≤ l.k;
  subtracted : l.subtracted.count ≤ l.k;
  sum : reduced 2295 (plus (plus (total l.powers.places l.added.places l.added.count) (scale (negsuc 0) (total l.powers.places l.subtracted.places l.subtracted.count))) (left_of (element l.small) l.k l.self.coefficients)) ≡ reduced 2295 (rotated (times (element l.small) l.self.coefficients));
}

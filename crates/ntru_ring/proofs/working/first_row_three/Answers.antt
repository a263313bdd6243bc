use Rattle.std.proofs.Common.{pos, arith, ap, ◌∙◌, lit<, lit≤, get_or-set_same}
use Rattle.ntru_ring.specs.Ring.{coefficient, zero_of}
use Rattle.ntru_ring.proofs.Rings.Algebra.{length-zero_of}
use Rattle.ntru_ring.proofs.Rings.Places.{coefficient-zero_of}
use Rattle.ntru_ring.proofs.working.first_row_three.Goals as goal

pub invariant_of-row : goal.invariant_of-row
invariant_of-row c = record {
  pivot_in = lit< tt;
  top_in = lit≤ tt;
  one = ap (λ t. coefficient t 0) (c.planes_of.ensures ∙ c.monomial.ensures) ∙ get_or-set_same (zero_of 761) 0 (pos 1) (pos 0) (omega (arith, length-zero_of 761));
  leading = λ k l. absurd (omega arith);
  trailing = λ k l. ap (λ t. coefficient t k) c.zero.ensures ∙ coefficient-zero_of 761 k;
}

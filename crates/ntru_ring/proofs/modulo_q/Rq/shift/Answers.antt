use Rattle.std.proofs.Common.{◌≡◌, ◌+ℤ◌, ◌-◌, ◌<◌, ◌≤◌, ℕ, sym, ap, ◌∙◌, arith, lit<, subst, to_z, of_z, List, ℤ, All, length, set}
use Rattle.ntru_ring.specs.declared.modulo_q.Rq.{Rq}
use Rattle.ntru_ring.specs.Ring.{coefficient, shift}
use Rattle.ntru_ring.specs.Reduction.{centred, reduced, IsWithin}
use Rattle.ntru_ring.proofs.Rings.Algebra.{length-shift}
use Rattle.ntru_ring.proofs.Rings.Congruence.{length-reduced, reduced_within}
use Rattle.ntru_ring.proofs.Vectors.LanesQ.{second_is, sum_centred}
use Rattle.ntru_ring.proofs.Rings.Moves.{moved_reduced}
use Rattle.ntru_ring.proofs.Rings.Places.{coefficient_within}
use Rattle.ntru_ring.proofs.Numbers.Ranges.{stored}
use mir.Syntax.{w16, w32}
use Rattle.ntru_ring.proofs.modulo_q.Rq.shift.Goals as goal

whole : (a : Rq) (moved : List ℤ) (r s q : ℤ) → length moved ≡ 761 → ((j : ℕ) → 1 ≤ j → j < 761 → coefficient moved j ≡ coefficient a.coefficients (j - 1))
    → r ≡ to_z w16 (of_z w16 (coefficient (set moved 0 (to_z w16 (of_z w16 (coefficient a.coefficients 760)))) 1)) → s ≡ to_z w16 (of_z w16 (coefficient a.coefficients 760))
    → q ≡ centred 2295 (to_z w32 (of_z w32 (to_z w32 (of_z w32 r) +ℤ to_z w32 (of_z w32 s))))
    → set (set moved 0 (to_z w16 (of_z w16 (coefficient a.coefficients 760)))) 1 (to_z w16 (of_z w16 q)) ≡ reduced 2295 (shift a.coefficients)
whole a moved r s q l done e f g =
    let c = a.coefficients in
    let last = to_z w16 (of_z w16 (coefficient c 760)) in
    let w = coefficient_within 2295 c 760 a.within in
    let p = second_is c moved last done in
    let v = subst (IsWithin 2295) (sym p) (coefficient_within 2295 c 0 a.within) in
    moved_reduced 2295 759 c moved last (to_z w16 (of_z w16 q)) a.length a.within l done (stored w16 2295 (coefficient c 760) w (lit< tt))
    (sum_centred (coefficient (set moved 0 last) 1) (coefficient c 760) r s q v w e f g ∙ ap (λ t. centred 2295 (t +ℤ coefficient c 760)) p)

pub invariant_of-result : goal.invariant_of-result
invariant_of-result c =
    let a = c.args.self.now in
    let done : (j : ℕ) → 1 ≤ j → j < 761 → coefficient c.loop-k.moved j ≡ coefficient a.coefficients (j - 1) = λ j p q. c.loop-k.invariant.done j p (omega arith) in
    let e = whole a c.loop-k.moved c.from.result c.from-2.result c.centred_q.result c.loop-k.invariant.length done c.from.ensures c.from-2.ensures c.centred_q.ensures.value in
    record {
      length = ap length e ∙ length-reduced 2295 (shift a.coefficients) ∙ length-shift a.coefficients ∙ a.length;
      within = subst (All (IsWithin 2295)) (sym e) (reduced_within 2295 (shift a.coefficients));
    }

pub returns : goal.returns
returns c =
    let a = c.args.self.now in
    let done : (j : ℕ) → 1 ≤ j → j < 761 → coefficient c.loop-k.moved j ≡ coefficient a.coefficients (j - 1) = λ j p q. c.loop-k.invariant.done j p (omega arith) in
    whole a c.loop-k.moved c.from.result c.from-2.result c.centred_q.result c.loop-k.invariant.length done c.from.ensures c.from-2.ensures c.centred_q.ensures.value

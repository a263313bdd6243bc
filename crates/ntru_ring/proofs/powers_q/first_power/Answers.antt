use Rattle.std.proofs.Common.{◌≡◌, ◌≢◌, ◌+◌, suc, arith, sym, ap, ◌∙◌, subst, pos, length, lit<, to_z, of_z, set, length-set, get_or-set_same, get_or-set_other}
use Rattle.std.proofs.lemmas.Grind.{common_steps}
use Rattle.std.proofs.lemmas.List.{get_or-replicate, length-replicate}
use Rattle.std.proofs.lemmas.List.Elements.{All-set}
use Rattle.std.proofs.lemmas.Simd.{length-chunk, get_or-chunk}
use mir.Syntax.{w16}
use Rattle.ntru_ring.specs.Ring.{coefficient}
use Rattle.ntru_ring.specs.Reduction.{IsWithin}
use Rattle.ntru_ring.proofs.Numbers.Ranges.{within_zero, stored}
use Rattle.ntru_ring.proofs.Rings.Places.{coefficient_within}
use Rattle.ntru_ring.proofs.Rings.Powers.{rotated_is}
use Rattle.ntru_ring.proofs.powers_q.first_power.Goals as goal

pub loop-k-init : goal.loop-k-init
loop-k-init c = record {
  length = length-replicate 1521 (pos 0);
  within = λ k d h. subst (IsWithin 2295) (sym (get_or-replicate 1521 k (pos 0) d (omega (arith, length-replicate 1521 (pos 0))))) (within_zero 2295);
  done = λ j l. absurd (omega arith);
}

pub loop-k-preserved : goal.loop-k-preserved
loop-k-preserved c = grind (arith, common_steps)

pub returns-clause-within : goal.returns-clause-within
returns-clause-within c =
    let a = c.args.element.now in
    let w = coefficient_within 2295 a.coefficients 0 a.within in
    All-set (IsWithin 2295) c.loop-k.places 1520 _ (subst (IsWithin 2295) (sym (stored w16 2295 (coefficient a.coefficients 0) w (lit< tt))) w) c.loop-k.invariant.within

pub returns-clause-row : goal.returns-clause-row
returns-clause-row c =
    let a = c.args.element.now in
    let z = c.loop-k.places in
    let v = to_z w16 (of_z w16 (coefficient a.coefficients 0)) in
    let s = stored w16 2295 (coefficient a.coefficients 0) (coefficient_within 2295 a.coefficients 0 a.within) (lit< tt) in
    let m : length (set z 1520 v) ≡ 1521 = length-set z 1520 v ∙ c.loop-k.invariant.length in
    rotated_is _ a.coefficients 760 (length-chunk 760 761 (set z 1520 v) (omega (arith, m))) a.length
    (λ k l.
    let n : 760 + k ≢ 1520 = omega arith in
    let e : k + 1 ≡ suc k = omega arith in
    get_or-chunk 760 761 (set z 1520 v) k (pos 0) (omega arith) ∙ get_or-set_other z 1520 (760 + k) v (pos 0) n ∙ c.loop-k.invariant.done k (omega arith) ∙ ap (coefficient a.coefficients) e)
    (get_or-chunk 760 761 (set z 1520 v) 760 (pos 0) (lit< tt) ∙ get_or-set_same z 1520 v (pos 0) (omega (arith, c.loop-k.invariant.length)) ∙ s)

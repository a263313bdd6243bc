use Rattle.std.proofs.Common.{◌≡◌, ◌≢◌, ◌+◌, suc, arith, sym, ap, ◌∙◌, subst, pos, lit<, to_z, of_z, get_or-set_same, get_or-set_other}
use Rattle.std.proofs.lemmas.Grind.{common_steps}
use Rattle.std.proofs.lemmas.List.{get_or-replicate, length-replicate}
use Rattle.std.proofs.lemmas.List.Elements.{All-set}
use mir.Syntax.{w16}
use Rattle.ntru_ring.specs.Ring.{coefficient}
use Rattle.ntru_ring.specs.Reduction.{IsWithin}
use Rattle.ntru_ring.proofs.Numbers.Ranges.{within_zero, stored}
use Rattle.ntru_ring.proofs.Rings.Places.{coefficient_within}
use Rattle.ntru_ring.proofs.Rings.Powers.{rotated_is}
use Rattle.ntru_ring.proofs.powers_q.turned_back.Goals as goal

pub loop-k-init : goal.loop-k-init
loop-k-init c = record {
  length = length-replicate 761 (pos 0);
  within = λ k d h. subst (IsWithin 2295) (sym (get_or-replicate 761 k (pos 0) d (omega (arith, length-replicate 761 (pos 0))))) (within_zero 2295);
  done = λ j l. absurd (omega arith);
}

pub loop-k-preserved : goal.loop-k-preserved
loop-k-preserved c = grind (arith, common_steps)

pub new-requires : goal.new-requires
new-requires c =
    let w = coefficient_within 2295 c.args.row.now.coefficients 760 c.args.row.now.within in
    All-set (IsWithin 2295) c.loop-k.coefficients 0 _ (subst (IsWithin 2295) (sym (stored w16 2295 (coefficient c.args.row.now.coefficients 760) w (lit< tt))) w) c.loop-k.invariant.within

pub returns : goal.returns
returns c =
    let row = c.args.row.now in
    let xs = c.loop-k.coefficients in
    let v = to_z w16 (of_z w16 (coefficient row.coefficients 760)) in
    let s = stored w16 2295 (coefficient row.coefficients 760) (coefficient_within 2295 row.coefficients 760 row.within) (lit< tt) in
    sym (rotated_is row.coefficients c.new.result.coefficients 760 row.length c.new.result.length
    (λ k l.
    let n : suc k ≢ 0 = omega arith in
    let e : suc k ≡ k + 1 = omega arith in
    sym (ap (λ t. coefficient t (suc k)) c.new.ensures ∙ get_or-set_other xs 0 (suc k) v (pos 0) n ∙ ap (coefficient xs) e ∙ c.loop-k.invariant.done k (omega arith)))
    (sym (ap (λ t. coefficient t 0) c.new.ensures ∙ get_or-set_same xs 0 v (pos 0) (omega (arith, c.loop-k.invariant.length)) ∙ s)))

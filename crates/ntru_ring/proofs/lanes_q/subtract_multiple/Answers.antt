use Rattle.std.proofs.Common.{◌≡◌, ◌+◌, ◌*◌, ◌+ℤ◌, ◌*ℤ◌, List, ℤ, ℕ, All, neg_ℤ, sym, ap, ◌∙◌, arith, lit<, subst, to_z, of_z}
use mir.Syntax.{w16}
use Rattle.ntru_ring.specs.Ring.{plus, scale, coefficient}
use Rattle.ntru_ring.specs.Reduction.{centred, reduced, IsWithin}
use Rattle.ntru_ring.proofs.Numbers.Ranges.{stored}
use Rattle.ntru_ring.proofs.Rings.Places.{coefficient_within}
use Rattle.ntru_ring.proofs.Vectors.Blocks.{IsDone, IsDone-none, IsDone-block, IsDone-all}
use Rattle.ntru_ring.proofs.lanes_q.subtract_multiple.Goals as goal

pub loop-block-init : goal.loop-block-init
loop-block-init c = IsDone-none _ c.args.a.now c.args.b.now c.requires.a_within

pub loop-block-preserved : goal.loop-block-preserved
loop-block-preserved c =
    let r = c.args in
    let n = neg_ℤ (to_z w16 (of_z w16 r.factor)) in
    let k = c.loop-block.block in
    subst (λ (t : List ℤ). IsDone n r.a.now r.b.now (8 * (k + 1)) t) (sym c.subtract_block.ensures)
    (IsDone-block n r.a.now r.b.now c.loop-block.a (8 * k) (8 * (k + 1)) (omega arith) (omega (arith, c.told-a)) (omega (arith, c.told-b)) c.loop-block.invariant)

read_within : (a : List ℤ) (k : ℕ) → All (IsWithin 2295) a → IsWithin 2295 (to_z w16 (of_z w16 (coefficient a k)))
read_within a k w = let v = coefficient_within 2295 a k w in subst (IsWithin 2295) (sym (stored w16 2295 (coefficient a k) v (lit< tt))) v

pub difference-requires-clause-x_within : goal.difference-requires-clause-x_within
difference-requires-clause-x_within c = read_within c.loop-block.a 760 c.loop-block.invariant.within

pub difference-requires-clause-y_within : goal.difference-requires-clause-y_within
difference-requires-clause-y_within c = read_within c.args.b.now 760 c.requires.b_within

pub returns : goal.returns
returns c =
    let r = c.args in
    let n = neg_ℤ (to_z w16 (of_z w16 r.factor)) in
    let xs = c.loop-block.a in
    let e : 8 * c.loop-block.block ≡ 760 = omega arith in
    let g = subst (λ (t : ℕ). IsDone n r.a.now r.b.now t xs) e c.loop-block.invariant in
    let v = stored w16 2295 c.difference.result c.difference.ensures.within (lit< tt) in
    let p = stored w16 2295 (coefficient xs 760) (coefficient_within 2295 xs 760 g.within) (lit< tt) in
    let q = stored w16 2295 (coefficient r.b.now 760) (coefficient_within 2295 r.b.now 760 c.requires.b_within) (lit< tt) in
    IsDone-all n r.a.now r.b.now xs 760 _ c.told-a c.told-b
    (v ∙ c.difference.ensures.value ∙ ap (λ t. centred 2295 (t +ℤ n *ℤ to_z w16 (of_z w16 (coefficient r.b.now 760)))) p ∙ ap (λ t. centred 2295 (coefficient xs 760 +ℤ n *ℤ t)) q)
    g
    ∙ ap (λ t. reduced 2295 (plus r.a.now (scale (neg_ℤ t) r.b.now))) (stored w16 2295 r.factor c.requires.factor_within (lit< tt))

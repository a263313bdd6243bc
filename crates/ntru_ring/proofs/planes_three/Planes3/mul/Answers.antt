use Rattle.std.proofs.Common.{◌≡◌, ℕ, ◌+◌, ◌*◌, ◌-◌, get_or, refl, sym, ap, ◌∙◌, arith, lit<, subst}
use mir.Syntax.{w16}
use Rattle.ntru_ring.specs.Ring.{plus, scale, shift}
use Rattle.ntru_ring.specs.Reduction.{reduced}
use Rattle.ntru_ring.specs.Elements.{element}
use Rattle.ntru_ring.specs.Powers.{shifted}
use Rattle.ntru_ring.proofs.Numbers.Ranges.{stored}
use Rattle.ntru_ring.proofs.Rings.Congruence.{reduced-reduced}
use Rattle.ntru_ring.proofs.Rings.Residues.{IsSummedTo, IsSummedTo-none, IsSummedTo-moved, IsSummedTo-more, IsSummedTo-full, IsSummedTo-all}
use Rattle.ntru_ring.proofs.Vectors.Elements.{length-element, reduced-element}
use Rattle.ntru_ring.proofs.planes_three.Planes3.mul.Goals as goal

pub loop-k-init : goal.loop-k-init
loop-k-init c =
    let a = element c.args.self.now in
    let b = element c.args.o.now in
    subst (IsSummedTo a b 64 12) (sym c.zero-product.ensures) (IsSummedTo-none a b (length-element c.args.o.now))

pub loop-j-init : goal.loop-j-init
loop-j-init c =
    let a = element c.args.self.now in
    let b = element c.args.o.now in
    let k = c.loop-k.k in
    let s = element c.loop-k.product in
    IsSummedTo-moved a b s _ (63 - k) (64 - k) (omega arith) (omega arith) (ap (reduced 1) c.shift-product.ensures ∙ reduced-reduced 1 (shift s)) c.loop-k.invariant

pub loop-j-preserved : goal.loop-j-preserved
loop-j-preserved c =
    let a = element c.args.self.now in
    let b = element c.args.o.now in
    let j = c.loop-j.j in
    let place = 63 - c.loop-k.k in
    let s = c.loop-j.product in
    let row = get_or c.rows_of-rows.result j c.index-rows-j.result in
    let x = c.at.result in
    let f = stored w16 1 x c.at.ensures.within (lit< tt) in
    let sum = ap (reduced 1) c.add_multiple-product.ensures ∙ reduced-reduced 1 (plus (element s) (scale _ (element row))) ∙ ap (λ t. reduced 1 (plus (element s) (scale t (element row)))) f in
    let power = ap (reduced 1) (c.rows_of-rows.ensures j c.index-rows-j.result (omega arith)) ∙ reduced-reduced 1 (shifted (64 * j) b) in
    IsSummedTo-more a b (element s) (element c.add_multiple-product.result) (element row) place j (64 * j + place) x (length-element s ∙ sym (length-element row)) refl (omega arith) (omega arith) c.at.ensures.value sum power
    c.loop-j.invariant

pub loop-k-preserved : goal.loop-k-preserved
loop-k-preserved c =
    let a = element c.args.self.now in
    let b = element c.args.o.now in
    let s = element c.loop-j.product in
    let place = 63 - c.loop-k.k in
    let e : place ≡ 64 - (c.loop-k.k + 1) = omega arith in
    subst (λ (p : ℕ). IsSummedTo a b p 12 s) e (IsSummedTo-full a b s place c.loop-j.j (omega arith) (omega arith) (omega arith) c.loop-j.invariant)

pub returns : goal.returns
returns c =
    let a = element c.args.self.now in
    let b = element c.args.o.now in
    let s = element c.loop-k.product in
    let e : 64 - c.loop-k.k ≡ 0 = omega arith in
    sym (reduced-element c.loop-k.product) ∙ IsSummedTo-all a b s (length-element c.args.self.now) (subst (λ (p : ℕ). IsSummedTo a b p 12 s) e c.loop-k.invariant)

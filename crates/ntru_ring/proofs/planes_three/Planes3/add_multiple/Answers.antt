use Rattle.std.proofs.Common.{◌≡◌, arith, pos, negsuc, sym, ap, ◌∙◌}
use Rattle.std.proofs.lemmas.Int.{ints}
use Rattle.ntru_ring.specs.Elements.{element}
use Rattle.ntru_ring.specs.Ring.{plus, scale}
use Rattle.ntru_ring.specs.Reduction.{reduced}
use Rattle.ntru_ring.proofs.Rings.Algebra.{plus_scale_zero, scale_one}
use Rattle.ntru_ring.proofs.Vectors.Elements.{length-element, reduced-element}
use Rattle.ntru_ring.proofs.planes_three.Planes3.add_multiple.Goals as goal

pub returns-then-by-eq0 : goal.returns-then-by-eq0
returns-then-by-eq0 c =
    let a = c.args.self.now in
    let b = c.args.o.now in
    let w = c.requires in
    let z : c.args.by ≡ pos 0 = omega (arith, ints, w.low, w.high, c.if-by-eq0.true) in
    sym (reduced-element a) ∙ ap (reduced 1) (sym (plus_scale_zero (element a) (element b) (length-element a ∙ sym (length-element b))) ∙ ap (λ t. plus (element a) (scale t (element b))) (sym z))

pub returns-then-by-eq1 : goal.returns-then-by-eq1
returns-then-by-eq1 c =
    let a = c.args.self.now in
    let b = c.args.o.now in
    let w = c.requires in
    let z : c.args.by ≡ pos 1 = omega (arith, ints, w.low, w.high, c.if-by-eq1.true) in
    c.add.ensures ∙ ap (λ t. reduced 1 (plus (element a) t)) (sym (scale_one (element b)) ∙ ap (λ t. scale t (element b)) (sym z))

pub returns-else-by-eq1 : goal.returns-else-by-eq1
returns-else-by-eq1 c =
    let a = c.args.self.now in
    let b = c.args.o.now in
    let w = c.requires in
    let z : c.args.by ≡ negsuc 0 = omega (arith, ints, w.low, w.high, c.if-by-eq0.false, c.if-by-eq1.false) in
    c.sub.ensures ∙ ap (λ t. reduced 1 (plus (element a) (scale t (element b)))) (sym z)

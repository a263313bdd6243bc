use Rattle.std.proofs.Common.{sym, ap, ◌∙◌, ◌≡◌, ◌+◌, ◌-◌, arith, drop}
use Rattle.ntru_ring.specs.Ring.{times, coefficient, scale, plus}
use Rattle.ntru_ring.specs.Reduction.{reduced}
use Rattle.ntru_ring.proofs.Rings.Products.{product_none, product_more}
use Rattle.ntru_ring.proofs.Rings.Congruence.{reduced-reduced, reduced_keeps}
use Rattle.ntru_ring.proofs.Eliminating.Inverses.{reduced_zero}
use Rattle.ntru_ring.proofs.Vectors.LanesQ.{negated_twice}
use Rattle.ntru_ring.proofs.Rings.Places.{coefficient_within}
use Rattle.ntru_ring.proofs.modulo_q.Rq.mul.Goals as goal

pub loop-k-init : goal.loop-k-init
loop-k-init c =
    let a = c.args.self.now in
    let b = c.args.o.now in
    c.zero-product.ensures ∙ sym (reduced_zero 2295 761) ∙ ap (reduced 2295) (product_none 761 a.coefficients b.coefficients a.length b.length)

pub loop-k-preserved : goal.loop-k-preserved
loop-k-preserved c =
    let a = c.args.self.now in
    let b = c.args.o.now in
    let k = c.loop-k.k in
    let moved = c.shift-product.result.coefficients in
    let new = c.subtract_row.new.self in
    let x = coefficient a.coefficients (760 - k) in
    let m : 760 - k ≡ 761 - (k + 1) = omega arith in
    let n = negated_twice x (coefficient_within 2295 a.coefficients (760 - k) a.within) in
    sym (reduced_keeps 2295 new.coefficients new.within)
    ∙ product_more 2295 761 a.coefficients b.coefficients c.loop-k.product.coefficients moved new.coefficients k x a.length (omega arith) (ap (coefficient a.coefficients) m)
    (ap (reduced 2295) c.loop-k.invariant ∙ reduced-reduced 2295 _) (ap (reduced 2295) c.shift-product.ensures ∙ reduced-reduced 2295 _)
    (ap (reduced 2295) (c.subtract_row.ensures ∙ ap (λ t. reduced 2295 (plus moved (scale t b.coefficients))) n) ∙ reduced-reduced 2295 _)

pub returns : goal.returns
returns c =
    let a = c.args.self.now in
    let k : 761 - c.loop-k.k ≡ 0 = omega arith in
    c.loop-k.invariant ∙ ap (λ t. reduced 2295 (times (drop t a.coefficients) c.args.o.now.coefficients)) k

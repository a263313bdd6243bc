use Rattle.std.proofs.Common.{ap, ◌∙◌, ◌≡◌, ◌+◌, ◌-◌, arith, lit<, drop}
use Rattle.ntru_ring.specs.Ring.{times, coefficient, scale, plus}
use Rattle.ntru_ring.specs.Reduction.{reduced}
use Rattle.ntru_ring.proofs.Rings.Products.{product_none, product_more}
use Rattle.ntru_ring.proofs.Rings.Places.{coefficient_within}
use Rattle.ntru_ring.proofs.Numbers.Ranges.{stored}
use mir.Syntax.{w16}
use Rattle.ntru_ring.proofs.modulo_q.Rq.mul_plain.Goals as goal

pub loop-k-init : goal.loop-k-init
loop-k-init c =
    let a = c.args.self.now in
    let b = c.args.o.now in
    ap (reduced 2295) (c.of-sums.ensures ∙ c.zero.ensures ∙ product_none 761 a.coefficients b.coefficients a.length b.length)

pub loop-k-preserved : goal.loop-k-preserved
loop-k-preserved c =
    let a = c.args.self.now in
    let b = c.args.o.now in
    let k = c.loop-k.k in
    let s = c.shift.new.self.terms in
    let x = coefficient a.coefficients (760 - k) in
    let m : 760 - k ≡ 761 - (k + 1) = omega arith in
    let f = stored w16 2295 x (coefficient_within 2295 a.coefficients (760 - k) a.within) (lit< tt) in
    product_more 2295 761 a.coefficients b.coefficients c.loop-k.sums.terms s c.add.new.self.terms k x a.length (omega arith) (ap (coefficient a.coefficients) m)
    c.loop-k.invariant c.shift.ensures (c.add.ensures ∙ ap (λ t. reduced 2295 (plus s (scale t b.coefficients))) f)

pub returns : goal.returns
returns c =
    let a = c.args.self.now in
    let k : 761 - c.loop-k.k ≡ 0 = omega arith in
    c.settled.ensures ∙ c.loop-k.invariant ∙ ap (λ t. reduced 2295 (times (drop t a.coefficients) c.args.o.now.coefficients)) k

use Rattle.std.proofs.Common.{◌≡◌, ℕ, List, ℤ, pos, negsuc, sym, ap, ◌∙◌, arith, lit<}
use mir.Syntax.{w16}
use Rattle.ntru_ring.specs.Ring.{plus, scale, times, zero_of}
use Rattle.ntru_ring.specs.Elements.{element}
use Rattle.ntru_ring.specs.Powers.{total}
use Rattle.ntru_ring.specs.Reduction.{reduced}
use Rattle.ntru_ring.proofs.Numbers.Ranges.{stored}
use Rattle.ntru_ring.proofs.Rings.Algebra.{length-plus, length-scale, length-times}
use Rattle.ntru_ring.proofs.Rings.Congruence.{length-reduced, reduced-reduced, reduced-plus, scale_same}
use Rattle.ntru_ring.proofs.Rings.Powers.{length-total, total_none, rotated_same, rotated-reduced}
use Rattle.ntru_ring.proofs.Rings.Products.{left_of, small_none, small_more, small_all}
use Rattle.ntru_ring.proofs.Rings.Unit.{times_comm}
use Rattle.ntru_ring.proofs.Vectors.Elements.{length-element}
use Rattle.ntru_ring.proofs.modulo_q.Rq.mul_small.Goals as goal

none : (z : List ℤ) (starts : List ℕ) (n : ℕ) → n ≡ 0 → total z starts n ≡ zero_of 761
none z starts n e = ap (total z starts) e ∙ total_none z starts

pub loop-k-init : goal.loop-k-init
loop-k-init c =
    let s = element c.args.small.now in
    let a = c.args.self.now in
    let z = c.of-powers.result.places in
    let p = none z c.new-added.result.places c.new-added.result.count c.new-added.ensures in
    let m = none z c.new-subtracted.result.places c.new-subtracted.result.count c.new-subtracted.ensures in
    record {
      added = omega (arith, c.new-added.ensures);
      subtracted = omega (arith, c.new-subtracted.ensures);
      sum = ap (λ t. reduced 2295 (plus (plus t (scale (negsuc 0) (total z c.new-subtracted.result.places c.new-subtracted.result.count))) (left_of s 0 a.coefficients))) p
          ∙ ap (λ t. reduced 2295 (plus (plus (zero_of 761) (scale (negsuc 0) t)) (left_of s 0 a.coefficients))) m ∙ ap (reduced 2295) (small_none s a.coefficients 761 a.length);
    }

pub loop-k-preserved : goal.loop-k-preserved
loop-k-preserved c =
    let s = element c.args.small.now in
    let a = c.args.self.now in
    let k = c.loop-k.k in
    let i = c.loop-k.invariant in
    let powers = c.of-powers.result in
    let z = powers.places in
    let signs = c.of-signs.result in
    let row = c.of-powers.ensures k (omega arith) in
    let x = c.at.result in
    let e = sym (stored w16 1 x c.at.ensures.within (lit< tt)) ∙ c.of-signs.ensures in
    let p = c.push.ensures.total z powers.length ∙ ap (λ t. plus (total z c.loop-k.added.places c.loop-k.added.count) (scale (pos signs.plus) t)) row in
    let m = c.push-in-loop-k.ensures.total z powers.length ∙ ap (λ t. plus (total z c.loop-k.subtracted.places c.loop-k.subtracted.count) (scale (pos signs.minus) t)) row in
    record {
      added = omega (arith, c.push.ensures.count, i.added, signs.plus_in);
      subtracted = omega (arith, c.push-in-loop-k.ensures.count, i.subtracted, signs.minus_in);
      sum = small_more s a.coefficients _ (total z c.loop-k.added.places c.loop-k.added.count) _ (total z c.loop-k.subtracted.places c.loop-k.subtracted.count) _ k signs.plus signs.minus x
          (omega (arith, length-element c.args.small.now)) c.at.ensures.value e p m i.sum;
    }

pub returns : goal.returns
returns c =
    let s = element c.args.small.now in
    let a = c.args.self.now in
    let k = c.loop-k.k in
    let powers = c.of-powers.result in
    let z = powers.places in
    let long = length-element c.args.small.now in
    let p = total z c.loop-k.added.places c.loop-k.added.count in
    let m = total z c.loop-k.subtracted.places c.loop-k.subtracted.count in
    let product = times s a.coefficients in
    let length_p = length-total z c.loop-k.added.places c.loop-k.added.count powers.length c.loop-k.added.within in
    let length_m = length-scale (negsuc 0) m ∙ length-total z c.loop-k.subtracted.places c.loop-k.subtracted.count powers.length c.loop-k.subtracted.within in
    let length_d = length-plus p (scale (negsuc 0) m) (length_p ∙ sym length_m) ∙ length_m in
    let reduced_p = ap (reduced 2295) c.sum_of-sum.ensures ∙ reduced-reduced 2295 p in
    let reduced_m = scale_same 2295 (negsuc 0) c.sum_of.result.coefficients m (ap (reduced 2295) c.sum_of.ensures ∙ reduced-reduced 2295 m) in
    let sum = c.subtract_row.ensures ∙ reduced-plus 2295 c.sum_of-sum.result.coefficients p (scale (negsuc 0) c.sum_of.result.coefficients) (scale (negsuc 0) m) reduced_p reduced_m in
    let all = ap (reduced 2295) (sym (small_all s a.coefficients (plus p (scale (negsuc 0) m)) k (omega (arith, long)) (length_d ∙ sym a.length))) ∙ c.loop-k.invariant.sum in
    rotated_same c.turned_back.result.coefficients (reduced 2295 product) 760 c.turned_back.result.length (length-reduced 2295 product ∙ length-times s a.coefficients ∙ a.length)
    (c.turned_back.ensures ∙ sum ∙ all ∙ sym (rotated-reduced 2295 product))
    ∙ ap (reduced 2295) (times_comm s a.coefficients (long ∙ sym a.length))

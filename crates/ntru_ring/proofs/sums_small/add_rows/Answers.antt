use Rattle.std.proofs.Common.{◌≡◌, ◌+ℤ◌, arith, refl, sym, ap, ◌∙◌, length, pos}
use Rattle.std.proofs.Math.ListN.{get_or-eq_default}
use Rattle.ntru_ring.specs.Ring.{coefficient, plus}
use Rattle.ntru_ring.proofs.Rings.Algebra.{length-plus, scale_one}
use Rattle.ntru_ring.proofs.Rings.Kernels.{IsAdded-none, IsAdded-more, IsAdded-all, IsAdded-at}
use Rattle.ntru_ring.proofs.Rings.Places.{coefficient_within, coefficient-plus}
use Rattle.ntru_ring.proofs.Vectors.WordsQ.{four_fit, rows_fit, rows_stored}
use Rattle.ntru_ring.proofs.sums_small.add_rows.Goals as goal

pub loop-k-init : goal.loop-k-init
loop-k-init c = IsAdded-none c.args.sums.now _ _ 0

pub overflow_add-sums-in-loop-k-2 : goal.overflow_add-sums-in-loop-k-2
overflow_add-sums-in-loop-k-2 c =
    let r = c.requires in
    let k = c.loop-k.k in
    four_fit _ _ _ _ (coefficient c.args.sums.now k) (coefficient c.loop-k.sums k) (coefficient_within 2295 c.args.one.now k r.one.within) (coefficient_within 2295 c.args.two.now k r.two.within)
    (coefficient_within 2295 c.args.three.now k r.three.within) (coefficient_within 2295 c.args.four.now k r.four.within) (c.loop-k.invariant.after k (omega arith)) (coefficient_within 22950 c.args.sums.now k r.room)

pub overflow_add-sums-in-loop-k-3 : goal.overflow_add-sums-in-loop-k-3
overflow_add-sums-in-loop-k-3 c =
    let r = c.requires in
    let k = c.loop-k.k in
    rows_fit _ _ _ _ (coefficient c.args.sums.now k) (coefficient c.loop-k.sums k) (coefficient_within 2295 c.args.one.now k r.one.within) (coefficient_within 2295 c.args.two.now k r.two.within)
    (coefficient_within 2295 c.args.three.now k r.three.within) (coefficient_within 2295 c.args.four.now k r.four.within) (c.loop-k.invariant.after k (omega arith)) (coefficient_within 22950 c.args.sums.now k r.room)

pub loop-k-preserved : goal.loop-k-preserved
loop-k-preserved c =
    let r = c.requires in
    let k = c.loop-k.k in
    let a = c.args.one.now in
    let b = c.args.two.now in
    let d = c.args.three.now in
    let e = c.args.four.now in
    let l = length-plus a b (r.one.length ∙ sym r.two.length) ∙ r.two.length in
    let m = length-plus d e (r.three.length ∙ sym r.four.length) ∙ r.four.length in
    let z = coefficient-plus (plus a b) (plus d e) k (l ∙ sym m) ∙ ap (λ t. t +ℤ coefficient (plus d e) k) (coefficient-plus a b k (r.one.length ∙ sym r.two.length))
    ∙ ap (λ t. (coefficient a k +ℤ coefficient b k) +ℤ t) (coefficient-plus d e k (r.three.length ∙ sym r.four.length)) in
    IsAdded-more c.args.sums.now c.loop-k.sums _ _ 0 k _ (omega arith) (omega (arith, c.told-sums))
    (rows_stored (coefficient a k) (coefficient b k) (coefficient d k) (coefficient e k) (coefficient c.args.sums.now k) (coefficient c.loop-k.sums k) (coefficient_within 2295 a k r.one.within)
    (coefficient_within 2295 b k r.two.within) (coefficient_within 2295 d k r.three.within) (coefficient_within 2295 e k r.four.within) (c.loop-k.invariant.after k (omega arith)) (coefficient_within 22950 c.args.sums.now k r.room)
    (coefficient (plus (plus a b) (plus d e)) k) z)
    c.loop-k.invariant

pub returns : goal.returns
returns c =
    let r = c.requires in
    let a = plus c.args.one.now c.args.two.now in
    let b = plus c.args.three.now c.args.four.now in
    let l = length-plus c.args.one.now c.args.two.now (r.one.length ∙ sym r.two.length) ∙ r.two.length in
    let m = length-plus c.args.three.now c.args.four.now (r.three.length ∙ sym r.four.length) ∙ r.four.length in
    let n : length (plus a b) ≡ 761 = length-plus a b (l ∙ sym m) ∙ m in
    let k : c.loop-k.k ≡ 761 = omega arith in
    IsAdded-all c.args.sums.now c.loop-k.sums (plus a b) (pos 1) 0 761 (c.told-sums ∙ sym n) (λ j l. absurd (omega arith)) (λ j l. get_or-eq_default (plus a b) (pos 0) {n = j} (omega (arith, n)))
    (IsAdded-at c.args.sums.now c.loop-k.sums (plus a b) _ (pos 1) 0 c.loop-k.k 761 refl k c.loop-k.invariant)
    ∙ ap (plus c.args.sums.now) (scale_one (plus a b))

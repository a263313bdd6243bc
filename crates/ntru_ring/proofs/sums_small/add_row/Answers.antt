use Rattle.std.proofs.Common.{◌≡◌, arith, refl, ap, ◌∙◌, pos}
use Rattle.std.proofs.Math.ListN.{get_or-eq_default}
use Rattle.ntru_ring.specs.Ring.{coefficient, plus}
use Rattle.ntru_ring.proofs.Rings.Algebra.{scale_one}
use Rattle.ntru_ring.proofs.Rings.Kernels.{IsAdded-none, IsAdded-more, IsAdded-all, IsAdded-at}
use Rattle.ntru_ring.proofs.Rings.Places.{coefficient_within}
use Rattle.ntru_ring.proofs.Vectors.WordsQ.{row_sum_fits, row_sum_stored}
use Rattle.ntru_ring.proofs.sums_small.add_row.Goals as goal

pub overflow_add-sums : goal.overflow_add-sums
overflow_add-sums c =
    let row = c.args.row.now in
    let old = c.args.sums.now in
    let k = c.loop-k.k in
    row_sum_fits (coefficient row k) (coefficient old k) (coefficient c.loop-k.sums k) (coefficient_within 2295 row k c.requires.row.within)
    (c.loop-k.invariant.after k (omega arith)) (coefficient_within 29835 old k c.requires.room)

pub loop-k-init : goal.loop-k-init
loop-k-init c = IsAdded-none c.args.sums.now c.args.row.now _ 0

pub loop-k-preserved : goal.loop-k-preserved
loop-k-preserved c =
    let row = c.args.row.now in
    let old = c.args.sums.now in
    let k = c.loop-k.k in
    IsAdded-more old c.loop-k.sums row _ 0 k _ (omega arith) (omega (arith, c.told-sums))
    (row_sum_stored (coefficient row k) (coefficient old k) (coefficient c.loop-k.sums k) (coefficient_within 2295 row k c.requires.row.within)
    (c.loop-k.invariant.after k (omega arith)) (coefficient_within 29835 old k c.requires.room))
    c.loop-k.invariant

pub returns : goal.returns
returns c =
    let row = c.args.row.now in
    let k : c.loop-k.k ≡ 761 = omega arith in
    IsAdded-all c.args.sums.now c.loop-k.sums row (pos 1) 0 761 (omega (arith, c.told-sums, c.requires.row.length)) (λ j l. absurd (omega arith)) (λ j l. get_or-eq_default row (pos 0) {n = j} (omega (arith, c.requires.row.length)))
    (IsAdded-at c.args.sums.now c.loop-k.sums row _ (pos 1) 0 c.loop-k.k 761 refl k c.loop-k.invariant)
    ∙ ap (plus c.args.sums.now) (scale_one row)

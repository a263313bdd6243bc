use Rattle.std.proofs.Common.{◌≡◌, arith, lit<}
use Rattle.ntru_ring.specs.Ring.{coefficient}
use Rattle.ntru_ring.proofs.Numbers.Ranges.{stored}
use Rattle.ntru_ring.proofs.Rings.Places.{coefficient_within}
use Rattle.ntru_ring.proofs.Rings.Kernels.{IsAdded-none, IsAdded-more, IsAdded-all, IsAdded-at}
use Rattle.ntru_ring.proofs.Vectors.LanesQ.{product_fits, sum_fits, sum_stored}
use mir.Syntax.{w32}
use Rattle.ntru_ring.proofs.sums_q.add_multiple.Goals as goal

pub overflow_mul-sums : goal.overflow_mul-sums
overflow_mul-sums c = product_fits c.args.by (coefficient c.args.row.now c.loop-k.k) c.from.result c.requires.by_within (coefficient_within 2295 c.args.row.now c.loop-k.k c.requires.row_within) c.from.ensures

pub overflow_add-sums : goal.overflow_add-sums
overflow_add-sums c =
    let e = c.loop-k.invariant.after c.loop-k.k (omega arith) in
    sum_fits c.args.by (coefficient c.args.row.now c.loop-k.k) c.from.result (coefficient c.args.sums.now c.loop-k.k) (coefficient c.loop-k.sums c.loop-k.k) c.requires.by_within (coefficient_within 2295 c.args.row.now c.loop-k.k c.requires.row_within) c.from.ensures e (coefficient_within 2142216622 c.args.sums.now c.loop-k.k c.requires.room)

pub loop-k-init : goal.loop-k-init
loop-k-init c = IsAdded-none c.args.sums.now c.args.row.now _ c.args.from

pub loop-k-preserved : goal.loop-k-preserved
loop-k-preserved c =
    let e = c.loop-k.invariant.after c.loop-k.k (omega arith) in
    IsAdded-more c.args.sums.now c.loop-k.sums c.args.row.now _ c.args.from c.loop-k.k _ (omega arith) (omega (arith, c.requires.end))
    (sum_stored c.args.by (coefficient c.args.row.now c.loop-k.k) c.from.result (coefficient c.args.sums.now c.loop-k.k) (coefficient c.loop-k.sums c.loop-k.k) c.requires.by_within (coefficient_within 2295 c.args.row.now c.loop-k.k c.requires.row_within) c.from.ensures e (coefficient_within 2142216622 c.args.sums.now c.loop-k.k c.requires.room))
    c.loop-k.invariant

pub returns : goal.returns
returns c =
    let k : c.loop-k.k ≡ c.args.to = omega arith in
    let b = stored w32 2295 c.args.by c.requires.by_within (lit< tt) in
    IsAdded-all c.args.sums.now c.loop-k.sums c.args.row.now c.args.by c.args.from c.args.to (omega arith) c.requires.before c.requires.after
    (IsAdded-at c.args.sums.now c.loop-k.sums c.args.row.now _ c.args.by c.args.from c.loop-k.k c.args.to b k c.loop-k.invariant)

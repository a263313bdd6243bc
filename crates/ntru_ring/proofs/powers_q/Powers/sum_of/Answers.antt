use Rattle.std.proofs.Common.{◌≡◌, ◌+◌, ◌*◌, ◌/◌, sym, ap, ◌∙◌, arith}
use Rattle.ntru_ring.specs.Reduction.{reduced}
use Rattle.ntru_ring.specs.Powers.{total}
use Rattle.ntru_ring.proofs.Rings.Powers.{row_along, total_none, total_next, total_next_four}
use Rattle.ntru_ring.proofs.powers_q.Powers.sum_of.Goals as goal

pub loop-group-init : goal.loop-group-init
loop-group-init c = ap (reduced 2295) (c.of-sums.ensures ∙ c.zero.ensures ∙ sym (total_none c.args.self.now.places c.args.starts.now.places))

pub add_four-requires-clause-one : goal.add_four-requires-clause-one
add_four-requires-clause-one c = let p = c.args.self.now in row_along _ p.places c.at.result c.row.ensures p.length p.within c.at.ensures.within

pub add_four-requires-clause-two : goal.add_four-requires-clause-two
add_four-requires-clause-two c = let p = c.args.self.now in row_along _ p.places c.at-in-loop-group.result c.row-in-loop-group.ensures p.length p.within c.at-in-loop-group.ensures.within

pub add_four-requires-clause-three : goal.add_four-requires-clause-three
add_four-requires-clause-three c = let p = c.args.self.now in row_along _ p.places c.at-in-loop-group-2.result c.row-in-loop-group-2.ensures p.length p.within c.at-in-loop-group-2.ensures.within

pub add_four-requires-clause-four : goal.add_four-requires-clause-four
add_four-requires-clause-four c = let p = c.args.self.now in row_along _ p.places c.at-in-loop-group-3.result c.row-in-loop-group-3.ensures p.length p.within c.at-in-loop-group-3.ensures.within

pub loop-group-preserved : goal.loop-group-preserved
loop-group-preserved c =
    let z = c.args.self.now.places in
    let s = c.args.starts.now.places in
    let g = c.loop-group.group in
    let e : 4 * g + 4 ≡ 4 * (g + 1) = omega arith in
    total_next_four c.loop-group.sums.terms _ _ _ _ _ z s (4 * g) _ _ _ _ c.at.ensures.value c.at-in-loop-group.ensures.value c.at-in-loop-group-2.ensures.value c.at-in-loop-group-3.ensures.value
    c.row.ensures c.row-in-loop-group.ensures c.row-in-loop-group-2.ensures c.row-in-loop-group-3.ensures c.add_four.ensures c.loop-group.invariant
    ∙ ap (λ n. reduced 2295 (total z s n)) e

pub loop-k-init : goal.loop-k-init
loop-k-init c =
    let e : 4 * c.loop-group.group ≡ 4 * (c.args.starts.now.count / 4) = omega arith in
    c.loop-group.invariant ∙ ap (λ n. reduced 2295 (total c.args.self.now.places c.args.starts.now.places n)) e

pub add-requires : goal.add-requires
add-requires c = let p = c.args.self.now in row_along _ p.places c.at-in-loop-k.result c.row-in-loop-k.ensures p.length p.within c.at-in-loop-k.ensures.within

pub loop-k-preserved : goal.loop-k-preserved
loop-k-preserved c =
    total_next c.loop-k.sums.terms _ _ c.args.self.now.places c.args.starts.now.places c.loop-k.k _ c.at-in-loop-k.ensures.value c.row-in-loop-k.ensures c.add.ensures c.loop-k.invariant

pub returns : goal.returns
returns c =
    let e : c.loop-k.k ≡ c.args.starts.now.count = omega arith in
    c.settled.ensures ∙ c.loop-k.invariant ∙ ap (λ n. reduced 2295 (total c.args.self.now.places c.args.starts.now.places n)) e

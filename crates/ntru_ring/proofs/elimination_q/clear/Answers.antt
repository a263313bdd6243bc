use Rattle.std.proofs.Common.{arith, ap, ◌∙◌, get_or}
use Rattle.std.proofs.lemmas.Grind.{common_steps}
use Rattle.ntru_ring.specs.declared.rows_q.RowQ.{RowQ}
use Rattle.ntru_ring.specs.Ring.{coefficient}
use Rattle.ntru_ring.specs.RowsQ.{parts_q}
use Rattle.ntru_ring.proofs.Eliminating.Elimination.{IsClearing-none, IsClearing-more, combined_settled}
use Rattle.ntru_ring.proofs.Rings.Places.{coefficient-reduced, coefficient_within}
use Rattle.ntru_ring.proofs.Numbers.Centred.{centred_keeps}
use Rattle.ntru_ring.proofs.Vectors.LanesQ.{negated}
use Rattle.ntru_ring.proofs.elimination_q.clear.Goals as goal

pub loop-j-init : goal.loop-j-init
loop-j-init c = IsClearing-none RowQ parts_q 2295 c.args.rows.now c.args.count _ _ _ _ c.of-sums_a.ensures c.of-sums_b.ensures

pub loop-j-preserved : goal.loop-j-preserved
loop-j-preserved c =
    let r = c.index-rows-j.result in
    let e = negated c.at-by.result (coefficient c.loop-j.sums_a.terms r.pivot) c.at-by.ensures.within c.at-by.ensures.value in
    IsClearing-more RowQ parts_q 2295 761 c.args.rows.now c.args.count c.args.a.now.coefficients c.args.b.now.coefficients c.loop-j.sums_a.terms c.loop-j.sums_b.terms
    c.add.new.self.terms c.add-in-loop-j.new.self.terms c.loop-j.j r _ c.requires.echelon (omega arith) c.requires.long c.index-rows-j.is r.one r.trailing
    r.a.length r.b.length c.loop-j.sums_a.length c.loop-j.sums_b.length e c.add.ensures c.add-in-loop-j.ensures c.loop-j.invariant

pub returns-clause-combined : goal.returns-clause-combined
returns-clause-combined c = λ g t m i.
    combined_settled 2295 g t c.loop-j.sums_a.terms c.loop-j.sums_b.terms _ _ c.settled.ensures c.settled-2.ensures (c.loop-j.invariant.combined g t m i)

pub returns-clause-cleared : goal.returns-clause-cleared
returns-clause-cleared c = λ i d l.
    let p = (get_or c.args.rows.now i d).pivot in
    ap (λ t. coefficient t p) c.settled.ensures ∙ coefficient-reduced 2295 c.loop-j.sums_a.terms p ∙ c.loop-j.invariant.cleared i d (omega arith)

pub returns-clause-kept : goal.returns-clause-kept
returns-clause-kept c = λ k l.
    let b = c.args.b.now in
    ap (λ t. coefficient t k) c.settled-2.ensures ∙ coefficient-reduced 2295 c.loop-j.sums_b.terms k ∙ c.loop-j.invariant.kept k l
    ∙ centred_keeps 2295 (coefficient b.coefficients k) (coefficient_within 2295 b.coefficients k b.within)

pub add-requires-clause-after : goal.add-requires-clause-after
add-requires-clause-after c = grind (arith, common_steps)

use Rattle.std.proofs.Common.{arith, refl, sym, ap, ◌∙◌, ◌≡◌, get_or, ℕ}
use Rattle.ntru_ring.specs.declared.rows_three.Row3.{Row3}
use Rattle.ntru_ring.specs.declared.planes_three.Planes3.{Planes3}
use Rattle.ntru_ring.specs.Elements.{element}
use Rattle.ntru_ring.specs.Ring.{coefficient, plus, scale}
use Rattle.ntru_ring.specs.Reduction.{centred, reduced}
use Rattle.ntru_ring.specs.Rows3.{parts_3}
use Rattle.ntru_ring.proofs.Numbers.Centred.{centred_keeps}
use Rattle.ntru_ring.proofs.Rings.Congruence.{reduced-reduced}
use Rattle.ntru_ring.proofs.Vectors.Elements.{length-element, element-within}
use Rattle.ntru_ring.proofs.Eliminating.Elimination.{IsClearing-none, IsClearing-more}
use Rattle.ntru_ring.proofs.Vectors.Lanes3.{negated}
use Rattle.ntru_ring.proofs.Rings.Places.{coefficient_within}
use Rattle.ntru_ring.proofs.elimination_three.clear.Goals as goal

kept : (p : Planes3) (k : ℕ) → centred 1 (coefficient (element p) k) ≡ coefficient (element p) k
kept p k = centred_keeps 1 (coefficient (element p) k) (coefficient_within 1 (element p) k (element-within p))

pub loop-j-init : goal.loop-j-init
loop-j-init c = IsClearing-none Row3 parts_3 1 c.args.rows.now c.args.count _ _ _ _ refl refl

pub loop-j-preserved : goal.loop-j-preserved
loop-j-preserved c =
    let r = c.index-rows-j.result in
    let a = c.loop-j.pair.a in
    let b = c.loop-j.pair.b in
    let e = negated c.at-by.result (coefficient (element a) r.pivot) c.at-by.ensures.within (c.at-by.ensures.value ∙ sym (kept a r.pivot)) in
    IsClearing-more Row3 parts_3 1 761 c.args.rows.now c.args.count (element c.args.a.now) (element c.args.b.now) (element a) (element b)
    (element c.add_multiple.result) (element c.add_multiple-in-loop-j.result) c.loop-j.j r _ c.requires.echelon (omega arith) c.requires.long c.index-rows-j.is r.one r.trailing
    (length-element r.a) (length-element r.b) (length-element a) (length-element b) e
    (ap (reduced 1) c.add_multiple.ensures ∙ reduced-reduced 1 (plus (element a) (scale _ (element r.a))))
    (ap (reduced 1) c.add_multiple-in-loop-j.ensures ∙ reduced-reduced 1 (plus (element b) (scale _ (element r.b)))) c.loop-j.invariant

pub returns-clause-combined : goal.returns-clause-combined
returns-clause-combined c = c.loop-j.invariant.combined

pub returns-clause-cleared : goal.returns-clause-cleared
returns-clause-cleared c = λ i d l.
    let p = (get_or c.args.rows.now i d).pivot in
    sym (kept c.loop-j.pair.a p) ∙ c.loop-j.invariant.cleared i d (omega arith)

pub returns-clause-kept : goal.returns-clause-kept
returns-clause-kept c = λ k l.
    sym (kept c.loop-j.pair.b k) ∙ c.loop-j.invariant.kept k l ∙ kept c.args.b.now k

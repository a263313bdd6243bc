use Rattle.std.proofs.Common.{refl, sym, ap, ◌∙◌}
use Rattle.std.proofs.lemmas.Bool.{and_parts}
use Rattle.std.proofs.lemmas.Bool.Decides.{Decides-eqb}
use Rattle.std.proofs.lemmas.Slice.Eq.{slice_eq-Decides}
use Rattle.ntru_ring.specs.Elements.{element}
use Rattle.ntru_ring.specs.Planes.{element_of}
use Rattle.ntru_ring.specs.Reduction.{reduced}
use Rattle.ntru_ring.specs.Ring.{one_of, times}
use Rattle.ntru_ring.proofs.Eliminating.Inverses.{unit_is}
use Rattle.ntru_inverse.proofs.inverses_three.quick_inverse3.Goals as goal

pub returns-then-eq : goal.returns-then-eq
returns-then-eq c =
    let g = c.args.g.now in
    let p = c.mul.result in
    let q = c.planes_of.result in
    let both = and_parts _ _ (sym c.eq.ensures ∙ c.if-eq.true) in
    let nonzero = (slice_eq-Decides Decides-eqb p.nonzero q.nonzero _ refl).0 both.0 in
    let negative = (slice_eq-Decides Decides-eqb p.negative q.negative _ refl).0 both.1 in
    let same = ap (λ t. element_of t p.negative) nonzero ∙ ap (element_of q.nonzero) negative in
    ap (λ t. reduced 1 (times g.coefficients t)) (sym c.planes_of-planes.ensures) ∙ ap (λ t. reduced 1 (times t (element c.planes_of-planes.result))) (sym c.planes_of-small.ensures)
    ∙ sym c.mul.ensures ∙ same ∙ c.planes_of.ensures ∙ c.monomial.ensures ∙ unit_is 760 ∙ ap one_of (sym g.length)

use Rattle.std.proofs.Common.{sym, ◌∙◌, ◌/◌, ◌%◌, get_or, subst}
use Rattle.ntru_ring.specs.Reduction.{IsWithin}
use Rattle.ntru_ring.specs.Planes.{element_of}
use Rattle.ntru_ring.proofs.Rings.Places.{coefficient_within}
use Rattle.ntru_ring.proofs.Vectors.Planes.{coefficient-element_of, element_within}
use Rattle.ntru_ring.proofs.Vectors.Words.{read_place}
use Rattle.ntru_ring.proofs.planes_three.Planes3.at.Goals as goal

pub returns-clause-value : goal.returns-clause-value
returns-clause-value c =
    let p = c.args.self.now in
    let k = c.args.place in
    read_place (get_or p.nonzero (k / 64) 0) (get_or p.negative (k / 64) 0) (k % 64) (p.inside k) ∙ sym (coefficient-element_of p.nonzero p.negative k c.requires)

pub returns-clause-within : goal.returns-clause-within
returns-clause-within c =
    let p = c.args.self.now in
    let k = c.args.place in
    let e = read_place (get_or p.nonzero (k / 64) 0) (get_or p.negative (k / 64) 0) (k % 64) (p.inside k) ∙ sym (coefficient-element_of p.nonzero p.negative k c.requires) in
    subst (IsWithin 1) (sym e) (coefficient_within 1 (element_of p.nonzero p.negative) k (element_within p.nonzero p.negative p.inside))

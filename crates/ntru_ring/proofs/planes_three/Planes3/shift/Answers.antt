use Rattle.std.proofs.Common.{◌∙◌, get_or, lit<, rules}
use Rattle.ntru_ring.proofs.Vectors.Planes.{IsLawful, inside_word}
use Rattle.ntru_ring.proofs.Numbers.Ranges.{stored}
use Rattle.ntru_ring.proofs.Vectors.Shifts.{moved_inside, shift_is, shift_lawful}
use mir.Syntax.{w16, w64}
use mir.Val.{Fits}
use Rattle.ntru_ring.proofs.planes_three.Planes3.shift.Goals as goal

pub invariant_of-low : goal.invariant_of-low
invariant_of-low c =
    let p = c.args.self.now in
    let f : Fits w64 (get_or c.moved-negative.result 0 0) = search rules in
    record {
      inside = inside_word c.moved-nonzero.result c.moved-negative.result 0 f.fits
          (moved_inside p.nonzero p.negative c.moved-nonzero.result c.moved-negative.result (record { inside = p.inside; end = p.end }) c.moved-nonzero.ensures c.moved-negative.ensures);
    }

pub invariant_of-result : goal.invariant_of-result
invariant_of-result c =
    let p = c.args.self.now in
    let l : IsLawful p.nonzero p.negative = record { inside = p.inside; end = p.end } in
    let s = c.add-first.result in
    let two = c.pair_of.result in
    let e = stored w16 1 c.at.result c.at.ensures.within (lit< tt) ∙ c.at.ensures.value in
    let r = shift_lawful p.nonzero p.negative c.moved-nonzero.result c.moved-negative.result l c.moved-nonzero.ensures c.moved-negative.ensures _ s.nonzero s.negative two.nonzero two.negative e
    c.add-first.ensures c.pair_of.ensures.first c.pair_of.ensures.second c.pair_of.ensures.above s.inside in
    record { inside = r.inside; end = r.end }

pub returns : goal.returns
returns c =
    let p = c.args.self.now in
    let l : IsLawful p.nonzero p.negative = record { inside = p.inside; end = p.end } in
    let s = c.add-first.result in
    let two = c.pair_of.result in
    let e = stored w16 1 c.at.result c.at.ensures.within (lit< tt) ∙ c.at.ensures.value in
    shift_is p.nonzero p.negative c.moved-nonzero.result c.moved-negative.result l c.moved-nonzero.ensures c.moved-negative.ensures _ s.nonzero s.negative two.nonzero two.negative e
    c.add-first.ensures c.pair_of.ensures.first c.pair_of.ensures.second c.pair_of.ensures.above

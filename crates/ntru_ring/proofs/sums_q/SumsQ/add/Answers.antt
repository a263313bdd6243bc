use Rattle.std.proofs.Common.{refl, ◌+◌, ◌*◌, ap, ◌∙◌, sym, arith, lit≤, All, subst, length}
use Rattle.ntru_ring.specs.Ring.{plus, scale}
use Rattle.ntru_ring.specs.Reduction.{reduced, IsWithin}
use Rattle.ntru_ring.proofs.Rings.Congruence.{reduced-plus}
use Rattle.ntru_ring.proofs.Rings.Sums.{added_within, added_length}
use Rattle.ntru_ring.proofs.Vectors.LanesQ.{factor}
use Rattle.ntru_ring.proofs.sums_q.SumsQ.add.Goals as goal

pub invariant_of-self : goal.invariant_of-self
invariant_of-self c =
    let s = c.make_room.new.self in
    let r = c.args.row.now in
    let f = factor c.from.result c.args.by c.requires.by_within c.from.ensures in
    let e = c.add_multiple.ensures ∙ ap (λ t. plus s.terms (scale t r.coefficients)) f in
    record {
      length = ap length e ∙ added_length 761 s.terms r.coefficients c.args.by s.length r.length;
      few = omega (arith, c.make_room.ensures.room);
      within = subst (All (IsWithin (2295 + (s.count + 1) * 5267025))) (sym e) (added_within 2295 5267025 s.count s.terms r.coefficients c.args.by (lit≤ tt) c.requires.by_within s.within r.within);
    }

pub returns : goal.returns
returns c =
    let s = c.make_room.new.self in
    let r = c.args.row.now in
    let f = factor c.from.result c.args.by c.requires.by_within c.from.ensures in
    ap (reduced 2295) (c.add_multiple.ensures ∙ ap (λ t. plus s.terms (scale t r.coefficients)) f)
    ∙ reduced-plus 2295 s.terms c.args.self.now.terms (scale c.args.by r.coefficients) (scale c.args.by r.coefficients) c.make_room.ensures.same refl

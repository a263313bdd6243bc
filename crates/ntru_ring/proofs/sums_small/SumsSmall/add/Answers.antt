use Rattle.std.proofs.Common.{refl, ◌+◌, ◌*◌, ap, ◌∙◌, sym, arith, All, subst, length}
use Rattle.ntru_ring.specs.Ring.{plus}
use Rattle.ntru_ring.specs.Reduction.{reduced, IsWithin}
use Rattle.ntru_ring.proofs.Rings.Algebra.{length-plus}
use Rattle.ntru_ring.proofs.Rings.Congruence.{reduced-plus}
use Rattle.ntru_ring.proofs.Rings.Bound.{All-wider, plus_within}
use Rattle.ntru_ring.proofs.sums_small.SumsSmall.add.Goals as goal

pub add_row-requires-clause-room : goal.add_row-requires-clause-room
add_row-requires-clause-room c = let s = c.make_room.new.self in All-wider (s.count * 2295) 29835 (omega (arith, c.make_room.ensures.room)) s.terms s.within

pub invariant_of-self : goal.invariant_of-self
invariant_of-self c =
    let s = c.make_room.new.self in
    let r = c.args.row.now in
    record {
      length = ap length c.add_row.ensures ∙ length-plus s.terms r (s.length ∙ sym c.requires.length) ∙ c.requires.length;
      few = omega (arith, c.make_room.ensures.room);
      within = subst (All (IsWithin ((s.count + 1) * 2295))) (sym c.add_row.ensures)
          (All-wider (s.count * 2295 + 2295) ((s.count + 1) * 2295) (omega arith) (plus s.terms r) (plus_within (s.count * 2295) 2295 s.terms r s.within c.requires.within));
    }

pub returns : goal.returns
returns c =
    let r = c.args.row.now in
    ap (reduced 2295) c.add_row.ensures ∙ reduced-plus 2295 c.make_room.new.self.terms c.args.self.now.terms r r c.make_room.ensures.same refl

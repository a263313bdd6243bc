use Rattle.std.proofs.Common.{refl, ◌≡◌, ◌+◌, ◌*◌, ap, ◌∙◌, sym, arith, All, subst, length}
use Rattle.ntru_ring.specs.Ring.{plus}
use Rattle.ntru_ring.specs.Reduction.{reduced, IsWithin}
use Rattle.ntru_ring.proofs.Rings.Algebra.{length-plus}
use Rattle.ntru_ring.proofs.Rings.Congruence.{reduced-plus}
use Rattle.ntru_ring.proofs.Rings.Bound.{All-wider, plus_within}
use Rattle.ntru_ring.proofs.sums_small.SumsSmall.add_four.Goals as goal

pub add_rows-requires-clause-room : goal.add_rows-requires-clause-room
add_rows-requires-clause-room c = let s = c.make_room.new.self in All-wider (s.count * 2295) 22950 (omega (arith, c.make_room.ensures.room)) s.terms s.within

pub invariant_of-self : goal.invariant_of-self
invariant_of-self c =
    let s = c.make_room.new.self in
    let q = c.requires in
    let a = plus c.args.one.now c.args.two.now in
    let b = plus c.args.three.now c.args.four.now in
    let l = length-plus c.args.one.now c.args.two.now (q.one.length ∙ sym q.two.length) ∙ q.two.length in
    let m = length-plus c.args.three.now c.args.four.now (q.three.length ∙ sym q.four.length) ∙ q.four.length in
    let n : length (plus a b) ≡ 761 = length-plus a b (l ∙ sym m) ∙ m in
    let w = plus_within 4590 4590 a b (plus_within 2295 2295 c.args.one.now c.args.two.now q.one.within q.two.within) (plus_within 2295 2295 c.args.three.now c.args.four.now q.three.within q.four.within) in
    record {
      length = ap length c.add_rows.ensures ∙ length-plus s.terms (plus a b) (s.length ∙ sym n) ∙ n;
      few = omega (arith, c.make_room.ensures.room);
      within = subst (All (IsWithin ((s.count + 4) * 2295))) (sym c.add_rows.ensures)
          (All-wider (s.count * 2295 + 9180) ((s.count + 4) * 2295) (omega arith) (plus s.terms (plus a b)) (plus_within (s.count * 2295) 9180 s.terms (plus a b) s.within w));
    }

pub returns : goal.returns
returns c = ap (reduced 2295) c.add_rows.ensures ∙ reduced-plus 2295 c.make_room.new.self.terms c.args.self.now.terms _ _ c.make_room.ensures.same refl

use Rattle.std.proofs.Common.{◌∙◌, ◌+◌, ◌*◌, arith}
use Rattle.ntru_ring.specs.Ring.{shift}
use Rattle.ntru_ring.proofs.Rings.Algebra.{length-shift}
use Rattle.ntru_ring.proofs.Rings.Bound.{All-wider}
use Rattle.ntru_ring.proofs.Rings.Congruence.{shift_same}
use Rattle.ntru_ring.proofs.Rings.Sums.{length_same}
use Rattle.ntru_ring.proofs.sums_q.SumsQ.shift.Goals as goal

pub invariant_of-self : goal.invariant_of-self
invariant_of-self c =
    let s = c.make_room.new.self in
    let b = 2295 + s.count * 5267025 in
    record {
      length = length_same 2295 761 c.shifted-self.result (shift s.terms) c.shifted-self.ensures.value (length-shift s.terms ∙ s.length);
      few = omega (arith, c.make_room.ensures.room);
      within = All-wider (b + 2295) (2295 + (s.count + 1) * 5267025) (omega arith) c.shifted-self.result (c.shifted-self.ensures.bound b s.within);
    }

pub returns : goal.returns
returns c = c.shifted-self.ensures.value ∙ shift_same 2295 c.make_room.new.self.terms c.args.self.now.terms c.make_room.ensures.same

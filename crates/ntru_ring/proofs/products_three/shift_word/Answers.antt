use Rattle.std.proofs.Common.{◌∙◌}
use Rattle.ntru_ring.proofs.Vectors.Rounds.{moved_lawful, round_lawful, shifted_word}
use Rattle.ntru_ring.proofs.products_three.shift_word.Goals as goal

pub invariant_of-moved : goal.invariant_of-moved
invariant_of-moved c =
    let p = c.args.a.now in
    let m = c.moved_word in
    let x = c.moved_word-2 in
    let t = c.come_round in
    let y = c.come_round-2 in
    let r = moved_lawful p.nonzero p.negative m.result x.result t.result y.result (record { inside = p.inside; end = p.end }) m.ensures.low x.ensures.low m.ensures.rest x.ensures.rest m.ensures.end x.ensures.end
    t.ensures.low y.ensures.low t.ensures.rest y.ensures.rest in
    record { inside = r.inside; end = r.end }

pub invariant_of-round : goal.invariant_of-round
invariant_of-round c =
    let p = c.args.a.now in
    let m = c.moved_word in
    let x = c.moved_word-2 in
    let t = c.come_round in
    let y = c.come_round-2 in
    let r = round_lawful p.nonzero p.negative m.result x.result t.result y.result (record { inside = p.inside; end = p.end }) m.ensures.low x.ensures.low m.ensures.rest x.ensures.rest m.ensures.end x.ensures.end
    t.ensures.low y.ensures.low t.ensures.rest y.ensures.rest in
    record { inside = r.inside; end = r.end }

pub returns : goal.returns
returns c =
    let p = c.args.a.now in
    let m = c.moved_word in
    let x = c.moved_word-2 in
    let t = c.come_round in
    let y = c.come_round-2 in
    c.add-2.ensures
    ∙ shifted_word p.nonzero p.negative m.result x.result t.result y.result (record { inside = p.inside; end = p.end }) m.ensures.low x.ensures.low m.ensures.rest x.ensures.rest m.ensures.end x.ensures.end
    t.ensures.low y.ensures.low t.ensures.rest y.ensures.rest _ _ c.shift.ensures c.add.ensures

use Rattle.std.proofs.Common.{arith}
use Rattle.book.proofs.Fanning.Steps.{next_rows, still_says, still_there}
use Rattle.book.proofs.shelf.Shelf.accept_fan.Goals as goal

pub accept_at-requires-clause-there : goal.accept_at-requires-clause-there
accept_at-requires-clause-there g c =
    still_there g.K.Kem.mechanism c.args.self.now c.args.list.now c.args.text.now c.args.seeds.now.items c.requires c.list.i
    (omega (arith, c.list-test.true, c.len-i-end.ensures)) c.list.self c.list.invariant c.place.result c.place.ensures c.seed_at.result
    c.seed_at.ensures

pub accept_at-requires-clause-says : goal.accept_at-requires-clause-says
accept_at-requires-clause-says g c =
    still_says g.K.Kem.mechanism c.args.self.now c.args.list.now c.args.text.now c.args.seeds.now.items c.requires c.list.i
    (omega (arith, c.list-test.true, c.len-i-end.ensures)) c.list.self c.list.invariant c.place.result c.place.ensures c.seed_at.result
    c.seed_at.ensures

pub list-preserved : goal.list-preserved
list-preserved g c =
    next_rows g.K.Kem.mechanism c.args.self.now c.args.list.now c.args.text.now c.args.seeds.now.items c.requires c.list.i
    (omega (arith, c.list-test.true, c.len-i-end.ensures)) c.list.self c.list.invariant c.place.result c.place.ensures c.seed_at.result
    c.seed_at.ensures
    c.accept_at.new.self c.accept_at.ensures

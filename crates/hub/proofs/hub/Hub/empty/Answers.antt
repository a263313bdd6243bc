use Rattle.std.proofs.Common.{arith}
use Rattle.dr_disk.specs.MemoryDisks.{state_of}
use Rattle.hub.proofs.Blank.{holds_none, none}
use Rattle.hub.proofs.hub.Hub.empty.Goals as goal

pub opened-requires-clause-holds : goal.opened-requires-clause-holds
opened-requires-clause-holds g c = (
  none c.args.peers,
  holds_none c.resting_books.ensures g.K.Kem.mechanism c.args.peers _ (state_of c.in-Ok.disk) (omega (arith, c.requires))
      c.in-Ok.ensures
      (c.zeros_are_at_rest.ensures.at_rest c.args.peers _ (omega (arith, c.requires)) (omega arith)),
)

pub returns-in-Ok-opened-clause-rows : goal.returns-in-Ok-opened-clause-rows
returns-in-Ok-opened-clause-rows g c =
    c.in-Ok-opened.ensures.rows (none c.args.peers)
    (holds_none c.resting_books.ensures g.K.Kem.mechanism c.args.peers _ (state_of c.in-Ok.disk) (omega (arith, c.requires))
    c.in-Ok.ensures
    (c.zeros_are_at_rest.ensures.at_rest c.args.peers _ (omega (arith, c.requires)) (omega arith)))

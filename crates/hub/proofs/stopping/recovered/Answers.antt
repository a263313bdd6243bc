use Rattle.hub.proofs.Crashed.{holds_left, still_within}
use Rattle.hub.proofs.stopping.recovered.Goals as goal

pub opened-requires-clause-within : goal.opened-requires-clause-within
opened-requires-clause-within g c =
    still_within c.args.mode c.args.disk c.crash-disk.result c.crash-disk.ensures.left c.args.peers c.requires.within

pub opened-requires-clause-holds : goal.opened-requires-clause-holds
opened-requires-clause-holds g c = (
  c.requires.leaves.0,
  holds_left c.args.mode c.args.disk c.crash-disk.result c.crash-disk.ensures.left g.K.Kem.mechanism c.args.peers
      c.requires.leaves.0 c.requires.leaves.1,
)

pub returns-in-Ok-clause-rows : goal.returns-in-Ok-clause-rows
returns-in-Ok-clause-rows g c = λ sessions leaves.
    c.in-Ok.ensures.rows sessions
    (holds_left c.args.mode c.args.disk c.crash-disk.result c.crash-disk.ensures.left g.K.Kem.mechanism c.args.peers sessions leaves)

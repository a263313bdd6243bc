use Rattle.std.proofs.Common.{◌≡◌}
use Rattle.book.specs.Fans.{AreListed}
use Rattle.hub.specs.Peers.{places}
use Rattle.hub.proofs.everyone.everyone.Given as goal

abbrev pub invariant-peers : goal.invariant-peers
invariant-peers g l = (l.list ≡ places l.at) × AreListed l.book.rows l.list

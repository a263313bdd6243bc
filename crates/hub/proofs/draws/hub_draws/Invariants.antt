use Rattle.std.proofs.Common.{◌≡◌}
use Rattle.hub.specs.Peers.{peer_seeds}
use Rattle.hub.proofs.draws.hub_draws.Given as goal

abbrev pub invariant-seeds : goal.invariant-seeds
invariant-seeds l = l.seeds.items ≡ peer_seeds l.number

use Rattle.client.specs.Clients.{ClientNow}
use Rattle.relay_pipe.specs.Asking.{LeavesLink}
use Rattle.client.specs.Syncing.InOrder.{InOrder, spot}
use Rattle.client.specs.Syncing.Parties.{party_at}
use Rattle.client.specs.Syncing.Rounds.{repeats_left}
use Rattle.std.proofs.Common.{List, ℕ, ◌≡◌}
use Rattle.sync_model.specs.Moves.{acking}
use Rattle.client.proofs.client.Client.acknowledge_through.Given as goal

abbrev pub invariant-again : goal.invariant-again
invariant-again g l = record {
  along : (prefix : List ℕ) (n : ℕ) (first : ClientNow) (before disk : _) (earlier : _) (empty out : _)
      → InOrder g.D.Disk.state g.L.Pipe.port g.O.Sink.at (party_at g.K.Kem.mechanism prefix l.boxes)
      (spot first before earlier empty) (spot l.fn.self disk l.fn.link out) (acking n l.number) l.fn.tokens
      → InOrder g.D.Disk.state g.L.Pipe.port g.O.Sink.at (party_at g.K.Kem.mechanism prefix l.boxes)
      (spot first before earlier empty) (spot l.self disk l.link out) (acking n l.number) l.tokens;
  same : l.self ≡ l.fn.self;
  link : LeavesLink g.L.Pipe.port g.L.Pipe.behind l.fn.link l.link;
}

abbrev pub decreases-again : goal.decreases-again
decreases-again g l = repeats_left l.tokens

use Rattle.client.specs.Clients.{ClientNow, IsOpenOn}
use Rattle.relay_pipe.specs.Asking.{LeavesLink}
use Rattle.client.specs.Syncing.InOrder.{InOrder, spot}
use Rattle.client.specs.Syncing.Parties.{party_at}
use Rattle.client.specs.Syncing.Rounds.{repeats_left}
use Rattle.std.proofs.Common.{ℕ, ◌≤◌}
use Rattle.sync_model.specs.Moves.{fetching}
use Rattle.client.proofs.client.Client.fetch_through.Given as goal

abbrev pub invariant-again : goal.invariant-again
invariant-again g l = record {
  along : (n : ℕ) (first : ClientNow) (before : _) (earlier : _) (empty : _)
      → InOrder g.D.Disk.state g.L.Pipe.port g.O.Sink.at (party_at g.K.Kem.mechanism l.prefix l.boxes)
      (spot first before earlier empty) (spot l.fn.self l.fn.disk l.fn.link l.fn.out) (fetching n) l.fn.tokens
      → InOrder g.D.Disk.state g.L.Pipe.port g.O.Sink.at (party_at g.K.Kem.mechanism l.prefix l.boxes)
      (spot first before earlier empty) (spot l.self l.disk l.link l.out) (fetching n) l.tokens;
  ready : IsOpenOn l.self (g.D.Disk.state l.disk);
  later : (g.O.Sink.at l.fn.out).faults ≤ (g.O.Sink.at l.out).faults;
  link : LeavesLink g.L.Pipe.port g.L.Pipe.behind l.fn.link l.link;
}

abbrev pub decreases-again : goal.decreases-again
decreases-again g l = repeats_left l.tokens

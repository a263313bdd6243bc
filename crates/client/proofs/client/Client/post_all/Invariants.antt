use Rattle.client.specs.Clients.{ClientNow, IsOpenOn}
use Rattle.relay_pipe.specs.Asking.{LeavesLink}
use Rattle.client.specs.Syncing.InOrder.{InOrder, spot}
use Rattle.client.specs.Syncing.Parties.{party_at, waiting}
use Rattle.client.specs.Syncing.Rounds.{repeats_left}
use Rattle.std.proofs.Common.{length, ◌+◌, ◌*◌, ◌≤◌}
use Rattle.sync_model.specs.Moves.{waits_by}
use Rattle.sync_model.specs.declared.more.More.{More}
use Rattle.client.proofs.client.Client.post_all.Given as goal

abbrev pub invariant-packets : goal.invariant-packets
invariant-packets g l = record {
  along : (which : More) (first : ClientNow) (before : _) (earlier : _) (empty : _)
      → InOrder g.D.Disk.state g.L.Pipe.port g.O.Sink.at (party_at g.K.Kem.mechanism l.prefix l.boxes)
      (spot first before earlier empty) (spot l.fn.self l.fn.disk l.fn.link l.fn.out) (waits_by (waiting l.fn.self.kept) which) l.fn.tokens
      → InOrder g.D.Disk.state g.L.Pipe.port g.O.Sink.at (party_at g.K.Kem.mechanism l.prefix l.boxes)
      (spot first before earlier empty) (spot l.self l.disk l.link l.out) (waits_by (waiting l.self.kept) which) l.tokens;
  ready : IsOpenOn l.self (g.D.Disk.state l.disk);
  later : (g.O.Sink.at l.fn.out).faults ≤ (g.O.Sink.at l.out).faults;
  link : LeavesLink g.L.Pipe.port g.L.Pipe.behind l.fn.link l.link;
}

abbrev pub decreases-packets : goal.decreases-packets
decreases-packets g l = 2 * length l.self.kept.outbox + repeats_left l.tokens

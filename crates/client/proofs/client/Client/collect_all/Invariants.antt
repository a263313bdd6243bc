use Rattle.relay_pipe.specs.Asking.{LeavesLink}
use Rattle.client.specs.Syncing.InOrder.{InOrder, spot}
use Rattle.client.specs.Syncing.Parties.{party_at, waiting}
use Rattle.client.specs.Syncing.SoFar.{collecting}
use Rattle.std.proofs.Common.{◌-◌, ◌≤◌}
use Rattle.sync_model.specs.declared.limits.TheConstants.{ITEM_LIMIT}
use Rattle.client.proofs.client.Client.collect_all.Given as goal

abbrev pub invariant-items : goal.invariant-items
invariant-items g l = record {
  along : InOrder g.D.Disk.state g.L.Pipe.port g.O.Sink.at (party_at g.K.Kem.mechanism l.prefix l.boxes)
      (spot l.fn.self l.fn.disk l.fn.link l.fn.out) (spot l.self l.disk l.link l.out) (collecting (waiting l.self.kept) l.count) l.tokens;
  within : l.count ≤ ITEM_LIMIT;
  later : (g.O.Sink.at l.fn.out).faults ≤ (g.O.Sink.at l.out).faults;
  link : LeavesLink g.L.Pipe.port g.L.Pipe.behind l.fn.link l.link;
}

abbrev pub decreases-items : goal.decreases-items
decreases-items g l = ITEM_LIMIT - l.count

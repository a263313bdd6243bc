use Rattle.std.proofs.Common.{◌≡◌, take}
use Rattle.std.specs.Prelude.{flat_map}
use Rattle.dr_ports.specs.Ports.{appended}
use Rattle.duet.specs.Replies.{entry_line}
use Rattle.duet.proofs.telling.write_inbox.Given as goal

abbrev pub invariant-texts : goal.invariant-texts
invariant-texts g l = record {
  written : (g.O.Sink.at l.out).taken ≡ appended (g.O.Sink.at l.fn.out).taken (flat_map (entry_line l.fn.side) (take l.at l.party.kept.inbox));
  quiet : (g.O.Sink.at l.out).faults ≡ (g.O.Sink.at l.fn.out).faults;
}

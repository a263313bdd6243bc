use Rattle.std.proofs.Common.{◌≡◌, take}
use Rattle.std.specs.Prelude.{flat_map}
use Rattle.dr_ports.specs.Ports.{appended}
use Rattle.duet.specs.Replies.{waiting_line}
use Rattle.duet.proofs.telling.write_awaiting.Given as goal

abbrev pub invariant-texts : goal.invariant-texts
invariant-texts g l = record {
  written : (g.O.Sink.at l.out).taken ≡ appended (g.O.Sink.at l.fn.out).taken (flat_map (waiting_line l.fn.side) (take l.at l.party.kept.state.awaiting));
  quiet : (g.O.Sink.at l.out).faults ≡ (g.O.Sink.at l.fn.out).faults;
}

use Rattle.std.proofs.Common.{[], take, ◌≡◌}
use Rattle.std.specs.Prelude.{flat_map}
use Rattle.dr_ports.specs.Ports.{appended}
use Rattle.answer_lines.specs.Texts.{content_line}
use Rattle.command_lines.proofs.showing.write_inbox.Given as goal

abbrev pub invariant-texts : goal.invariant-texts
invariant-texts g l = record {
  written : (g.O.Sink.at l.out).taken ≡ appended (g.O.Sink.at l.fn.out).taken (flat_map (content_line []) (take l.at l.core.inbox));
  quiet : (g.O.Sink.at l.out).faults ≡ (g.O.Sink.at l.fn.out).faults;
}

use Rattle.std.proofs.Common.{take, ◌≡◌}
use Rattle.std.specs.Prelude.{flat_map}
use Rattle.dr_ports.specs.Ports.{appended}
use Rattle.command_lines.specs.Lines.{packet_line}
use Rattle.command_lines.proofs.showing.write_outbox.Given as goal

abbrev pub invariant-packets : goal.invariant-packets
invariant-packets g l = record {
  written : (g.O.Sink.at l.out).taken ≡ appended (g.O.Sink.at l.fn.out).taken (flat_map packet_line (take l.at l.core.outbox));
  quiet : (g.O.Sink.at l.out).faults ≡ (g.O.Sink.at l.fn.out).faults;
}

use Rattle.std.proofs.Common.{◌≡◌}
use Rattle.dr_ports.specs.Ports.{appended}
use Rattle.book_commands.proofs.FanWritten.{lines}
use Rattle.book_commands.proofs.fan_lines.write_all_said.Given as goal

-- the lines of the names so far were written
abbrev pub invariant-names : goal.invariant-names
invariant-names g l = record {
  written : (g.O.Sink.at l.out).taken ≡ appended (g.O.Sink.at l.fn.out).taken (lines l.book.rows l.names l.list l.i);
  quiet : (g.O.Sink.at l.out).faults ≡ (g.O.Sink.at l.fn.out).faults;
}

use Rattle.std.proofs.Common.{take, ◌≡◌}
use Rattle.std.specs.Prelude.{flat_map}
use Rattle.dr_ports.specs.Ports.{appended}
use Rattle.book_commands.specs.Listing.{row_line}
use Rattle.book_commands.proofs.listing.write_names.Given as goal

abbrev pub invariant-rows : goal.invariant-rows
invariant-rows g l = record {
  written : (g.O.Sink.at l.out).taken ≡ appended (g.O.Sink.at l.fn.out).taken (flat_map row_line (take l.row l.book.rows));
  quiet : (g.O.Sink.at l.out).faults ≡ (g.O.Sink.at l.fn.out).faults;
}

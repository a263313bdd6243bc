-- the rows so far are held, each with its reader
use Rattle.std.proofs.Common.{◌*◌, ◌≤◌, Ok, vec_capacity}
use Rattle.pages.specs.Runs.{ReadsAlone}
use Rattle.book_store.specs.RowsReading.{AreRowsHeld}
use Rattle.book_store.specs.declared.layout.TheConstants.{BOOK_ROWS, ROW_MOST}
use Rattle.book_store.proofs.taking.read_rows.Given as goal

abbrev pub invariant-rows : goal.invariant-rows
invariant-rows g l = record {
  held : AreRowsHeld g.G.Grammar.fault_at g.G.Grammar.has_read l.row l.body l.rows.items l.readers.items (g.D.Disk.state l.fn.disk);
  looks : ReadsAlone {T = Unit {0}} (ROW_MOST * l.row) (g.D.Disk.state l.fn.disk) (g.D.Disk.state l.disk) (Ok tt);
  room : BOOK_ROWS ≤ vec_capacity l.rows;
  readers_room : BOOK_ROWS ≤ vec_capacity l.readers;
}

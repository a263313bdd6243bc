use Rattle.std.proofs.Common.{List, ℕ, sym, ◌∙◌, ap, subst, arith}
use Rattle.std.specs.Prelude.{slice_index}
use Rattle.pages.proofs.Looking.{looks_as, looks_failed, looks_twice}
use Rattle.book_store.proofs.Openings.RowsTaken.{row_within, rows_more, rows_refused}
use Rattle.book_store.specs.Marks.{IsLaidRow}
use Rattle.book_store.specs.RowReading.{IsRowAdded, IsRowRead, IsRowRefused}
use Rattle.book_store.specs.Rows.{row_in}
use Rattle.book_store.specs.declared.layout.TheConstants.{ROW_MOST}
use Rattle.book_store.proofs.taking.read_rows.Goals as goal

pub read_row-requires-clause-within : goal.read_row-requires-clause-within
read_row-requires-clause-within g c = λ other.
    row_within c.args.body.now (g.D.Disk.state c.args.disk.now) (g.D.Disk.state c.rows.disk) c.requires.laid
    c.rows.invariant.looks.during.size c.rows.row (omega (arith, c.rows-test.true))
    (λ zeroed. other (ap (λ (l : List ℕ). slice_index l 0) c.row_of.ensures.value ∙ zeroed))

pub read_row-requires-clause-laid : goal.read_row-requires-clause-laid
read_row-requires-clause-laid g c = subst IsLaidRow (sym c.row_of.ensures.value)
    (c.requires.laid.laid c.rows.row (omega (arith, c.rows-test.true)))

pub rows-preserved : goal.rows-preserved
rows-preserved g c =
    let start = g.D.Disk.state c.args.disk.now in
    let mid = g.D.Disk.state c.rows.disk in
    let now = g.D.Disk.state c.read_row.new.disk in
    let read = c.in-Ok-None.ensures.read in
    let added : IsRowAdded g.G.Grammar.fault_at g.G.Grammar.has_read c.rows.row (row_in c.args.body.now c.rows.row)
    c.rows.rows.items c.read_row.new.rows.items c.rows.readers.items c.read_row.new.readers.items mid =
    subst (λ l. IsRowAdded g.G.Grammar.fault_at g.G.Grammar.has_read c.rows.row l
    c.rows.rows.items c.read_row.new.rows.items c.rows.readers.items c.read_row.new.readers.items mid) c.row_of.ensures.value
    (subst (IsRowRead g.G.Grammar.fault_at g.G.Grammar.has_read c.rows.row c.row_of.result.now
    c.rows.rows.items c.read_row.new.rows.items c.rows.readers.items c.read_row.new.readers.items mid) c.in-Ok-None.field-0-is read.found) in
    record {
      held = rows_more g.G.Grammar.fault_at g.G.Grammar.has_read c.rows.row c.args.body.now
          c.rows.rows.items c.read_row.new.rows.items c.rows.readers.items c.read_row.new.readers.items start mid
          c.rows.invariant.held c.rows.invariant.looks.untouched.unwritten.seen added;
      looks = looks_twice {more = ROW_MOST} tt start mid now _ (omega arith) c.rows.invariant.looks (looks_as tt _ mid now (omega arith) read.looks);
      room = omega (arith, c.rows.invariant.room, c.in-Ok-None.ensures.room);
      readers_room = omega (arith, c.rows.invariant.readers_room, c.in-Ok-None.ensures.readers);
    }

pub returns-in-Ok-Some : goal.returns-in-Ok-Some
returns-in-Ok-Some g c =
    let start = g.D.Disk.state c.args.disk.now in
    let mid = g.D.Disk.state c.rows.disk in
    let now = g.D.Disk.state c.read_row.new.disk in
    let read = c.in-Ok-Some.ensures.read in
    let refused : IsRowRefused g.G.Grammar.fault_at c.rows.row (row_in c.args.body.now c.rows.row) c.in-Ok-Some.error mid =
    subst (λ l. IsRowRefused g.G.Grammar.fault_at c.rows.row l c.in-Ok-Some.error mid) c.row_of.ensures.value
    (subst (IsRowRead g.G.Grammar.fault_at g.G.Grammar.has_read c.rows.row c.row_of.result.now
    c.rows.rows.items c.read_row.new.rows.items c.rows.readers.items c.read_row.new.readers.items mid) c.in-Ok-Some.field-0-is read.found) in
    record {
      read = record {
        found = rows_refused g.G.Grammar.fault_at g.G.Grammar.has_read c.rows.row c.args.body.now c.rows.rows.items c.rows.readers.items
            start mid c.rows.invariant.held (omega (arith, c.rows-test.true)) c.requires.laid.laid
            c.rows.invariant.looks.untouched.unwritten.seen c.in-Ok-Some.error refused;
        looks = looks_twice {more = ROW_MOST} tt start mid now _ (omega (arith, c.rows-test.true)) c.rows.invariant.looks (looks_as _ _ mid now (omega arith) read.looks);
      };
    }

pub returns-in-Err : goal.returns-in-Err
returns-in-Err g c =
    let start = g.D.Disk.state c.args.disk.now in
    let mid = g.D.Disk.state c.rows.disk in
    let now = g.D.Disk.state c.read_row.new.disk in
    record {
      read = record {
        found = tt;
        looks = looks_twice {more = ROW_MOST} tt start mid now _ (omega (arith, c.rows-test.true)) c.rows.invariant.looks
            (looks_failed _ mid now (omega arith) c.in-Err.ensures.read.looks);
      };
    }

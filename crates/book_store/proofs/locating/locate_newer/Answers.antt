use Rattle.std.proofs.Common.{sym, ◌∙◌, subst, arith}
use Rattle.dr_base.proofs.Bytes.{are_bytes}
use Rattle.pages.specs.Tables.{open_table}
use Rattle.pages.proofs.Looking.{looks_as, looks_failed, looks_none}
use Rattle.pages.proofs.Newest.{open_high, open_low}
use Rattle.book_store.proofs.Openings.Causes.{laid_rows, no_refusal, rows_cause, table_cause}
use Rattle.book_store.proofs.Sayings.LaidTables.{laid_table}
use Rattle.book_store.proofs.Openings.StoreRead.{rows_hold}
use Rattle.book_store.specs.Judging.{book_fault}
use Rattle.book_store.specs.Locating.{IsLocated}
use Rattle.book_store.specs.RowsReading.{AreRowsHeld, AreRowsRead, AreRowsRefused}
use Rattle.book_store.specs.declared.layout.TheConstants.{BOOK_ROWS}
use Rattle.book_store.proofs.locating.locate_newer.Goals as goal

pub returns-in-Ok-Some : goal.returns-in-Ok-Some
returns-in-Ok-Some g c = record {
  found = table_cause g.G.Grammar.fault_at c.args.count c.args.second c.args.body.now (g.D.Disk.state c.args.disk.now) c.requires.counts
      c.in-Ok-Some.error (sym c.in-Ok-Some.ensures ∙ c.in-Ok-Some.field-0-is);
  looks = looks_none _ _;
}

pub returns-in-Err : goal.returns-in-Err
returns-in-Err g c = record {
  found = subst (IsLocated g.G.Grammar.fault_at g.G.Grammar.has_read c.args.count c.args.readers.now.items
      (g.D.Disk.state c.args.disk.now)) (sym c.no_memory.ensures) tt;
  looks = looks_none _ _;
}

pub take_memory-requires-clause-turn : goal.take_memory-requires-clause-turn
take_memory-requires-clause-turn g c = open_high (open_table c.args.body.now) c.requires.opened

pub returns-in_default : goal.returns-in_default
returns-in_default g c = record {
  found = subst (IsLocated g.G.Grammar.fault_at g.G.Grammar.has_read c.args.count c.args.readers.now.items
      (g.D.Disk.state c.args.disk.now)) (sym c.no_memory-in_default.ensures) tt;
  looks = looks_none _ _;
}

pub read_rows-requires-clause-laid : goal.read_rows-requires-clause-laid
read_rows-requires-clause-laid g c =
    laid_rows c.args.count c.args.body.now (g.D.Disk.state c.args.disk.now) c.requires.wide
    (are_bytes c.args.body.now (λ i. omega (arith, c.type_inv.body i)))
    (no_refusal c.args.second (book_fault c.args.count c.args.body.now) (sym c.in-Ok-None.ensures ∙ c.in-Ok-None.field-0-is))
    c.requires.within

pub returns-in-Ok-None-read_rows : goal.returns-in-Ok-None-read_rows
returns-in-Ok-None-read_rows g c =
    let fault_at = g.G.Grammar.fault_at in
    let has_read = g.G.Grammar.has_read in
    let body = c.args.body.now in
    let start = g.D.Disk.state c.args.disk.now in
    let none = no_refusal c.args.second (book_fault c.args.count c.args.body.now) (sym c.in-Ok-None.ensures ∙ c.in-Ok-None.field-0-is) in
    let read = c.in-Ok-None-read_rows.ensures.read in
    let are : AreRowsHeld g.G.Grammar.fault_at g.G.Grammar.has_read BOOK_ROWS c.args.body.now c.read_rows.new.rows.items
    c.read_rows.new.readers.items (g.D.Disk.state c.args.disk.now) =
    subst (AreRowsRead g.G.Grammar.fault_at g.G.Grammar.has_read c.args.body.now c.read_rows.new.rows.items
    c.read_rows.new.readers.items (g.D.Disk.state c.args.disk.now)) c.in-Ok-None-read_rows.field-0-is read.found in
    record {
      found = rows_hold fault_at has_read c.args.count body c.read_rows.new.rows.items c.read_rows.new.readers.items c.in-Ok.desk start
          (laid_table c.args.count body c.requires.wide (are_bytes c.args.body.now (λ i. omega (arith, c.type_inv.body i))) none)
          (open_low (open_table c.args.body.now) c.requires.opened) are c.in-Ok.ensures.rows c.in-Ok.ensures.turn c.in-Ok.ensures.body
          c.args.second c.in-Ok.ensures.second c.requires.counts;
      looks = looks_as _ _ _ _ (omega arith) read.looks;
    }

pub returns-in-Ok-Some-read_rows : goal.returns-in-Ok-Some-read_rows
returns-in-Ok-Some-read_rows g c =
    let read = c.in-Ok-Some-read_rows.ensures.read in
    let refused : AreRowsRefused g.G.Grammar.fault_at c.args.body.now c.in-Ok-Some-read_rows.error (g.D.Disk.state c.args.disk.now) =
    subst (AreRowsRead g.G.Grammar.fault_at g.G.Grammar.has_read c.args.body.now c.read_rows.new.rows.items
    c.read_rows.new.readers.items (g.D.Disk.state c.args.disk.now)) c.in-Ok-Some-read_rows.field-0-is read.found in
    record {
      found = rows_cause g.G.Grammar.fault_at c.args.count c.args.second c.args.body.now (g.D.Disk.state c.args.disk.now) c.requires.counts
          (no_refusal c.args.second (book_fault c.args.count c.args.body.now) (sym c.in-Ok-None.ensures ∙ c.in-Ok-None.field-0-is))
          c.in-Ok-Some-read_rows.error refused;
      looks = looks_as _ _ _ _ (omega arith) read.looks;
    }

pub returns-in-Err-read_rows : goal.returns-in-Err-read_rows
returns-in-Err-read_rows g c = record { found = tt; looks = looks_failed _ _ _ (omega arith) c.in-Err-read_rows.ensures.read.looks }

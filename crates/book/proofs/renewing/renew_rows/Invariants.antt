use Rattle.book_store.specs.Kept.{row_bounds}
use Rattle.paged_records.specs.Bounded.{HasRecordMemory}
use Rattle.book.specs.Renewing.{HasFewDrops, Renews, missed_by}
use Rattle.std.specs.Prelude.{Ok, ◌*◌}
use Rattle.pages.specs.Counted.{MakesAtMost}
use Rattle.book_store.specs.declared.layout.TheConstants.{ROW_MOST}
use Rattle.book.proofs.renewing.renew_rows.Given as goal

abbrev pub invariant-rows : goal.invariant-rows
invariant-rows g l =
    record {
      so : Renews l.rows l.fn.store l.store (g.D.Disk.state l.fn.disk) (g.D.Disk.state l.disk) l.at;
      few : MakesAtMost {T = Unit} (ROW_MOST * l.at) missed_by (g.D.Disk.state l.fn.disk) (g.D.Disk.state l.disk) (Ok tt);
      drops : HasFewDrops l.store;
      room : HasRecordMemory row_bounds l.text;
    }

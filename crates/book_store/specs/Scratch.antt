-- Memory that opening needs besides a store's.
use Rattle.std.specs.Prelude.{◌≡◌, ◌+◌, ◌*◌, ℕ, false, length, replicate}
use Rattle.dr_base.specs.declared.limits.TheConstants.{PAGE}
use Rattle.dr_disk.specs.State.{DiskState}
use Rattle.pages.specs.declared.rows.TheConstants.{ROW_PAGES as READ_PAGES}
use Rattle.pages.specs.Judged.{AreTablesRead, table_with}
use Rattle.book_store.specs.Layout.{HasBook, book_layout}
use Rattle.book_store.specs.declared.scratch.Scratch.{Scratch}
use Rattle.book_store.specs.declared.layout.TheConstants.{BOOK_ROWS, BOOK_TABLE, ROW_PAGES}

-- for both tables and the pages that are read at once, with no page marked
pub record IsScratch (scratch : Scratch) : Type 0 where
  pub first_long : length scratch.first.items + 1 ≡ BOOK_TABLE
  pub second_long : length scratch.second.items + 1 ≡ BOOK_TABLE
  pub room_long : length scratch.room.items ≡ PAGE * READ_PAGES
  pub marks : scratch.named.items ≡ replicate (ROW_PAGES * BOOK_ROWS) false

-- both tables of a book were read into it, with these gates
pub record HasTables (rows first_gate second_gate : ℕ) (scratch : Scratch) (disk : DiskState)
    : Type 0 where
  pub within : HasBook rows disk
  pub room : IsScratch scratch
  pub read : AreTablesRead (book_layout rows) (table_with first_gate scratch.first.items)
      (table_with second_gate scratch.second.items) disk

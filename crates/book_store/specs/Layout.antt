-- Where a book lies.
use Rattle.std.specs.Prelude.{ℕ, ◌+◌, ◌*◌, ◌≤◌}
use Rattle.dr_base.specs.declared.limits.TheConstants.{PAGE}
use Rattle.dr_disk.specs.State.{DiskState}
use Rattle.pages.specs.declared.layout.Layout.{Layout}
use Rattle.pages.specs.declared.layout.TheConstants.{LOWER_PAGES}
use Rattle.book_store.specs.declared.layout.TheConstants.{BOOK_START, BOOK_TABLE, ROW_PAGES, ROW_SIZE}

-- two tables, and the pages of so many rows, one row after the other
abbrev pub book_layout : ℕ → Layout
book_layout rows = record {
  first = 0;
  second = BOOK_TABLE;
  table = BOOK_TABLE;
  lower = BOOK_START;
  upper = BOOK_START + PAGE * LOWER_PAGES;
  least = 0;
  count = ROW_PAGES * rows;
}

-- where they end
abbrev pub book_end : ℕ → ℕ
book_end rows = BOOK_START + ROW_SIZE * rows

abbrev pub HasBook : ℕ → DiskState → Type 0
HasBook rows disk = book_end rows ≤ disk.size

-- How many reads, writes and syncs opening a book makes at most.
use Rattle.std.specs.Prelude.{ℕ, ◌+◌, ◌*◌}
use Rattle.pages.specs.Counted.{lookings, one_of, tidyings}
use Rattle.book_store.specs.declared.errors.BookOpenError.{BookOpenError}
use Rattle.book_store.specs.declared.errors.BookOpenError.TheVariants.{DamagedRow, DamagedTable, Memory, StoreFault}
use Rattle.book_store.specs.Layout.{book_layout}
use Rattle.book_store.specs.declared.layout.TheConstants.{BOOK_ROWS, ROW_MOST}

-- both tables are tidied where none is open, else the one that doesn't count
abbrev pub settlings : ℕ → ℕ
settlings rows = 2 * tidyings (book_layout rows)

-- a sync, and what is wiped
abbrev pub openings : ℕ → ℕ
openings rows = 1 + settlings rows

-- both tables are read, each gate by itself, and the pages of the rows' records
abbrev pub readings : ℕ → ℕ
readings rows = 4 + ROW_MOST * BOOK_ROWS

-- and the pages are looked at that no row has, twice where both tables are tidied
abbrev pub opening_reads : ℕ → ℕ
opening_reads rows = readings rows + 2 * lookings (book_layout rows)

-- how many writes and syncs failed of an opening that was refused
abbrev pub faulted : BookOpenError → ℕ
faulted Memory = 0
faulted (StoreFault call) = one_of call
faulted (DamagedTable table at) = 0
faulted (DamagedRow row at) = 0

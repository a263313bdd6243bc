-- All rows of a book as they are read into memory.
use Rattle.std.specs.Prelude.{◌≡◌, ◌<◌, ⊤, ℕ, ◌+◌, List, Option, None, Some, get_or, length}
use Rattle.dr_disk.specs.State.{DiskState, OnSeen}
use Rattle.book_store.specs.Held.{row_seen}
use Rattle.book_store.specs.Layout.{HasBook}
use Rattle.book_store.specs.Marks.{IsLaidRow, RowMark, mark_in}
use Rattle.book_store.specs.Readers.{HasReadRow}
use Rattle.book_store.specs.Reading.{rows_damage}
use Rattle.book_store.specs.RowReading.{IsRowHeld, damage_of, pages_read}
use Rattle.book_store.specs.Rows.{book_pages, row_in}
use Rattle.book_store.specs.declared.errors.BookOpenError.{BookOpenError}
use Rattle.book_store.specs.declared.errors.BookOpenError.TheVariants.{DamagedRow, DamagedTable, Memory, StoreFault}
use Rattle.book_store.specs.declared.held.HeldRow.{HeldRow}
use Rattle.book_store.specs.declared.layout.TheConstants.{BOOK_ROWS}

-- a table whose rows are laid out, on a disk that has the pages of each that is present
pub record AreLaidRows (body : List ℕ) (disk : DiskState) : Type 0 where
  pub laid : (r : ℕ) → r < BOOK_ROWS → IsLaidRow (row_in body r)
  pub within : (r : ℕ) (mark : RowMark) → r < BOOK_ROWS → mark_in (row_in body r) ≡ Some mark
      → HasBook (r + 1) disk

-- what stands at the pages of all rows
abbrev pub book_read : List ℕ → List ℕ → List (List ℕ)
book_read body s = book_pages (λ r. pages_read r (row_in body r) s)

-- the first k rows in memory, each with its reader
pub record AreRowsHeld {R : Type 0} (fault_at : List ℕ → Option ℕ) (has_read : R → List ℕ → Type 0)
    (k : ℕ) (body : List ℕ) (rows : List HeldRow) (readers : List (Option R)) (disk : DiskState)
    : Type 0 where
  pub all : length rows ≡ k
  pub readers_all : length readers ≡ k
  pub each : (r : ℕ) (d : HeldRow) → r < k
      → IsRowHeld fault_at r (row_in body r) (get_or rows r d) disk
  pub read : (r : ℕ) (d : HeldRow) → r < k
      → HasReadRow has_read (get_or readers r None) (row_seen (get_or rows r d))

-- why not all rows can be held: want of memory, or the first damage
abbrev pub AreRowsRefused : (List ℕ → Option ℕ) → List ℕ → BookOpenError → DiskState → Type 0
AreRowsRefused fault_at body Memory disk = ⊤
AreRowsRefused fault_at body (DamagedRow row at) disk =
    OnSeen (λ s. rows_damage fault_at body (book_read body s) ≡ damage_of row at) disk
AreRowsRefused fault_at body (DamagedTable table at) disk = ⊥
AreRowsRefused fault_at body (StoreFault call) disk = ⊥

abbrev pub AreRowsRead : {R : Type 0} → (List ℕ → Option ℕ) → (R → List ℕ → Type 0) → List ℕ
    → List HeldRow → List (Option R) → DiskState → Option BookOpenError → Type 0
AreRowsRead fault_at has_read body rows readers disk None =
    AreRowsHeld fault_at has_read BOOK_ROWS body rows readers disk
AreRowsRead fault_at has_read body rows readers disk (Some error) =
    AreRowsRefused fault_at body error disk

-- What a book's bytes are read as: its rows, or the first damage.
use Rattle.std.specs.Prelude.{◌≡◌, ℕ, zero, suc, ◌+◌, ◌==◌, List, [], ◌∷◌, Option, None, Some, drop, get_or, if◌then◌else◌, length, slice_index, take}
use Rattle.std.specs.Str.{bytes_eq}
use Rattle.dr_base.specs.declared.limits.TheConstants.{PAGE}
use Rattle.pages.specs.Around.{IsSameOutside}
use Rattle.pages.specs.Snapshots.{Shot, no_shot, shot, snapshot, unclear}
use Rattle.paged_records.specs.Faults.{record_fault}
use Rattle.book_store.specs.Judging.{book_fault}
use Rattle.book_store.specs.Layout.{book_layout}
use Rattle.book_store.specs.Rows.{book_names, record_table, row_in, row_names}
use Rattle.book_store.specs.Shown.{BookRow, rows_in, stored_rows}
use Rattle.book_store.specs.declared.layout.TheConstants.{BOOK_ROWS}

-- ---- under a name

-- the record of the first row of this name
abbrev pub under : List ℕ → List (Option BookRow) → Option (List ℕ)
under name [] = None
under name (None ∷ rows) = under name rows
under name (Some row ∷ rows) = if bytes_eq row.name name then Some row.text else under name rows

-- the record that bytes have under a name
abbrev pub record_under : ℕ → List ℕ → List ℕ → Option (List ℕ)
record_under rows name c = under name (stored_rows rows c)

-- ---- damage

-- a row, and a page's size and the place in the row's record, or in the zeros that fill its pages
pub record RowDamage : Type 0 where
  pub row : ℕ
  pub at : ℕ

abbrev pub damage_at : ℕ → Option ℕ → Option RowDamage
damage_at r None = None
damage_at r (Some at) = Some (record { row = r; at = PAGE + at })

-- of a row's bytes and its pages: the first fault of its record, or else of the zeros behind it
unfoldable pub row_damage : (List ℕ → Option ℕ) → ℕ → List ℕ → List (List ℕ) → Option RowDamage
row_damage fault_at r row pages =
    if slice_index row 0 == 1
    then damage_at r (record_fault fault_at (record_table row) pages) else None

abbrev pub or_later : Option RowDamage → Option RowDamage → Option RowDamage
or_later (Some damage) later = Some damage
or_later None later = later

-- of k rows from row r on, whose pages stand one after the other
abbrev pub damage_from : (List ℕ → Option ℕ) → ℕ → ℕ → List ℕ → List (List ℕ) → Option RowDamage
damage_from fault_at zero r body pages = None
damage_from fault_at (suc k) r body pages =
    or_later
    (row_damage fault_at r (row_in body r) (take (length (row_names (row_in body r))) pages))
    (damage_from fault_at k (suc r) body (drop (length (row_names (row_in body r))) pages))

unfoldable pub rows_damage : (List ℕ → Option ℕ) → List ℕ → List (List ℕ) → Option RowDamage
rows_damage fault_at body pages = damage_from fault_at BOOK_ROWS 0 body pages

-- ---- the reading

-- rows; the number of the damaged table, and the place in it; or the first damaged row
pub data BookReading : Type 0 where
  has_rows : List (Option BookRow) → BookReading
  damaged_table : ℕ → ℕ → BookReading
  damaged_row : RowDamage → BookReading

-- the table is looked at whole before any record
abbrev pub judged_book : ℕ → Option ℕ → Option RowDamage → List (Option BookRow) → BookReading
judged_book table (Some at) damage rows = damaged_table table at
judged_book table None (Some damage) rows = damaged_row damage
judged_book table None None rows = has_rows rows

-- where no table is open all rows are absent; where neither is newer, table 1 is damaged at its
-- turn
abbrev pub book_read_as : (List ℕ → Option ℕ) → ℕ → Shot → BookReading
book_read_as fault_at rows no_shot = has_rows (rows_in no_shot)
book_read_as fault_at rows unclear = damaged_table 1 1
book_read_as fault_at rows (shot s) =
    judged_book (if s.second then 1 else 0) (book_fault rows s.table.body)
    (rows_damage fault_at s.table.body s.pages) (rows_in (shot s))

-- what these bytes are read as, under a grammar's place of the first fault of a record
unfoldable pub book_reading : (List ℕ → Option ℕ) → ℕ → List ℕ → BookReading
book_reading fault_at rows c = book_read_as fault_at rows (snapshot book_names (book_layout rows) c)

-- ---- words of callers

-- each record of these rows is one of the grammar
abbrev pub AreRecords : (List ℕ → Option ℕ) → List (Option BookRow) → Type 0
AreRecords fault_at rows =
    (r : ℕ) (row : BookRow) → get_or rows r None ≡ Some row → fault_at row.text ≡ None

-- under any grammar that has their records these bytes are read as the rows that they have
abbrev pub IsUndamagedBook : ℕ → List ℕ → Type 0
IsUndamagedBook rows c = (fault_at : List ℕ → Option ℕ) → AreRecords fault_at (stored_rows rows c)
    → book_reading fault_at rows c ≡ has_rows (stored_rows rows c)

-- outside of a book's tables and pages these bytes are the same
abbrev pub IsSameOutsideBook : ℕ → List ℕ → List ℕ → Type 0
IsSameOutsideBook rows = IsSameOutside (book_layout rows)

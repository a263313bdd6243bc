-- The rows that a table with its pages has.
use Rattle.std.specs.Prelude.{ℕ, zero, suc, ◌==◌, List, [], ◌∷◌, Option, None, Some, drop, if◌then◌else◌, length, slice_index, take}
use Rattle.pages.specs.Snapshots.{Shot, no_shot, shot, snapshot, unclear}
use Rattle.record_pages.specs.Pages.{joined}
use Rattle.book_store.specs.Layout.{book_layout}
use Rattle.book_store.specs.Rows.{book_names, name_in, row_in, row_length, row_names}
use Rattle.book_store.specs.declared.layout.TheConstants.{BOOK_ROWS}

-- a present row: its name, and its record
pub record BookRow : Type 0 where
  pub name : List ℕ
  pub text : List ℕ

-- of a row's bytes and its pages
unfoldable pub row_with : List ℕ → List (List ℕ) → Option BookRow
row_with row pages =
    if slice_index row 0 == 1
    then Some (record { name = name_in row; text = take (row_length row) (joined pages) }) else None

-- k rows from row r on, whose pages stand one after the other
abbrev pub rows_from : ℕ → ℕ → List ℕ → List (List ℕ) → List (Option BookRow)
rows_from zero r body pages = []
rows_from (suc k) r body pages =
    row_with (row_in body r) (take (length (row_names (row_in body r))) pages)
    ∷ rows_from k (suc r) body (drop (length (row_names (row_in body r))) pages)

abbrev pub absent : ℕ → List (Option BookRow)
absent zero = []
absent (suc k) = None ∷ absent k

-- where no table is open all are absent
unfoldable pub rows_in : Shot → List (Option BookRow)
rows_in no_shot = absent BOOK_ROWS
rows_in unclear = absent BOOK_ROWS
rows_in (shot s) = rows_from BOOK_ROWS 0 s.table.body s.pages

-- the rows that bytes have
unfoldable pub stored_rows : ℕ → List ℕ → List (Option BookRow)
stored_rows rows c = rows_in (snapshot book_names (book_layout rows) c)

-- row by row
abbrev pub rows_by : ℕ → ℕ → (ℕ → Option BookRow) → List (Option BookRow)
rows_by zero r row = []
rows_by (suc k) r row = row r ∷ rows_by k (suc r) row

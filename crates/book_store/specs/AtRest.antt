-- A book at rest, laid out from its rows and its mark.
use Rattle.std.specs.Prelude.{◌≡◌, ℕ, ◌≤◌, Bool, List, [], ◌∷◌, ◌++◌, Option, None, Some, if◌then◌else◌, ◌==◌, length}
use Rattle.pages.specs.Resting.{IsShotAtRest}
use Rattle.pages.specs.Snapshots.{Snapshot}
use Rattle.pages.specs.Tables.{Table, open_table, wiped}
use Rattle.record_pages.specs.Pages.{pages_in}
use Rattle.book_store.specs.Layout.{book_layout}
use Rattle.book_store.specs.Marks.{AreMarks, RowMark, book_body}
use Rattle.book_store.specs.Rows.{book_names}
use Rattle.book_store.specs.Shown.{BookRow, absent}
use Rattle.book_store.specs.declared.layout.TheConstants.{BOOK_ROWS, BOOK_TABLE}

-- which table is current, table 1 or table 0, its turn, 0 where none is open, and the numbers of
-- each row's pages
pub record BookMark : Type 0 where
  pub second : Bool
  pub turn : ℕ
  pub numbers : List (List ℕ)

-- what a table says of the rows
abbrev pub row_mark : Option BookRow → List ℕ → Option RowMark
row_mark None numbers = None
row_mark (Some row) numbers =
    Some (record { name = row.name; len = length row.text; numbers = numbers })

abbrev pub row_marks : List (Option BookRow) → List (List ℕ) → List (Option RowMark)
row_marks [] numbers = []
row_marks (row ∷ rows) [] = row_mark row [] ∷ row_marks rows []
row_marks (row ∷ rows) (own ∷ numbers) = row_mark row own ∷ row_marks rows numbers

-- the pages of all rows' records, one after the other
abbrev pub row_pages : Option BookRow → List (List ℕ)
row_pages None = []
row_pages (Some row) = pages_in row.text

abbrev pub all_pages : List (Option BookRow) → List (List ℕ)
all_pages [] = []
all_pages (row ∷ rows) = row_pages row ++ all_pages rows

-- an open table, or one of zeros
abbrev pub laid_table : BookMark → List (Option BookRow) → Table
laid_table mark book =
    if mark.turn == 0 then wiped BOOK_TABLE
    else open_table (book_body mark.turn (row_marks book mark.numbers))

abbrev pub laid_book : BookMark → List (Option BookRow) → Snapshot
laid_book mark book = record {
  second = mark.second;
  table = laid_table mark book;
  pages = all_pages book;
}

-- a turn, and rows that a table can say; or no turn, and no row
pub record IsBookMarked (rows : ℕ) (mark : BookMark) (book : List (Option BookRow)) : Type 0 where
  pub high : mark.turn ≤ 3
  pub marks : AreMarks rows (row_marks book mark.numbers)
  pub none : mark.turn ≡ 0 → book ≡ absent BOOK_ROWS

-- the rows stand, and the other table and all pages that no row has are zeros
pub record IsBookAtRest (rows : ℕ) (mark : BookMark) (book : List (Option BookRow)) (c : List ℕ)
    : Type 0 where
  pub laid_out : IsShotAtRest book_names (book_layout rows) (laid_book mark book) c
  pub marked : IsBookMarked rows mark book

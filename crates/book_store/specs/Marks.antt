-- A table as it is laid out from what its rows say.
use Rattle.std.specs.Prelude.{◌≡◌, ◌≢◌, ℕ, zero, suc, true, ◌-◌, ◌*◌, ◌<◌, ◌≤◌, ◌==◌, List, [], ◌∷◌, ◌++◌, Option, None, Some, get_or, if◌then◌else◌, length, replicate, slice_index}
use Rattle.record_pages.specs.Pages.{page_count}
use Rattle.record_pages.specs.Tables.{entry_fault}
use Rattle.relay_wire.specs.Names.{is_name}
use Rattle.book_store.specs.Rows.{absent_row, name_in, row_in, row_length, row_names, row_text}
use Rattle.book_store.specs.declared.layout.TheConstants.{BOOK_ROWS, BOOK_TABLE, ROW_MOST, ROW_PAGES, TABLE_ROW}

-- a present row as a table says it: its name, the length of its record, and the record's pages
pub record RowMark : Type 0 where
  pub name : List ℕ
  pub len : ℕ
  pub numbers : List ℕ

-- what can be said of a row that a book has
pub record IsRowMark (mark : RowMark) : Type 0 where
  pub named : is_name mark.name ≡ true
  pub few : page_count mark.len ≤ ROW_MOST
  pub each : length mark.numbers ≡ page_count mark.len
  pub entries : entry_fault 0 ROW_PAGES [] 6 mark.numbers ≡ None

abbrev pub mark_text : Option RowMark → List ℕ
mark_text None = absent_row
mark_text (Some mark) = row_text mark.name mark.len mark.numbers

-- rows, one after the other
abbrev pub rows_text : List (Option RowMark) → List ℕ
rows_text [] = []
rows_text (mark ∷ marks) = mark_text mark ++ rows_text marks

-- a table after its gate
abbrev pub book_body : ℕ → List (Option RowMark) → List ℕ
book_body turn marks =
    turn ∷ (replicate (TABLE_ROW - 2) 0
    ++ (rows_text marks ++ replicate (BOOK_TABLE - (TABLE_ROW * BOOK_ROWS) - TABLE_ROW) 0))

-- All rows of a book: each that is present is below `rows`, and no two have one name.
pub record AreMarks (rows : ℕ) (marks : List (Option RowMark)) : Type 0 where
  pub all : length marks ≡ BOOK_ROWS
  pub lawful : (r : ℕ) (mark : RowMark) → get_or marks r None ≡ Some mark → IsRowMark mark
  pub inside : (r : ℕ) (mark : RowMark) → get_or marks r None ≡ Some mark → r < rows
  pub differ : (q r : ℕ) (one other : RowMark) → get_or marks q None ≡ Some one
      → get_or marks r None ≡ Some other → q ≢ r → one.name ≢ other.name

-- ---- as the bytes of a table say it

-- what the bytes of a row say
unfoldable pub mark_in : List ℕ → Option RowMark
mark_in row =
    if slice_index row 0 == 1
    then Some (record { name = name_in row; len = row_length row; numbers = row_names row })
    else None

-- k rows from row r on
abbrev pub marks_by : ℕ → ℕ → List ℕ → List (Option RowMark)
marks_by zero r body = []
marks_by (suc k) r body = mark_in (row_in body r) ∷ marks_by k (suc r) body

unfoldable pub marks_in : List ℕ → List (Option RowMark)
marks_in body = marks_by BOOK_ROWS 0 body

-- a row that is laid out from what it says, and a table that is
pub record IsLaidRow (row : List ℕ) : Type 0 where
  pub lawful : (mark : RowMark) → mark_in row ≡ Some mark → IsRowMark mark
  pub text : row ≡ mark_text (mark_in row)

pub record IsLaidTable (rows : ℕ) (body : List ℕ) : Type 0 where
  pub are : AreMarks rows (marks_in body)
  pub body_is : body ≡ book_body (slice_index body 0) (marks_in body)

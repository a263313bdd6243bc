-- The rows of a book's table.
use Rattle.std.specs.Prelude.{ℕ, zero, suc, ◌+◌, ◌-◌, ◌*◌, ◌==◌, List, [], ◌∷◌, ◌++◌, drop, if◌then◌else◌, length, map, replicate, slice_index, slice_range, take}
use Rattle.std.specs.Int.{w32, to_be_bytes}
use Rattle.record_pages.specs.Tables.{length_in, printed, record_names}
use Rattle.relay_wire.specs.declared.limits.TheConstants.{NAME_LIMIT}
use Rattle.book_store.specs.declared.layout.TheConstants.{BOOK_ROWS, RECORD_PLACE, ROW_PAGES, TABLE_ROW}

-- ---- one row

-- present, the length of its name, the name, and zeros
abbrev pub row_head : List ℕ → List ℕ
row_head name = 1 ∷ (length name ∷ (name ++ replicate (NAME_LIMIT - length name) 0))

-- the length of its record, the numbers of the record's pages, and zeros
abbrev pub row_rest : ℕ → List ℕ → List ℕ
row_rest len numbers = to_be_bytes w32 len
    ++ (printed numbers ++ replicate (TABLE_ROW - RECORD_PLACE - (5 + 2 * length numbers)) 0)

-- a present row
abbrev pub row_text : List ℕ → ℕ → List ℕ → List ℕ
row_text name len numbers = row_head name ++ row_rest len numbers

abbrev pub absent_row : List ℕ
absent_row = replicate TABLE_ROW 0

abbrev pub name_in : List ℕ → List ℕ
name_in row = take (slice_index row 1) (drop 2 row)

-- its record's table
abbrev pub record_table : List ℕ → List ℕ
record_table row = drop RECORD_PLACE row

abbrev pub row_length : List ℕ → ℕ
row_length row = length_in (record_table row)

-- the pages that a row names, by its bytes
unfoldable pub row_names : List ℕ → List ℕ
row_names row = if slice_index row 0 == 1 then record_names (record_table row) else []

-- ---- all rows

-- where row r begins in a table after its gate
abbrev pub row_place : ℕ → ℕ
row_place r = TABLE_ROW - 1 + TABLE_ROW * r

abbrev pub row_in : List ℕ → ℕ → List ℕ
row_in body r = slice_range body (row_place r) (row_place r + TABLE_ROW)

-- with another row
abbrev pub with_row_in : List ℕ → ℕ → List ℕ → List ℕ
with_row_in body r row =
    take (row_place r) body ++ (row ++ drop TABLE_ROW (drop (row_place r) body))

-- a row's numbers as those of pages of the book
abbrev pub shifted : ℕ → List ℕ → List ℕ
shifted r numbers = map (λ n. ROW_PAGES * r + n) numbers

-- the pages of k rows, from row r on, where each row has these numbers
abbrev pub names_by : ℕ → ℕ → (ℕ → List ℕ) → List ℕ
names_by zero r numbers = []
names_by (suc k) r numbers = shifted r (numbers r) ++ names_by k (suc r) numbers

-- the pages that a table names
unfoldable pub book_names : List ℕ → List ℕ
book_names body = names_by BOOK_ROWS 0 (λ r. row_names (row_in body r))

-- what stands in k rows, from row r on, one page after the other
abbrev pub pages_by : ℕ → ℕ → (ℕ → List (List ℕ)) → List (List ℕ)
pages_by zero r held = []
pages_by (suc k) r held = held r ++ pages_by k (suc r) held

-- the pages of all rows
abbrev pub book_pages : (ℕ → List (List ℕ)) → List (List ℕ)
book_pages held = pages_by BOOK_ROWS 0 held

-- The first place of a table that no book has, counted from its gate.
use Rattle.std.specs.Prelude.{ℕ, zero, suc, ◌+◌, ◌-◌, ◌*◌, ◌==◌, ◌&&◌, ◌||◌, Bool, false, not, nat_le, nat_lt, List, Option, None, Some, drop, if◌then◌else◌, slice_index, slice_range}
use Rattle.std.specs.Str.{bytes_eq}
use Rattle.record_pages.specs.Tables.{nonzero_from, or_else, table_fault}
use Rattle.relay_wire.specs.Names.{is_name}
use Rattle.relay_wire.specs.declared.limits.TheConstants.{NAME_LIMIT}
use Rattle.book_store.specs.Rows.{name_in, record_table, row_in}
use Rattle.book_store.specs.declared.layout.TheConstants.{BOOK_ROWS, BOOK_TABLE, RECORD_PLACE, ROW_MOST, ROW_PAGES, TABLE_ROW}

-- where row r begins, counted from the gate
abbrev pub row_at : ℕ → ℕ
row_at r = TABLE_ROW + TABLE_ROW * r

-- ---- a present row

-- it is present under this name
unfoldable pub is_named : List ℕ → List ℕ → Bool
is_named row name = slice_index row 0 == 1 && bytes_eq (name_in row) name

-- one of the first r rows is
abbrev pub is_taken : ℕ → List ℕ → List ℕ → Bool
is_taken zero body name = false
is_taken (suc r) body name = is_taken r body name || is_named (row_in body r) name

-- the name's length is that of one; then it is one, and no earlier row's, and zeros fill its room
unfoldable pub name_fault : List ℕ → ℕ → List ℕ → Option ℕ
name_fault body r row =
    if nat_le 1 (slice_index row 1) && nat_le (slice_index row 1) NAME_LIMIT
    then (if is_name (name_in row) && not (is_taken r body (name_in row))
    then nonzero_from (row_at r + 2 + slice_index row 1)
    (slice_range row (2 + slice_index row 1) (RECORD_PLACE + 1))
    else Some (row_at r + 2))
    else Some (row_at r + 1)

-- a place in the record's table, which counts from where its gate would stand
abbrev pub placed : ℕ → Option ℕ → Option ℕ
placed r None = None
placed r (Some at) = Some (row_at r + (RECORD_PLACE - 1) + at)

abbrev pub pages_fault : ℕ → List ℕ → Option ℕ
pages_fault r row = placed r (table_fault 0 ROW_PAGES ROW_MOST (record_table row))

-- absent, all zeros; or present, where it may be
unfoldable pub row_fault : Bool → List ℕ → ℕ → List ℕ → Option ℕ
row_fault may body r row =
    if slice_index row 0 == 0 then nonzero_from (row_at r + 1) (drop 1 row)
    else (if slice_index row 0 == 1 && may then or_else (name_fault body r row) (pages_fault r row)
    else Some (row_at r))

-- ---- the table

-- k rows from row r on, of which those below `rows` may be present
abbrev pub rows_fault : ℕ → ℕ → ℕ → List ℕ → Option ℕ
rows_fault zero r rows body = None
rows_fault (suc k) r rows body =
    or_else (row_fault (nat_lt r rows) body r (row_in body r)) (rows_fault k (suc r) rows body)

unfoldable pub all_rows_fault : ℕ → List ℕ → Option ℕ
all_rows_fault rows body = rows_fault BOOK_ROWS 0 rows body

-- zeros behind the turn; the rows; and zeros behind them, to the end of the table
unfoldable pub book_fault : ℕ → List ℕ → Option ℕ
book_fault rows body =
    or_else (nonzero_from 2 (slice_range body 1 (row_at 0 - 1)))
    (or_else (all_rows_fault rows body)
    (nonzero_from (row_at BOOK_ROWS) (slice_range body (row_at BOOK_ROWS - 1) (BOOK_TABLE - 1))))

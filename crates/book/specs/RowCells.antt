-- The row of a name as a place on a disk: all other rows lie outside of it.
use Rattle.std.specs.Prelude.{List, None, Option, Some, [], if◌then◌else◌, ℕ, ◌∷◌, ◌≡◌, ◌≢◌}
use Rattle.std.specs.Str.{bytes_eq}
use Rattle.book_store.specs.Reading.{IsSameOutsideBook, IsUndamagedBook, record_under}
use Rattle.book_store.specs.Shown.{BookRow, stored_rows}
use Rattle.kem_laws.specs.Mechanism.{Mechanism}
use Rattle.client.specs.Cells.{Cell}
use Rattle.client.specs.Opening.{IsSameOrNewest}

-- the rows beside that of a name, each in its place
abbrev pub beside : List ℕ → List (Option BookRow) → List (Option BookRow)
beside name [] = []
beside name (None ∷ rows) = None ∷ beside name rows
beside name (Some row ∷ rows) =
    (if bytes_eq row.name name then None else Some row) ∷ beside name rows

-- the other rows are the same, and so is all outside the book
pub record IsSameBeside (rows : ℕ) (name : List ℕ) (d c : List ℕ) : Type 0 where
  pub others : beside name (stored_rows rows c) ≡ beside name (stored_rows rows d)
  pub outside : IsSameOutsideBook rows d c

abbrev pub row_cell : ℕ → List ℕ → Cell
row_cell rows name = record {
  record_in = record_under rows name;
  undamaged = IsUndamagedBook rows;
  outside = IsSameBeside rows name;
}

-- ---- where the book is opened meanwhile

-- Opening brings all records up to the newest version: so under each other name is the same, or the
-- same session's in the newest version. All outside the book is the same.
pub record IsAlikeBeside (k : Mechanism) (rows : ℕ) (name : List ℕ) (d c : List ℕ) : Type 0 where
  pub others : (other : List ℕ) → other ≢ name
      → IsSameOrNewest k (record_under rows other d) (record_under rows other c)
  pub outside : IsSameOutsideBook rows d c

-- the row of a name as one sees it who opens the book and calls it, as a command does
abbrev pub opened_row_cell : Mechanism → ℕ → List ℕ → Cell
opened_row_cell k rows name = record {
  record_in = record_under rows name;
  undamaged = IsUndamagedBook rows;
  outside = IsAlikeBeside k rows name;
}

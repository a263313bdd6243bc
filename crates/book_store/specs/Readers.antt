-- Who reads the records of a book's rows.
use Rattle.std.specs.Prelude.{◌≡◌, ◌<◌, ⊤, ℕ, List, Option, None, Some, get_or, length}
use Rattle.book_store.specs.Shown.{BookRow}
use Rattle.book_store.specs.declared.layout.TheConstants.{BOOK_ROWS}

-- a reader has read the row's record; where the row is absent there is none
abbrev pub HasReadRow : {R : Type 0} → (R → List ℕ → Type 0) → Option R → Option BookRow → Type 0
HasReadRow has_read None None = ⊤
HasReadRow has_read (Some reader) (Some row) = has_read reader row.text
HasReadRow has_read None (Some row) = ⊥
HasReadRow has_read (Some reader) None = ⊥

-- for each row of a book
pub record HaveReadRows {R : Type 0} (has_read : R → List ℕ → Type 0) (readers : List (Option R))
    (book : List (Option BookRow)) : Type 0 where
  pub all : length readers ≡ BOOK_ROWS
  pub each : (r : ℕ) → r < BOOK_ROWS
      → HasReadRow has_read (get_or readers r None) (get_or book r None)

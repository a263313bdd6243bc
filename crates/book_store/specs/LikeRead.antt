-- Bytes that have the rows of what was read.
use Rattle.std.specs.Prelude.{◌≡◌, ◌⊎◌, ℕ, List, Some}
use Rattle.dr_disk.specs.State.{DiskState}
use Rattle.book_store.specs.Reading.{IsSameOutsideBook, IsUndamagedBook}
use Rattle.book_store.specs.Shown.{stored_rows}

-- the rows are those of what was read at that moment, undamaged where that was, and so is all
-- outside the book
pub record IsLikeReadBook (rows : ℕ) (start : DiskState) (c : List ℕ) : Type 0 where
  pub read : List ℕ
  pub told : start.seen ≡ Some read
  pub same : stored_rows rows c ≡ stored_rows rows read
  pub undamaged : IsUndamagedBook rows read → IsUndamagedBook rows c
  pub outside : IsSameOutsideBook rows read c

-- an image of that moment, or one like what was read then
abbrev pub IsEntryOrLikeBook : ℕ → DiskState → List ℕ → Type 0
IsEntryOrLikeBook rows start c = start.image c ⊎ IsLikeReadBook rows start c

-- Rows are staged one after the other, and one table is committed.
use Rattle.std.specs.Prelude.{ℕ, ◌+◌, ◌*◌, ◌==◌, ◌≡◌, ◌≢◌, ◌<◌, ◌≤◌, Bool, List, [], ◌∷◌, All, Some, if◌then◌else◌, length, map, not, slice_index, slice_range}
use Rattle.dr_base.specs.declared.limits.TheConstants.{PAGE}
use Rattle.dr_disk.specs.State.{Always, DiskState, OnSeen}
use Rattle.pages.specs.Layouts.{IsPage}
use Rattle.pages.specs.Snapshots.{IsStill, Snapshot, page_of}
use Rattle.pages.specs.Tables.{open_table, table_turn}
use Rattle.pages.specs.Writing.{AreBeside, AreDistinct, IsNoneOf}
use Rattle.book_store.specs.declared.desk.Desk.{Desk}
use Rattle.book_store.specs.Layout.{book_layout}
use Rattle.book_store.specs.Rows.{book_names, book_pages, row_in, row_names, shifted}
use Rattle.book_store.specs.declared.layout.TheConstants.{BOOK_ROWS, ROW_PAGES}

-- the pages of a text, by their places in it
abbrev pub pieces : List ℕ → List ℕ → List (List ℕ)
pieces pages [] = []
pieces pages (at ∷ places) = slice_range pages (PAGE * at) (PAGE * at + PAGE) ∷ pieces pages places

-- What stands before a commit: on the disk still the snapshot `was`; and with the bytes of the
-- table to come, what a read gives at the pages that it names, row by row.
pub record StandsStaged (rows : ℕ) (second : Bool) (turn : ℕ) (body : List ℕ) (was : Snapshot)
    (held : ℕ → List (List ℕ)) (disk : DiskState) : Type 0 where
  pub place : was.second ≡ second
  pub turn_is : table_turn was.table ≡ turn
  pub still : Always (IsStill book_names (book_layout rows) was) disk
  pub was_named : All (IsPage (book_layout rows)) (book_names was.table.body)
  pub named : (r : ℕ) → r < BOOK_ROWS
      → All (IsPage (book_layout rows)) (shifted r (row_names (row_in body r)))
  -- each row's pages are its own
  pub own : (r : ℕ) → r < BOOK_ROWS → All (λ n. n < ROW_PAGES) (row_names (row_in body r))
  pub holds : (r : ℕ) → r < BOOK_ROWS → OnSeen (λ s. map (page_of (book_layout rows) s)
      (shifted r (row_names (row_in body r))) ≡ held r) disk

-- With the pages that stand, and those that are written, a row's numbers name what it gets.
abbrev pub IsReplanned : ℕ → List ℕ → List ℕ → List ℕ → List (List ℕ) → List (List ℕ)
    → List (List ℕ) → Type 0
IsReplanned row old numbers fresh standing written next = (f : ℕ → List ℕ)
    → map f (shifted row old) ≡ standing → map f fresh ≡ written
    → map f (shifted row numbers) ≡ next

-- A plan for a row: pages of the row are written that neither the disk's table nor the row names.
pub record IsRowPlan (rows row : ℕ) (old numbers fresh places pages : List ℕ) (was : Snapshot)
    (standing next : List (List ℕ)) : Type 0 where
  pub here : row < rows
  pub beside : AreBeside book_names (book_layout rows) fresh was
  pub distinct : AreDistinct fresh
  pub least : (j : ℕ) → j < length fresh → ROW_PAGES * row ≤ slice_index fresh j
  pub below : (j : ℕ) → j < length fresh → slice_index fresh j < ROW_PAGES * row + ROW_PAGES
  pub others : (j : ℕ) → j < length fresh → All (λ m. m ≢ slice_index fresh j) (shifted row old)
  pub entries : All (λ n. n < ROW_PAGES) numbers
  pub replanned : IsReplanned row old numbers fresh standing (pieces pages places) next

-- another table to come, and all else as it was
pub record IsWithBody (old new : Desk) (body : List ℕ) : Type 0 where
  pub rows : new.rows ≡ old.rows
  pub second : new.second ≡ old.second
  pub turn : new.turn ≡ old.turn
  pub body_is : new.body.items ≡ body

-- each page but for these is as a read gave it
pub record KeepsOthers (rows : ℕ) (numbers : List ℕ) (start : DiskState) (s : List ℕ) : Type 0 where
  pub read : List ℕ
  pub told : start.seen ≡ Some read
  pub rest : (m : ℕ) → IsPage (book_layout rows) m → IsNoneOf m numbers
      → page_of (book_layout rows) s m ≡ page_of (book_layout rows) read m

-- the rows, with another content of one
abbrev pub holding : (ℕ → List (List ℕ)) → ℕ → List (List ℕ) → ℕ → List (List ℕ)
holding held row next r = if r == row then next else held r

-- the snapshot that is to come
abbrev pub book_shot : Snapshot → List ℕ → (ℕ → List (List ℕ)) → Snapshot
book_shot was body held = record {
  second = not was.second;
  table = open_table body;
  pages = book_pages held;
}

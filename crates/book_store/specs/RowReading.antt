-- A row of a book as it is read into memory.
use Rattle.std.specs.Prelude.{◌≡◌, ⊤, ℕ, ◌+◌, ◌-◌, ◌*◌, ◌<◌, List, [], ◌∷◌, ◌++◌, Option, None, Some, map, replicate, vec_capacity}
use Rattle.dr_base.specs.declared.limits.TheConstants.{PAGE}
use Rattle.dr_disk.specs.State.{DiskState, OnSeen}
use Rattle.pages.specs.declared.layout.Layout.{Layout}
use Rattle.pages.specs.declared.layout.TheConstants.{LOWER_PAGES}
use Rattle.pages.specs.Snapshots.{page_of}
use Rattle.record_pages.specs.Pages.{pages_in}
use Rattle.paged_records.specs.declared.kept.Kept.{Kept}
use Rattle.paged_records.specs.declared.loading.Loaded.{Loaded}
use Rattle.paged_records.specs.declared.loading.Loaded.TheVariants.{Faulty, Whole}
use Rattle.paged_records.specs.Memory.{HasRoomToLoad}
use Rattle.book_store.specs.AtRest.{row_mark, row_pages}
use Rattle.book_store.specs.Held.{numbers_seen, row_seen}
use Rattle.book_store.specs.Kept.{row_bounds, text_of}
use Rattle.book_store.specs.Marks.{mark_in}
use Rattle.book_store.specs.Readers.{HasReadRow}
use Rattle.book_store.specs.Reading.{RowDamage, row_damage}
use Rattle.book_store.specs.Rows.{record_table, row_length, row_names}
use Rattle.book_store.specs.Shown.{BookRow}
use Rattle.book_store.specs.declared.errors.BookOpenError.{BookOpenError}
use Rattle.book_store.specs.declared.errors.BookOpenError.TheVariants.{DamagedRow, DamagedTable, Memory, StoreFault}
use Rattle.book_store.specs.declared.held.HeldRow.{HeldRow}
use Rattle.book_store.specs.declared.loading.RowRoom.{RowRoom}
use Rattle.book_store.specs.declared.layout.TheConstants.{BOOK_START, BOOK_TABLE, RECORD_PLACE, ROW_MOST, ROW_PAGES, ROW_SIZE, TABLE_ROW}

-- the pages of one row, by their own numbers
abbrev pub row_layout : ℕ → Layout
row_layout r = record {
  first = 0;
  second = BOOK_TABLE;
  table = BOOK_TABLE;
  lower = BOOK_START + ROW_SIZE * r;
  upper = BOOK_START + ROW_SIZE * r + PAGE * LOWER_PAGES;
  least = 0;
  count = ROW_PAGES;
}

-- what stands at the pages that a row names
abbrev pub pages_read : ℕ → List ℕ → List ℕ → List (List ℕ)
pages_read r row s = map (page_of (row_layout r) s) (row_names row)

-- the table of a row's record, made as long as one that fills a page
abbrev pub widened : List ℕ → List ℕ
widened row = record_table row ++ replicate (PAGE - 1 - (TABLE_ROW - RECORD_PLACE)) 0

-- ---- its record

-- room for a row that is present: it has no record, and its reader has read nothing
pub record IsRowRoom {R : Type 0} (is_new : R → Type 0) (row : List ℕ) (room : RowRoom R)
    : Type 0 where
  pub table : room.table.items ≡ widened row
  pub none : room.kept.len ≡ 0
  pub has_room : HasRoomToLoad row_bounds room.kept
  pub dropped : room.dropped.items ≡ []
  pub drops : ROW_MOST < vec_capacity room.dropped
  pub new : is_new room.reader

-- a record of the grammar, as the row says it
pub record IsRowKept (fault_at : List ℕ → Option ℕ) (row : List ℕ) (kept : Kept) : Type 0 where
  pub has_room : HasRoomToLoad row_bounds kept
  pub len : kept.len ≡ row_length row
  pub numbers : kept.numbers.items ≡ row_names row
  pub text : fault_at (text_of kept) ≡ None

abbrev pub IsKeptRecord : (List ℕ → Option ℕ) → List ℕ → Loaded → Type 0
IsKeptRecord fault_at row (Faulty at) = ⊤
IsKeptRecord fault_at row (Whole kept) = IsRowKept fault_at row kept

abbrev pub damage_of : ℕ → ℕ → Option RowDamage
damage_of r at = Some (record { row = r; at = at })

-- what stood in these bytes: a fault, or the record's pages
abbrev pub IsRowLoaded : (List ℕ → Option ℕ) → ℕ → List ℕ → Loaded → List ℕ → Type 0
IsRowLoaded fault_at r row (Faulty at) s =
    row_damage fault_at r row (pages_read r row s) ≡ damage_of r at
IsRowLoaded fault_at r row (Whole kept) s = pages_read r row s ≡ pages_in (text_of kept)

-- ---- the row

-- a row in memory, as it was read: absent, or with a text of the grammar
pub record IsRowHeld (fault_at : List ℕ → Option ℕ) (r : ℕ) (row : List ℕ) (held : HeldRow)
    (disk : DiskState) : Type 0 where
  pub mark : row_mark (row_seen held) (numbers_seen held) ≡ mark_in row
  pub text : (shown : BookRow) → row_seen held ≡ Some shown → fault_at shown.text ≡ None
  pub pages : OnSeen (λ s. pages_read r row s ≡ row_pages (row_seen held)) disk

-- rows and their readers, with this one behind them
pub record IsRowAdded {R : Type 0} (fault_at : List ℕ → Option ℕ) (has_read : R → List ℕ → Type 0)
    (r : ℕ) (row : List ℕ) (old new : List HeldRow) (olds news : List (Option R))
    (disk : DiskState) : Type 0 where
  pub held : HeldRow
  pub reader : Option R
  pub rows : new ≡ old ++ held ∷ []
  pub readers : news ≡ olds ++ reader ∷ []
  pub is : IsRowHeld fault_at r row held disk
  pub read : HasReadRow has_read reader (row_seen held)

-- why a row can't be held: want of memory, or its damage
abbrev pub IsRowRefused : (List ℕ → Option ℕ) → ℕ → List ℕ → BookOpenError → DiskState → Type 0
IsRowRefused fault_at r row Memory disk = ⊤
IsRowRefused fault_at r row (DamagedRow which at) disk =
    OnSeen (λ s. row_damage fault_at r row (pages_read r row s) ≡ damage_of which at) disk
IsRowRefused fault_at r row (DamagedTable table at) disk = ⊥
IsRowRefused fault_at r row (StoreFault call) disk = ⊥

abbrev pub IsRowRead : {R : Type 0} → (List ℕ → Option ℕ) → (R → List ℕ → Type 0) → ℕ → List ℕ
    → List HeldRow → List HeldRow → List (Option R) → List (Option R) → DiskState
    → Option BookOpenError → Type 0
IsRowRead fault_at has_read r row old new olds news disk None =
    IsRowAdded fault_at has_read r row old new olds news disk
IsRowRead fault_at has_read r row old new olds news disk (Some error) =
    IsRowRefused fault_at r row error disk

-- an absent row and no reader, behind these
pub record IsAbsentAdded {R : Type 0} (old new : List HeldRow) (olds news : List (Option R))
    : Type 0 where
  pub held : HeldRow
  pub absent : held.name ≡ None
  pub rows : new ≡ old ++ held ∷ []
  pub readers : news ≡ olds ++ None ∷ []

-- or there was no memory
abbrev pub IsAbsentRead : {R : Type 0} → List HeldRow → List HeldRow → List (Option R)
    → List (Option R) → Option BookOpenError → Type 0
IsAbsentRead old new olds news None = IsAbsentAdded old new olds news
IsAbsentRead old new olds news (Some error) = error ≡ Memory

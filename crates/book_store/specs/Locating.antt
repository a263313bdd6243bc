-- What counts on a disk whose tables were read.
use Rattle.std.specs.Prelude.{◌≡◌, ⊤, ℕ, Bool, true, false, List, Option, None, Some, if◌then◌else◌, replicate}
use Rattle.dr_disk.specs.State.{DiskState, OnSeen}
use Rattle.pages.specs.Snapshots.{kept_shot, snapshot}
use Rattle.book_store.specs.AtRest.{IsBookMarked, laid_book}
use Rattle.book_store.specs.Held.{store_seen}
use Rattle.book_store.specs.Layout.{book_layout}
use Rattle.book_store.specs.Readers.{HaveReadRows}
use Rattle.book_store.specs.Reading.{AreRecords, book_reading, damaged_row, damaged_table}
use Rattle.book_store.specs.Rows.{book_names}
use Rattle.book_store.specs.Shown.{absent}
use Rattle.book_store.specs.Store.{BookStore, IsLawfulStore, body_of}
use Rattle.book_store.specs.declared.desk.Desk.{Desk}
use Rattle.book_store.specs.declared.errors.BookOpenError.{BookOpenError}
use Rattle.book_store.specs.declared.errors.BookOpenError.TheVariants.{DamagedRow, DamagedTable, Memory, StoreFault}
use Rattle.book_store.specs.declared.held.HeldRow.{HeldRow}
use Rattle.book_store.specs.declared.locating.Located.{Located}
use Rattle.book_store.specs.declared.locating.Located.TheVariants.{Held, Refused}
use Rattle.book_store.specs.declared.layout.TheConstants.{BOOK_ROWS}

-- ---- a store of rows in memory

-- of which none is staged
abbrev pub store_with : Desk → List HeldRow → BookStore
store_with desk rows =
    store_seen desk.rows desk.second desk.turn rows (replicate BOOK_ROWS false) false

-- the desk has the table of these rows
pub record IsStoreWith (desk : Desk) (rows : List HeldRow) : Type 0 where
  pub lawful : IsLawfulStore (store_with desk rows)
  pub laid : desk.body.items ≡ body_of (store_with desk rows)
  pub marked : IsBookMarked desk.rows (store_with desk rows).mark (store_with desk rows).held

-- what counts in these bytes are the store's rows, or nothing where no table is open
abbrev pub HasBookShot : BookStore → List ℕ → Type 0
HasBookShot store s = snapshot book_names (book_layout store.rows) s
    ≡ kept_shot (laid_book store.mark store.held)

-- ---- what counts

-- Rows in memory are what counts in the bytes that were read, each with a text of the grammar that
-- its reader has read. Where no table is open table 1 is the current one, so that the first commit
-- goes to table 0.
pub record HoldsBook {R : Type 0} (fault_at : List ℕ → Option ℕ) (has_read : R → List ℕ → Type 0)
    (count : ℕ) (readers : List (Option R)) (desk : Desk) (rows : List HeldRow) (disk : DiskState)
    : Type 0 where
  pub count_is : desk.rows ≡ count
  pub store : IsStoreWith desk rows
  pub shown : OnSeen (HasBookShot (store_with desk rows)) disk
  pub texts : AreRecords fault_at (store_with desk rows).held
  pub read : HaveReadRows has_read readers (store_with desk rows).held
  pub first : desk.turn ≡ 0 → desk.second ≡ true

-- or they can't be held: for want of memory, or since what was read is damaged
abbrev pub IsCause : (List ℕ → Option ℕ) → ℕ → BookOpenError → DiskState → Type 0
IsCause fault_at count Memory disk = ⊤
IsCause fault_at count (DamagedTable table at) disk =
    OnSeen (λ s. book_reading fault_at count s ≡ damaged_table table at) disk
IsCause fault_at count (DamagedRow row at) disk =
    OnSeen (λ s. book_reading fault_at count s ≡ damaged_row (record { row = row; at = at })) disk
IsCause fault_at count (StoreFault call) disk = ⊥

abbrev pub IsLocated : {R : Type 0} → (List ℕ → Option ℕ) → (R → List ℕ → Type 0) → ℕ
    → List (Option R) → DiskState → Located → Type 0
IsLocated fault_at has_read count readers disk (Held desk rows) =
    HoldsBook fault_at has_read count readers desk rows.items disk
IsLocated fault_at has_read count readers disk (Refused error) = IsCause fault_at count error disk

-- ---- on the way

-- a fault of a table, as callers are told
abbrev pub table_refusal : Bool → Option ℕ → Option BookOpenError
table_refusal second None = None
table_refusal second (Some at) = Some (DamagedTable (if second then 1 else 0) at)

-- where no table is open
pub record HoldsNone {R : Type 0} (count : ℕ) (readers : List (Option R)) (desk : Desk)
    (rows : List HeldRow) : Type 0 where
  pub count_is : desk.rows ≡ count
  pub store : IsStoreWith desk rows
  pub turn : desk.turn ≡ 0
  pub second : desk.second ≡ true
  pub absent : (store_with desk rows).held ≡ absent BOOK_ROWS
  pub none : readers ≡ replicate BOOK_ROWS None

abbrev pub IsNoneLocated : {R : Type 0} → ℕ → List (Option R) → Located → Type 0
IsNoneLocated count readers (Held desk rows) = HoldsNone count readers desk rows.items
IsNoneLocated count readers (Refused error) = error ≡ Memory

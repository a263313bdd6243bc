-- What opening a book gives, and why it is refused.
use Rattle.std.specs.Prelude.{◌≡◌, ◌≢◌, ℕ, false, true, List, [], Option, Some, Result, OnOk, replicate}
use Rattle.dr_base.specs.Causes.{Rose}
use Rattle.dr_disk.specs.declared.call.Call.{Call}
use Rattle.dr_disk.specs.State.{Always, DiskState, IsSettled, OnSeen}
use Rattle.dr_disk.specs.Spans.{FailsLater, HasFailedAsTold, HavePassed, IsQuiet}
use Rattle.dr_disk.specs.Calls.{Unwritten}
use Rattle.book_store.specs.AtRest.{BookMark, IsBookAtRest, IsBookMarked}
use Rattle.book_store.specs.LikeRead.{IsLikeReadBook}
use Rattle.book_store.specs.Reading.{AreRecords, book_reading, damaged_row, damaged_table, has_rows}
use Rattle.book_store.specs.Shown.{BookRow}
use Rattle.book_store.specs.Staging.{Rests}
use Rattle.book_store.specs.Store.{BookStore, numbers_at}
use Rattle.book_store.specs.declared.errors.BookOpenError.{BookOpenError}
use Rattle.book_store.specs.declared.errors.BookOpenError.TheVariants.{DamagedRow, DamagedTable, StoreFault}
use Rattle.book_store.specs.declared.layout.TheConstants.{BOOK_ROWS}

-- ---- a book that is at rest

-- what a read gives is at rest
pub record IsBookReadAtRest (rows : ℕ) (disk : DiskState) : Type 0 where
  pub bytes : List ℕ
  pub told : disk.seen ≡ Some bytes
  pub mark : BookMark
  pub book : List (Option BookRow)
  pub rests : IsBookAtRest rows mark book bytes

-- no byte was written, and where all went well one sync is all that was called besides reads
pub record IsBookLeft {T E : Type 0} (start now : DiskState) (result : Result T E) : Type 0 where
  pub unwritten : Unwritten start now
  pub one_sync : OnOk result (HavePassed 1 start now)

-- the same table is current, with the same turn, and each of these rows has its pages where it had
-- them
pub record IsSameMark (one other : BookMark) (book : List (Option BookRow)) : Type 0 where
  pub second : one.second ≡ other.second
  pub turn : one.turn ≡ other.turn
  pub numbers : (r : ℕ) → numbers_at one book r ≡ numbers_at other book r

-- ---- a store that was opened

-- no row is staged, and nothing waits to be retired
pub record IsJustOpened (store : BookStore) : Type 0 where
  pub staged : store.staged ≡ replicate BOOK_ROWS false
  pub drops : store.drops ≡ replicate BOOK_ROWS []
  pub replaced : store.replaced ≡ false

-- The store's rows are what was read, with texts of the grammar, and a crash leaves them at rest. A
-- book that was read at rest lies where it lay. Where no table was open the first commit goes to
-- table 0: the other one is the current.
pub record IsBookOpened (fault_at : List ℕ → Option ℕ) (rows : ℕ) (start now : DiskState)
    (store : BookStore) : Type 0 where
  pub rows_are : store.rows ≡ rows
  pub read : OnSeen (λ s. book_reading fault_at rows s ≡ has_rows store.held) start
  pub texts : AreRecords fault_at store.held
  pub marked : IsBookMarked store.rows store.mark store.held
  pub at_rest : Always (λ c. Rests store c × IsLikeReadBook rows start c) now
  pub settled : IsSettled now
  pub opened : IsJustOpened store
  pub first : store.mark.turn ≡ 0 → store.mark.second ≡ true
  pub mark : (s : List ℕ) (mark' : BookMark) (book : List (Option BookRow)) → start.seen ≡ Some s
      → IsBookAtRest rows mark' book s → mark'.turn ≢ 0 → IsSameMark store.mark mark' store.held

-- ---- a refusal

-- no byte was written and no call failed, and one that is told to fail is yet to come
pub record IsLookedAt (start now : DiskState) : Type 0 where
  pub unwritten : Unwritten start now
  pub quiet : IsQuiet start now
  pub ahead : FailsLater start now

-- then the first sync is all that was called besides reads
pub record IsOnlySynced (start now : DiskState) : Type 0 where
  pub looked : IsLookedAt start now
  pub one_sync : HavePassed 1 start now

-- A table or a row is damaged where it is in what was read. A call is named that failed, after
-- which none was made.
pub record IsBookRefused (fault_at : List ℕ → Option ℕ) (rows : ℕ) (start now : DiskState)
    (error : BookOpenError) : Type 0 where
  pub table : (table at : ℕ) → error ≡ DamagedTable table at → IsOnlySynced start now
      × OnSeen (λ s. book_reading fault_at rows s ≡ damaged_table table at) start
  pub row : (row at : ℕ) → error ≡ DamagedRow row at → IsOnlySynced start now
      × OnSeen (λ s. book_reading fault_at rows s
      ≡ damaged_row (record { row = row; at = at })) start
  pub fault : (call : Call) → error ≡ StoreFault call → Rose (start.faults call) (now.faults call)
  pub ended : (call : Call) → error ≡ StoreFault call → HasFailedAsTold start now

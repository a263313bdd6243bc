-- What opening a book comes to, once its tables were read.
use Rattle.std.specs.Prelude.{⊤, ◌+◌, ◌*◌, ℕ, List, Option, Result, Ok, Err, IfOk}
use Rattle.dr_disk.specs.declared.call.Call.{Call}
use Rattle.dr_disk.specs.State.{DiskState}
use Rattle.dr_disk.specs.Spans.{Span}
use Rattle.dr_disk.specs.Called.{Went, itself}
use Rattle.pages.specs.Runs.{IsUntouched}
use Rattle.pages.specs.Counted.{MakesAtMost, ReadsAtMost, lookings, one_of}
use Rattle.book_store.specs.Counts.{settlings}
use Rattle.book_store.specs.Layout.{book_layout}
use Rattle.book_store.specs.LikeRead.{IsLikeReadBook}
use Rattle.book_store.specs.Locating.{IsCause, IsStoreWith, store_with}
use Rattle.book_store.specs.Opened.{IsBookOpened, IsBookReadAtRest}
use Rattle.book_store.specs.Readers.{HaveReadRows}
use Rattle.book_store.specs.Store.{BookStore}
use Rattle.book_store.specs.declared.desk.Desk.{Desk}
use Rattle.book_store.specs.declared.errors.BookOpenError.{BookOpenError}
use Rattle.book_store.specs.declared.errors.BookOpenError.TheVariants.{StoreFault}
use Rattle.book_store.specs.declared.held.HeldRow.{HeldRow}
use Rattle.book_store.specs.declared.locating.Located.{Located}
use Rattle.book_store.specs.declared.locating.Located.TheVariants.{Held, Refused}
use Rattle.book_store.specs.declared.layout.TheConstants.{BOOK_ROWS, ROW_MOST}

-- a store over what was read, whose rows their readers have read
pub record IsStored {R : Type 0} (fault_at : List ℕ → Option ℕ) (has_read : R → List ℕ → Type 0)
    (count : ℕ) (readers : List (Option R)) (start now : DiskState) (desk : Desk)
    (rows : List HeldRow) : Type 0 where
  pub store : IsStoreWith desk rows
  pub opened : IsBookOpened fault_at count start now (store_with desk rows)
  pub read : HaveReadRows has_read readers (store_with desk rows).held

-- or a refusal, and then nothing is called but reads
abbrev pub IsOutcome : {R : Type 0} → (List ℕ → Option ℕ) → (R → List ℕ → Type 0) → ℕ
    → List (Option R) → DiskState → DiskState → Located → Type 0
IsOutcome fault_at has_read count readers start now (Held desk rows) =
    IsStored fault_at has_read count readers start now desk rows.items
IsOutcome fault_at has_read count readers start now (Refused error) =
    IsUntouched start now × IsCause fault_at count error start

-- Each crash meanwhile leaves what was read. What was read at rest stays as it is.
pub record OpensBook {R : Type 0} (fault_at : List ℕ → Option ℕ) (has_read : R → List ℕ → Type 0)
    (count : ℕ) (readers : List (Option R)) (start now : DiskState) (result : Result Located Call)
    : Type 0 where
  pub found : IfOk result (IsOutcome fault_at has_read count readers start now)
  pub any_moment : Span start now (IsLikeReadBook count start)
  pub still : IsBookReadAtRest count start → IsUntouched start now
  pub calls : Went itself start now result
  pub few : MakesAtMost (settlings count) one_of start now result
  pub reads : ReadsAtMost (ROW_MOST * BOOK_ROWS + 2 * lookings (book_layout count)) start now

-- a store can be made of it
abbrev pub IsWhole : Located → Type 0
IsWhole (Held desk rows) = IsStoreWith desk rows.items
IsWhole (Refused error) = ⊤

-- as callers are told
abbrev pub opening_answer : {V : Type 0} → Result Located Call → V
    → Result (BookStore × V) BookOpenError
opening_answer (Ok (Held desk rows)) readers = Ok (store_with desk rows.items, readers)
opening_answer (Ok (Refused error)) readers = Err error
opening_answer (Err call) readers = Err (StoreFault call)

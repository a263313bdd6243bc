-- What crashes leave of a book while its rows change, and what a call that failed leaves.
use Rattle.std.specs.Prelude.{◌≡◌, ◌⊎◌, ℕ, ◌-◌, true, List, Option, Some, Result, OnErr, OnOk, if◌then◌else◌}
use Rattle.dr_disk.specs.declared.call.Call.{Call}
use Rattle.dr_disk.specs.declared.call.Mode.{Mode}
use Rattle.dr_disk.specs.State.{Always, DiskState}
use Rattle.dr_disk.specs.Spans.{Span}
use Rattle.pages.specs.Around.{KeepsOutside, ReadsAround}
use Rattle.pages.specs.Stops.{put_shows, put_took}
use Rattle.book_store.specs.declared.errors.StoreFault.{StoreFault}
use Rattle.book_store.specs.Layout.{book_layout}
use Rattle.book_store.specs.Reading.{IsUndamagedBook}
use Rattle.book_store.specs.Shown.{BookRow, stored_rows}
use Rattle.book_store.specs.Staging.{AwaitsRetire, IsStagedOver, Rests}
use Rattle.book_store.specs.Store.{BookStore}

-- outside of the book these bytes are those of an image of that moment; and a read there gives what
-- it gave
abbrev pub KeepsOutsideBook : ℕ → DiskState → List ℕ → Type 0
KeepsOutsideBook rows = KeepsOutside (book_layout rows)

abbrev pub ReadsOutsideBook : ℕ → DiskState → DiskState → Type 0
ReadsOutsideBook rows = ReadsAround (book_layout rows)

-- these rows are stored, and are read without damage
pub record HasRows (rows : ℕ) (book : List (Option BookRow)) (c : List ℕ) : Type 0 where
  pub are : stored_rows rows c ≡ book
  pub undamaged : IsUndamagedBook rows c

-- and nothing outside the book has changed
pub record KeepsRows (rows : ℕ) (book : List (Option BookRow)) (start : DiskState) (c : List ℕ)
    : Type 0 where
  pub has : HasRows rows book c
  pub frame : KeepsOutsideBook rows start c

-- all rows are the old ones, or all are the new ones
pub record IsOldOrNewBook (rows : ℕ) (old new : List (Option BookRow)) (start : DiskState)
    (c : List ℕ) : Type 0 where
  pub either : HasRows rows old c ⊎ HasRows rows new c
  pub frame : KeepsOutsideBook rows start c

-- after a call that failed, n pages having been staged before: what a crash leaves, and what a read
-- gives
pub record IsBookStopped (rows n : ℕ) (old new : List (Option BookRow)) (start now : DiskState)
    : Type 0 where
  pub crash : (l m : ℕ) (mode : Mode) (c : List ℕ)
      → start.passed ≡ Some l → now.passed ≡ Some m → now.leaves mode ≡ Some c
      → stored_rows rows c ≡ (if put_took n (m - l) mode then new else old)
  pub read : start.keeps ≡ true → (l m : ℕ) (s : List ℕ)
      → start.passed ≡ Some l → now.passed ≡ Some m → now.seen ≡ Some s
      → stored_rows rows s ≡ (if put_shows n (m - l) then new else old)

-- A row is staged: meanwhile and afterwards each crash leaves the rows that stand.
pub record StagesRow {T E : Type 0} (new : BookStore) (standing : List (Option BookRow))
    (start now : DiskState) (result : Result T E) : Type 0 where
  pub any_moment : Span start now (KeepsRows new.rows standing start)
  pub still : Always (KeepsRows new.rows standing start) now
  pub staged : OnOk result (IsStagedOver new standing now)

-- each image has the store's rows, committed and not yet retired
abbrev pub HasCommitted : BookStore → DiskState → List ℕ → Type 0
HasCommitted store start c = AwaitsRetire store c × KeepsRows store.rows store.held start c

-- All staged rows take the place of those that stand, or none does. After a call that failed it is
-- known which.
pub record CommitsRows {T E : Type 0} (new : BookStore) (standing : List (Option BookRow))
    (start now : DiskState) (result : Result T E) : Type 0 where
  pub any_moment : Span start now (IsOldOrNewBook new.rows standing new.held start)
  pub done : OnOk result (Always (HasCommitted new start) now)
  pub stopped : OnErr result (IsBookStopped new.rows 0 standing new.held start now)

-- each image has the store's rows, at rest
abbrev pub HasRetired : BookStore → DiskState → List ℕ → Type 0
HasRetired store start c = Rests store c × KeepsRows store.rows store.held start c

-- the call that failed
abbrev pub call_of : StoreFault → Call
call_of fault = fault.call

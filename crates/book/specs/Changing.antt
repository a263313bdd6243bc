-- Rows of a book change on its disk: they are staged, and all of them are committed at once.
use Rattle.std.specs.Prelude.{List, OnErr, OnOk, Option, Result, if◌then◌else◌, length, nat_lt, ℕ, ◌+◌, ◌-◌, ◌≡◌}
use Rattle.book_store.specs.Committing.{IsBookStopped, IsOldOrNewBook, ReadsOutsideBook, call_of}
use Rattle.book_store.specs.Shown.{BookRow}
use Rattle.book_store.specs.Store.{BookStore, all_drops, committed, retire_calls, retired}
use Rattle.book_store.specs.declared.errors.StoreFault.{StoreFault}
use Rattle.dr_disk.specs.Called.{Called}
use Rattle.dr_disk.specs.Spans.{Span}
use Rattle.dr_disk.specs.State.{DiskState}
use Rattle.dr_disk.specs.declared.call.Call.{Call}
use Rattle.pages.specs.Runs.{FailsBy}
use Rattle.pages.specs.Stops.{put_call, puts, retire_call}
use Rattle.book.specs.Books.{IsStoreReady}

-- how many writes and syncs a change makes of which n pages were staged
abbrev pub change_calls : ℕ → BookStore → ℕ
change_calls n staged = puts n + retire_calls (committed staged)

-- which kind of call comes next, once this many have passed, where d pages are wiped in the end
unfoldable pub change_call : ℕ → ℕ → ℕ → Call
change_call n d passed =
    if nat_lt passed (puts n) then put_call n passed else retire_call d (passed - puts n)

-- how the calls went
pub record GoesThrough {T : Type 0} (n : ℕ) (staged : BookStore) (start now : DiskState)
    (result : Result T StoreFault) : Type 0 where
  pub calls : Called (change_calls n staged) call_of start now result
  pub kind : FailsBy call_of (change_call n (length (all_drops staged))) start now result

-- What is staged over these rows takes their place: in each image all rows are the old ones or all
-- are the new ones. After a call that failed it is known which.
pub record TakesPlaceOf {T : Type 0} (n : ℕ) (staged new : BookStore)
    (standing : List (Option BookRow)) (start now : DiskState) (result : Result T StoreFault)
    : Type 0 where
  pub any_moment : Span start now (IsOldOrNewBook staged.rows standing staged.held start)
  pub stopped : OnErr result (IsBookStopped staged.rows n standing staged.held start now)
  pub next : OnOk result (new ≡ retired (committed staged))
  pub rows : new.rows ≡ staged.rows
  pub ready : OnOk result (IsStoreReady new now)
  pub reads : ReadsOutsideBook staged.rows start now
  pub went : GoesThrough n staged start now result

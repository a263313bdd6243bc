-- How a book is settled: what is asked of a disk, and what its calls leave.
use Rattle.std.specs.Prelude.{◌≡◌, ◌*◌, ℕ, List, Some, Result, OnOk}
use Rattle.dr_disk.specs.State.{Always, DiskState, IsSettled, OnSeen}
use Rattle.dr_disk.specs.Spans.{Span}
use Rattle.dr_disk.specs.declared.call.Call.{Call}
use Rattle.dr_disk.specs.Called.{Went, itself}
use Rattle.pages.specs.Runs.{IsUntouched}
use Rattle.pages.specs.Counted.{MakesAtMost, ReadsAtMost, lookings, one_of}
use Rattle.book_store.specs.AtRest.{IsBookMarked}
use Rattle.book_store.specs.Counts.{settlings}
use Rattle.book_store.specs.Layout.{HasBook, book_layout}
use Rattle.book_store.specs.LikeRead.{IsLikeReadBook}
use Rattle.book_store.specs.Locating.{HasBookShot}
use Rattle.book_store.specs.Staging.{Rests}
use Rattle.book_store.specs.Store.{BookStore}

-- a disk that has the book, and on which a crash leaves what a read gives
pub record IsSettledBook (rows : ℕ) (disk : DiskState) : Type 0 where
  pub within : HasBook rows disk
  pub settled : IsSettled disk

-- All but the store's rows may be wiped: they are what counts, and a crash leaves what a read
-- gives.
pub record MaySettle (store : BookStore) (disk : DiskState) : Type 0 where
  pub ready : IsSettledBook store.rows disk
  pub shown : OnSeen (HasBookShot store) disk
  pub marked : IsBookMarked store.rows store.mark store.held

-- each image rests for the store's rows, as they were read
abbrev pub RestsAsRead : DiskState → BookStore → List ℕ → Type 0
RestsAsRead start store c = Rests store c × IsLikeReadBook store.rows start c

-- what a read gives rests for the store's rows
abbrev pub IsAtRestAsRead : BookStore → DiskState → Type 0
IsAtRestAsRead store disk = (s : List ℕ) × (disk.seen ≡ Some s) × Rests store s

-- Each crash meanwhile leaves what was read. Where no call failed a crash then leaves what a read
-- gives, and the store rests on it. Where it rested on what was read nothing is called but reads.
pub record Settles {T : Type 0} (store : BookStore) (start now : DiskState)
    (result : Result T Call) : Type 0 where
  pub any_moment : Span start now (IsLikeReadBook store.rows start)
  pub done : OnOk result (Always (RestsAsRead start store) now)
  pub settled : OnOk result (IsSettled now)
  pub calls : Went itself start now result
  pub still : IsAtRestAsRead store start → IsUntouched start now
  pub few : MakesAtMost (settlings store.rows) one_of start now result
  pub reads : ReadsAtMost (2 * lookings (book_layout store.rows)) start now

-- How a store and its disk stand: at rest, with rows staged, or committed and not yet retired.
use Rattle.std.specs.Prelude.{◌≡◌, ◌≢◌, ℕ, ◌+◌, ◌*◌, ◌<◌, All, false, not, List, [], Option, None, get_or, map}
use Rattle.dr_disk.specs.State.{DiskState, OnSeen}
use Rattle.pages.specs.Layouts.{blank_page}
use Rattle.pages.specs.Snapshots.{page_of}
use Rattle.pages.specs.Tables.{Comes, table_at}
use Rattle.book_store.specs.AtRest.{BookMark, IsBookAtRest, IsBookMarked, laid_book}
use Rattle.book_store.specs.Desk.{StandsStaged}
use Rattle.book_store.specs.Layout.{HasBook, book_layout}
use Rattle.book_store.specs.Rows.{book_names}
use Rattle.book_store.specs.Shown.{BookRow}
use Rattle.book_store.specs.Store.{BookStore, IsUnstaged, body_of, drops_at, numbers_at, pages_at}
use Rattle.book_store.specs.declared.layout.TheConstants.{ROW_PAGES}

-- a page is none of these
abbrev pub IsNoneIn : ℕ → List ℕ → Type 0
IsNoneIn p numbers = All (λ n. n ≢ p) numbers

-- page p of row r is zeros, unless the row has it or dropped it
abbrev pub IsSpare : BookStore → ℕ → ℕ → List ℕ → Type 0
IsSpare store r p c =
    r < store.rows → p < ROW_PAGES → IsNoneIn p (numbers_at store.mark store.held r)
    → IsNoneIn p (drops_at store r)
    → page_of (book_layout store.rows) c (ROW_PAGES * r + p) ≡ blank_page

-- a row that wasn't staged is the one that stands
pub record IsAsStanding (store : BookStore) (mark : BookMark) (standing : List (Option BookRow))
    (r : ℕ) : Type 0 where
  pub row : get_or store.held r None ≡ get_or standing r None
  pub numbers : get_or store.mark.numbers r [] ≡ get_or mark.numbers r []

-- The rows `standing` stand on the disk, and those of the store are staged over them.
pub record IsStagedOver (store : BookStore) (standing : List (Option BookRow)) (disk : DiskState)
    : Type 0 where
  pub mark : BookMark
  pub marked : IsBookMarked store.rows mark standing
  pub stands : StandsStaged store.rows store.mark.second store.mark.turn (body_of store)
      (laid_book mark standing) (pages_at store.held) disk
  pub same : (r : ℕ) → IsUnstaged store r → IsAsStanding store mark standing r
  -- before the first commit no row has a page to drop
  pub first : store.mark.turn ≡ 0 → (r : ℕ) → drops_at store r ≡ []
  pub spare : (r p : ℕ) → OnSeen (IsSpare store r p) disk

-- rows may be staged and committed
pub record MayStage (store : BookStore) (disk : DiskState) : Type 0 where
  pub within : HasBook store.rows disk
  pub standing : List (Option BookRow)
  pub over : IsStagedOver store standing disk

-- these bytes are at rest for the store's rows
unfoldable pub Rests : BookStore → List ℕ → Type 0
Rests store c = IsBookAtRest store.rows store.mark store.held c

-- Committed and not yet retired: the rows stand and their table is newer than the other, and all
-- pages are zeros but for theirs and those that they dropped. Where no table was replaced the book
-- is at rest.
pub record IsCommittedBook (store : BookStore) (c : List ℕ) : Type 0 where
  pub current : table_at (book_layout store.rows) store.mark.second c
      ≡ (laid_book store.mark store.held).table
  pub pages : map (page_of (book_layout store.rows) c)
      (book_names (laid_book store.mark store.held).table.body)
      ≡ (laid_book store.mark store.held).pages
  pub comes : Comes (table_at (book_layout store.rows) (not store.mark.second) c)
      (laid_book store.mark store.held).table
  pub spare : (r p : ℕ) → IsSpare store r p c
  pub marked : IsBookMarked store.rows store.mark store.held
  pub alone : store.replaced ≡ false → IsBookAtRest store.rows store.mark store.held c

unfoldable pub AwaitsRetire : BookStore → List ℕ → Type 0
AwaitsRetire store c = IsCommittedBook store c

-- Rows whose records are in an earlier version are staged in the newest one.
use Rattle.std.specs.Prelude.{Bool, List, None, Ok, Option, Some, false, get_or, length, true, ℕ, ◌*◌, ◌+◌, ◌<◌, ◌≤◌, ◌≡◌}
use Rattle.book_model.specs.Rows.{Row, Rows}
use Rattle.pages.specs.Counted.{one_of}
use Rattle.pages.specs.Stops.{puts, retires}
use Rattle.book_store.specs.Committing.{KeepsRows, ReadsOutsideBook, StagesRow, call_of}
use Rattle.book_store.specs.Shown.{BookRow}
use Rattle.book_store.specs.Staging.{IsStagedOver}
use Rattle.book_store.specs.Store.{BookStore, drops_at, with_row}
use Rattle.book_store.specs.declared.errors.StoreFault.{StoreFault}
use Rattle.book_store.specs.declared.layout.TheConstants.{ROW_MOST}
use Rattle.dr_disk.specs.Called.{Went}
use Rattle.dr_disk.specs.Spans.{Span}
use Rattle.dr_disk.specs.State.{Always, DiskState}
use Rattle.session_model.specs.Clients.{Client}
use Rattle.session_record.specs.Record.{record_text}
use Rattle.book.specs.Rows.{stored_row}

-- ---- how many calls

-- how many of a fault's call are a write or a sync
abbrev pub missed_by : StoreFault → ℕ
missed_by fault = one_of fault.call

-- each row's pages are written, all rows are committed, and as many pages are wiped
abbrev pub renewings : ℕ → ℕ
renewings rows = ROW_MOST * rows + (puts 0 + retires (ROW_MOST * rows))

-- no row dropped more pages than a record has
abbrev pub HasFewDrops : BookStore → Type 0
HasFewDrops store = (r : ℕ) → length (drops_at store r) ≤ ROW_MOST

-- ---- row by row

-- a row's record was staged in the newest version
pub record IsStagedNewest (at : ℕ) (row : Option (Row Client)) (old new : BookStore)
    (start now : DiskState) : Type 0 where
  pub session : Row Client
  pub row_is : row ≡ Some session
  pub next : new ≡ with_row old at session.name (record_text session.kept)
  pub stages : (standing : List (Option BookRow)) → IsStagedOver old standing start
      → StagesRow {T = Unit} {E = StoreFault} new standing start now (Ok tt)
  pub reads : ReadsOutsideBook old.rows start now
  pub went : Went {T = Unit} call_of start now (Ok tt)

-- or it is in the newest version, or the row is absent
abbrev pub RenewsRow : {X : Type 0} → (X → DiskState) → Bool → ℕ → Option (Row Client) → BookStore → BookStore → X → X
    → Type 0
RenewsRow state true at row old new start now =
    IsStagedNewest at row old new (state start) (state now)
RenewsRow state false at row old new start now =
    (new ≡ old) × (now ≡ start) × (get_or old.held at None ≡ stored_row row)

-- The first i rows are those of these sessions in the newest version, staged over those that stand
-- where they weren't.
pub record Renews (rows : Rows Client) (first store : BookStore) (start now : DiskState) (i : ℕ)
    : Type 0 where
  pub rows_are : store.rows ≡ first.rows
  pub long : length store.held ≡ length first.held
  pub done : (r : ℕ) → r < i → get_or store.held r None ≡ stored_row (get_or rows r None)
  pub later : (r : ℕ) → i ≤ r → get_or store.held r None ≡ get_or first.held r None
  pub unstaged : (r : ℕ) → i ≤ r → get_or store.staged r true ≡ get_or first.staged r true
  pub over : IsStagedOver store first.held now
  pub any_moment : Span start now (KeepsRows first.rows first.held start)
  pub still : Always (KeepsRows first.rows first.held start) now
  pub reads : ReadsOutsideBook first.rows start now
  pub went : Went {T = Unit} call_of start now (Ok tt)

-- What callers see of a store: its rows in memory, and where they lie.
use Rattle.std.specs.Prelude.{◌≡◌, ◌≢◌, ℕ, ◌≤◌, ◌==◌, not, true, Bool, false, All, List, [], Option, None, Some, get_or, if◌then◌else◌, length, replicate, slice_set}
use Rattle.pages.specs.Stops.{retires}
use Rattle.pages.specs.Tables.{turn_after}
use Rattle.record_pages.specs.Pages.{pages_in}
use Rattle.record_pages.specs.Plans.{changed, dropped, numbered}
use Rattle.record_pages.specs.Tables.{entry_fault}
use Rattle.book_store.specs.AtRest.{BookMark, row_marks, row_pages}
use Rattle.book_store.specs.Kept.{free_of_row}
use Rattle.book_store.specs.Marks.{AreMarks, book_body}
use Rattle.book_store.specs.Rows.{names_by}
use Rattle.book_store.specs.Shown.{BookRow, absent}
use Rattle.book_store.specs.declared.layout.TheConstants.{BOOK_ROWS, ROW_PAGES}

pub record BookStore : Type 0 where
  -- so many rows may be present
  pub rows : ℕ
  -- which table is current, its turn, and the numbers of each row's pages
  pub mark : BookMark
  -- the rows, with those that were staged
  pub held : List (Option BookRow)
  -- which of them were staged since the last retire, and the numbers of pages that they dropped
  pub staged : List Bool
  pub drops : List (List ℕ)
  -- the last commit took the place of an open table
  pub replaced : Bool

-- ---- a row

-- an absent row has no pages
abbrev pub numbers_of : Option BookRow → List ℕ → List ℕ
numbers_of None own = []
numbers_of (Some row) own = own

abbrev pub numbers_at : BookMark → List (Option BookRow) → ℕ → List ℕ
numbers_at mark book r = numbers_of (get_or book r None) (get_or mark.numbers r [])

abbrev pub pages_at : List (Option BookRow) → ℕ → List (List ℕ)
pages_at book r = row_pages (get_or book r None)

-- how many pages of a row a text writes
abbrev pub writes_at : BookStore → ℕ → List ℕ → ℕ
writes_at store r text = length (changed (pages_at store.held r) (pages_in text))

-- ---- what a call makes of a store

-- with another row, whose changed pages have these numbers, and which dropped those
abbrev pub with_staged : BookStore → ℕ → Option BookRow → List ℕ → List ℕ → BookStore
with_staged store r row numbers gone = record {
  rows = store.rows;
  mark = record {
    second = store.mark.second;
    turn = store.mark.turn;
    numbers = slice_set store.mark.numbers r numbers;
  };
  held = slice_set store.held r row;
  staged = slice_set store.staged r true;
  drops = slice_set store.drops r gone;
  replaced = store.replaced;
}

-- a row is staged: each page that changes gets the next free number of the row
abbrev pub with_row : BookStore → ℕ → List ℕ → List ℕ → BookStore
with_row store r name text =
    with_staged store r (Some (record { name = name; text = text }))
    (numbered (pages_at store.held r) (numbers_at store.mark store.held r) (pages_in text)
    (free_of_row (numbers_at store.mark store.held r)))
    (dropped (pages_at store.held r) (numbers_at store.mark store.held r) (pages_in text))

-- a row is staged to be absent
abbrev pub without_row : BookStore → ℕ → BookStore
without_row store r = with_staged store r None [] (numbers_at store.mark store.held r)

-- the other table is current, with the turn that follows
abbrev pub committed : BookStore → BookStore
committed store = record {
  rows = store.rows;
  mark = record {
    second = not store.mark.second;
    turn = turn_after store.mark.turn;
    numbers = store.mark.numbers;
  };
  held = store.held;
  staged = store.staged;
  drops = store.drops;
  replaced = not (store.mark.turn == 0);
}

-- no row is staged
abbrev pub retired : BookStore → BookStore
retired store = record {
  rows = store.rows;
  mark = store.mark;
  held = store.held;
  staged = replicate BOOK_ROWS false;
  drops = replicate BOOK_ROWS [];
  replaced = store.replaced;
}

-- ---- a store of zeros

-- all rows are absent, no table is open, and table 0 comes next
abbrev pub empty_store : ℕ → BookStore
empty_store rows = record {
  rows = rows;
  mark = record { second = true; turn = 0; numbers = replicate BOOK_ROWS [] };
  held = absent BOOK_ROWS;
  staged = replicate BOOK_ROWS false;
  drops = replicate BOOK_ROWS [];
  replaced = false;
}

-- ---- what holds of every store

-- the table to come, after its gate
abbrev pub body_of : BookStore → List ℕ
body_of store = book_body store.mark.turn (row_marks store.held store.mark.numbers)

-- the pages that were dropped, by row
abbrev pub drops_at : BookStore → ℕ → List ℕ
drops_at store r = get_or store.drops r []

abbrev pub all_drops : BookStore → List ℕ
all_drops store = names_by store.rows 0 (drops_at store)

-- how many writes and syncs the next retire makes
abbrev pub retire_calls : BookStore → ℕ
retire_calls store = if store.replaced then retires (length (all_drops store)) else 0

-- a place for each row, of which those that are present can be said in a table; only a row that was
-- staged dropped pages, each once, and none is one of those that it has
pub record IsLawfulStore (store : BookStore) : Type 0 where
  pub few : store.rows ≤ BOOK_ROWS
  pub high : store.mark.turn ≤ 3
  pub held_all : length store.held ≡ BOOK_ROWS
  pub numbers_all : length store.mark.numbers ≡ BOOK_ROWS
  pub staged_all : length store.staged ≡ BOOK_ROWS
  pub drops_all : length store.drops ≡ BOOK_ROWS
  pub marks : AreMarks store.rows (row_marks store.held store.mark.numbers)
  pub none : (r : ℕ) → get_or store.staged r true ≡ false → drops_at store r ≡ []
  pub drops : (r : ℕ) → entry_fault 0 ROW_PAGES [] 6 (drops_at store r) ≡ None
  pub apart : (r : ℕ)
      → All (λ n. All (λ m. m ≢ n) (numbers_at store.mark store.held r)) (drops_at store r)

-- ---- what a caller of `stage` knows

abbrev pub IsUnstaged : BookStore → ℕ → Type 0
IsUnstaged store r = get_or store.staged r true ≡ false

-- no other row has this name
abbrev pub IsNewName : BookStore → ℕ → List ℕ → Type 0
IsNewName store row name = (r : ℕ) (other : BookRow) → r ≢ row
    → get_or store.held r None ≡ Some other → other.name ≢ name

-- ---- what callers are told of a row

abbrev pub text_of_row : Option BookRow → List ℕ
text_of_row None = []
text_of_row (Some row) = row.text

abbrev pub text_at : List (Option BookRow) → ℕ → List ℕ
text_at book r = text_of_row (get_or book r None)

abbrev pub name_of_row : Option BookRow → Option (List ℕ)
name_of_row None = None
name_of_row (Some row) = Some row.name

abbrev pub name_at : List (Option BookRow) → ℕ → Option (List ℕ)
name_at book r = name_of_row (get_or book r None)

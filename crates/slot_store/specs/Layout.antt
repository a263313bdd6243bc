-- An area at rest, laid out from its record and its mark.
use Rattle.std.specs.Prelude.{◌≡◌, ◌⊎◌, ℕ, ◌+◌, ◌-◌, ◌*◌, ◌≤◌, ◌<◌, Bool, false, not, List, [], length, map, slice_index, Option, Some, None}
use Rattle.dr_base.specs.declared.limits.TheConstants.{PAGE}
use Rattle.pages.specs.Layouts.{IsPage, blank_page}
use Rattle.pages.specs.Tables.{Comes, turn_after, open_table, table_at, wiped}
use Rattle.pages.specs.Snapshots.{IsBeside, Snapshot, page_of}
use Rattle.pages.specs.Writing.{IsOneOf}
use Rattle.pages.specs.Resting.{IsShotAtRest as AreAtRest}
use Rattle.record_pages.specs.Pages.{page_count, pages_in}
use Rattle.record_pages.specs.Plans.{numbered}
use Rattle.record_pages.specs.Tables.{entry_fault, record_names, table_body}
use Rattle.paged_records.specs.Bounded.{free_in as free_of}
use Rattle.slot_store.specs.Areas.{Area, Fits, bounds_of, layout_of}

-- which table is current, table 1 or table 0, its turn, and the numbers of the record's pages
pub record Mark : Type 0 where
  pub second : Bool
  pub turn : ℕ
  pub numbers : List ℕ

-- of a record that fits: a turn, and the numbers of its pages, each once
pub record IsMarked (area : Area) (mark : Mark) (text : List ℕ) : Type 0 where
  pub low : 1 ≤ mark.turn
  pub high : mark.turn ≤ 3
  pub fits : Fits area text
  pub each : length mark.numbers ≡ page_count (length text)
  pub entries : entry_fault 2 area.pages [] 6 mark.numbers ≡ None

abbrev pub pages_held : Option (List ℕ) → List (List ℕ)
pages_held None = []
pages_held (Some text) = pages_in text

-- the numbers that no page of the record has, ascending
abbrev pub free_in : Area → List ℕ → List ℕ
free_in area = free_of (bounds_of area)

-- the mark of the next record: the other table, the turn that follows, and for each page that changes the next free number
abbrev pub next_mark : Area → Option (List ℕ) → Mark → List ℕ → Mark
next_mark area old mark text = record {
  second = not mark.second;
  turn = turn_after mark.turn;
  numbers = numbered (pages_held old) mark.numbers (pages_in text) (free_in area mark.numbers);
}

-- the table after its gate
abbrev pub table_for : Mark → List ℕ → List ℕ
table_for mark text =
    table_body mark.turn (length text) mark.numbers (PAGE - (6 + 2 * length mark.numbers))

-- a record's open table and its pages, or a table of zeros
abbrev pub laid : Mark → Option (List ℕ) → Snapshot
laid mark (Some text) = record {
  second = mark.second;
  table = open_table (table_for mark text);
  pages = pages_in text;
}
laid mark None = record { second = mark.second; table = wiped PAGE; pages = [] }

-- at rest: the record stands, and the other table and all pages that aren't its own are zeros
abbrev pub IsLaidOut : Area → Mark → Option (List ℕ) → List ℕ → Type 0
IsLaidOut area mark text c = AreAtRest record_names (layout_of area) (laid mark text) c

-- Put and not yet retired: the record stands and is newer than what the other table says, and all other pages are zeros, but
-- for those that are to be wiped. Where no record was replaced it is at rest.
pub record IsPut (area : Area) (mark : Mark) (text : Option (List ℕ)) (replaced : Bool) (dropped : List ℕ) (c : List ℕ) : Type 0
  where
    pub current : table_at (layout_of area) mark.second c ≡ (laid mark text).table
    pub pages : map (page_of (layout_of area) c) (record_names (laid mark text).table.body) ≡ (laid mark text).pages
    pub comes : Comes (table_at (layout_of area) (not mark.second) c) (laid mark text).table
    pub beside : (j : ℕ) → j < length dropped
        → IsBeside record_names (layout_of area) (slice_index dropped j) (laid mark text).table
    pub blank : (m : ℕ) → IsPage (layout_of area) m
        → IsBeside record_names (layout_of area) m (laid mark text).table
        → IsOneOf m dropped ⊎ (page_of (layout_of area) c m ≡ blank_page)
    pub alone : replaced ≡ false → IsLaidOut area mark text c

-- A store as its rows in memory show it.
use Rattle.std.specs.Prelude.{ℕ, Bool, List, [], ◌∷◌, Option, None, Some, get_or, if◌then◌else◌, map}
use Rattle.book_store.specs.Kept.{text_of}
use Rattle.book_store.specs.Rows.{names_by}
use Rattle.book_store.specs.Shown.{BookRow}
use Rattle.book_store.specs.Store.{BookStore}
use Rattle.book_store.specs.declared.held.HeldRow.{HeldRow}
use Rattle.book_store.specs.declared.layout.TheConstants.{BOOK_ROWS}

abbrev pub seen_as : Option (List ℕ) → List ℕ → Option BookRow
seen_as None text = None
seen_as (Some name) text = Some (record { name = name; text = text })

abbrev pub row_seen : HeldRow → Option BookRow
row_seen row = seen_as row.name (text_of row.kept)

abbrev pub numbers_seen : HeldRow → List ℕ
numbers_seen row = row.kept.numbers.items

-- the pages that rows have
unfoldable pub held_names : List HeldRow → List ℕ
held_names rows = names_by BOOK_ROWS 0 (λ r. get_or (map numbers_seen rows) r [])

-- what those rows dropped that were staged
abbrev pub drops_seen : List Bool → List HeldRow → List (List ℕ)
drops_seen [] rows = []
drops_seen (staged ∷ more) [] = []
drops_seen (staged ∷ more) (row ∷ rows) =
    (if staged then row.dropped.items else []) ∷ drops_seen more rows

abbrev pub store_seen : ℕ → Bool → ℕ → List HeldRow → List Bool → Bool → BookStore
store_seen count second turn rows staged replaced = record {
  rows = count;
  mark = record { second = second; turn = turn; numbers = map numbers_seen rows };
  held = map row_seen rows;
  staged = staged;
  drops = drops_seen staged rows;
  replaced = replaced;
}

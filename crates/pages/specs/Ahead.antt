-- Pages that were read ahead of the one that is looked at.
use Rattle.std.specs.Prelude.{◌≡◌, ℕ, ◌-◌, ◌<◌, ◌≤◌, List}
use Rattle.pages.specs.declared.layout.Layout.{Layout}
use Rattle.pages.specs.declared.rows.Ahead.{Ahead}
use Rattle.pages.specs.Layouts.{IsPage, blank_page, page_place}
use Rattle.pages.specs.Rows.{row_page}
use Rattle.pages.specs.Snapshots.{page_of}

-- a page was read ahead
pub record IsHeld (ahead : Ahead) (number : ℕ) : Type 0 where
  pub first : ahead.first ≤ number
  pub last : number - ahead.first < ahead.count

-- From this page on: those that were read ahead are as a read gives them, and those from the end on
-- are zeros.
pub record IsAhead (l : Layout) (number : ℕ) (ahead : Ahead) (bytes s : List ℕ) : Type 0 where
  pub held : (m : ℕ) → IsPage l m → number ≤ m → IsHeld ahead m
      → row_page bytes (m - ahead.first) ≡ page_of l s m
  pub past : (m : ℕ) → IsPage l m → number ≤ m → ahead.end ≤ page_place l m
      → page_of l s m ≡ blank_page

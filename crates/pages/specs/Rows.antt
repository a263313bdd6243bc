-- Pages that lie in a row.
use Rattle.std.specs.Prelude.{ℕ, ◌+◌, ◌*◌, ◌<◌, ◌≤◌, List, slice_range}
use Rattle.dr_base.specs.declared.limits.TheConstants.{PAGE}
use Rattle.pages.specs.declared.layout.Layout.{Layout}
use Rattle.pages.specs.declared.layout.TheConstants.{LOWER_PAGES}

-- so many pages from one on, all of them lower ones or all upper ones
pub record IsRow (l : Layout) (number count : ℕ) : Type 0 where
  pub least : l.least ≤ number
  pub some : 1 ≤ count
  pub inside : number + count ≤ l.count
  pub lower : number < LOWER_PAGES → number + count ≤ LOWER_PAGES

-- the page at a place of these bytes
abbrev pub row_page : List ℕ → ℕ → List ℕ
row_page bytes j = slice_range bytes (PAGE * j) (PAGE * j + PAGE)

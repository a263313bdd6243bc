-- Where a store lies on its disk.
use Rattle.std.specs.Prelude.{ℕ, ◌+◌, ◌*◌, ◌^◌, ◌<◌, ◌≤◌, List, Vec}
use Rattle.dr_base.specs.declared.limits.TheConstants.{PAGE}
use Rattle.pages.specs.declared.layout.Layout.{Layout}
use Rattle.pages.specs.declared.layout.TheConstants.{LOWER_PAGES}
use Rattle.pages.specs.Areas.{area_end as end_of, area_layout}
use Rattle.pages.specs.Around.{IsInside as IsInsideAll, IsOutside as IsOutsideAll, IsSameOutside as IsSameAround}
use Rattle.record_pages.specs.declared.limits.TheConstants.{NAMED_LIMIT, NUMBER_LIMIT}
use Rattle.paged_records.specs.Bounded.{Bounds, Fits as FitsBounds, HasRecordMemory as HasBoundedMemory, HasText as HasBoundedText}

-- So many pages, of which the first two are the tables: the first `LOWER_PAGES` lie from `start` on, the others from `upper` on.
-- The most pages of a record.
pub record Area : Type 0 where
  pub start : ℕ
  pub upper : ℕ
  pub pages : ℕ
  pub most : ℕ

-- where its last page ends
abbrev pub area_end : Area → ℕ
area_end area = end_of area.start area.upper area.pages

-- What holds of every area: there is room for the pages of two records, each number has two bytes, one table names all pages of a
-- record, the upper pages lie behind the lower ones, and no place is 2^64 or more.
pub record IsArea (area : Area) : Type 0 where
  pub least : 2 + 2 * area.most ≤ area.pages
  pub short : area.pages ≤ NUMBER_LIMIT
  pub named : area.most ≤ NAMED_LIMIT
  pub behind : area.start + PAGE * LOWER_PAGES ≤ area.upper
  pub upper : area.upper < 2 ^ 64
  pub ends : area_end area < 2 ^ 64

-- its tables and pages
abbrev pub layout_of : Area → Layout
layout_of area = area_layout area.start area.upper area.pages

-- a place in one of its tables and pages, and one in none of them
abbrev pub IsInArea : Area → ℕ → Type 0
IsInArea area = IsInsideAll (layout_of area)

abbrev pub IsOutsideArea : Area → ℕ → Type 0
IsOutsideArea area = IsOutsideAll (layout_of area)

-- bytes that are the same outside of its tables and pages
abbrev pub IsSameOutsideArea : Area → List ℕ → List ℕ → Type 0
IsSameOutsideArea area = IsSameAround (layout_of area)

-- which pages a record may have
abbrev pub bounds_of : Area → Bounds
bounds_of area = record { least = 2; count = area.pages; most = area.most }

-- memory in which any record of the area lies, or can come to lie without more
abbrev pub HasRecordMemory : {Z : Type 0} → Area → Vec ℕ Z → Type 0
HasRecordMemory area = HasBoundedMemory (bounds_of area)

-- the first `len` bytes are a text that an area has room for. They stand in memory for any, as long as
-- the text's pages at least.
abbrev pub HasText : {Z : Type 0} → Area → Vec ℕ Z → ℕ → Type 0
HasText area = HasBoundedText (bounds_of area)

-- a text has no more pages than a record may have
abbrev pub Fits : Area → List ℕ → Type 0
Fits area = FitsBounds (bounds_of area)

-- Which pages a record may have, and the memory for it.
use Rattle.std.specs.Prelude.{ℕ, ◌+◌, ◌-◌, ◌*◌, ◌≤◌, List, Vec, length, vec_capacity}
use Rattle.dr_base.specs.declared.limits.TheConstants.{PAGE}
use Rattle.record_pages.specs.declared.limits.TheConstants.{NAMED_LIMIT, NUMBER_LIMIT}
use Rattle.record_pages.specs.Pages.{page_count}
use Rattle.record_pages.specs.Plans.{free_from}

-- the numbers of pages, from `least` to below `count`, and the most pages of a record
pub record Bounds : Type 0 where
  pub least : ℕ
  pub count : ℕ
  pub most : ℕ

-- there is room for the pages of two records, each number has two bytes, and one table names all pages
-- of a record
pub record IsBounded (bounds : Bounds) : Type 0 where
  pub least : bounds.least + 2 * bounds.most ≤ bounds.count
  pub short : bounds.count ≤ NUMBER_LIMIT
  pub named : bounds.most ≤ NAMED_LIMIT

-- memory in which any such record lies, or can come to lie without more
abbrev pub HasRecordMemory : {Z : Type 0} → Bounds → Vec ℕ Z → Type 0
HasRecordMemory bounds bytes = PAGE * bounds.most ≤ vec_capacity bytes

-- the first `len` bytes are a text that there is room for: they stand in memory for any, as long as
-- the text's pages at least
pub record HasText {Z : Type 0} (bounds : Bounds) (text : Vec ℕ Z) (len : ℕ) : Type 0 where
  pub memory : HasRecordMemory bounds text
  pub room : PAGE * page_count len ≤ length text.items
  pub few : len ≤ PAGE * bounds.most

-- a text has no more pages than a record may have
abbrev pub Fits : Bounds → List ℕ → Type 0
Fits bounds text = page_count (length text) ≤ bounds.most

-- the numbers that no page of the record has, ascending
abbrev pub free_in : Bounds → List ℕ → List ℕ
free_in bounds numbers = free_from numbers (bounds.count - bounds.least) bounds.least

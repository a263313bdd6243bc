-- A row's record in memory.
use Rattle.std.specs.Prelude.{◌≡◌, ◌*◌, ◌≤◌, ◌<◌, ℕ, All, List, [], None, Vec, length, take, vec_capacity}
use Rattle.dr_base.specs.declared.limits.TheConstants.{PAGE}
use Rattle.paged_records.specs.declared.kept.Kept.{Kept}
use Rattle.paged_records.specs.declared.draft.Draft.{Draft}
use Rattle.paged_records.specs.Bounded.{Bounds, HasRecordMemory, free_in}
use Rattle.paged_records.specs.Memory.{HasPlanRoom}
use Rattle.record_pages.specs.Pages.{pages_in}
use Rattle.record_pages.specs.Plans.{changed_places, dropped, numbered}
use Rattle.record_pages.specs.Tables.{entry_fault}
use Rattle.book_store.specs.Rows.{shifted}
use Rattle.book_store.specs.declared.layout.TheConstants.{ROW_MOST, ROW_PAGES}

-- a row's own pages, and how many a record has of them at most
abbrev pub row_bounds : Bounds
row_bounds = record { least = 0; count = ROW_PAGES; most = ROW_MOST }

-- numbers of a row's pages, no more than a record has
pub record AreOwnNumbers (numbers : List ℕ) : Type 0 where
  pub few : length numbers ≤ ROW_MOST
  pub own : All (λ n. n < ROW_PAGES) numbers

-- a record that a row may have, in memory for any
pub record IsRowRecord (kept : Kept) : Type 0 where
  pub few : kept.len ≤ PAGE * ROW_MOST
  pub long : HasRecordMemory row_bounds kept.bytes
  pub entries : entry_fault 0 ROW_PAGES [] 6 kept.numbers.items ≡ None
  pub numbers : ROW_MOST ≤ vec_capacity kept.numbers

-- room for a row's plan, and for the numbers of the pages that it writes
abbrev pub HasStagingRoom : {Z : Type 0} → Draft → Vec ℕ Z → Type 0
HasStagingRoom draft fresh = HasPlanRoom row_bounds draft × (ROW_PAGES ≤ vec_capacity fresh)

abbrev pub text_of : Kept → List ℕ
text_of kept = take kept.len kept.bytes.items

-- the row's numbers that aren't among these, ascending
unfoldable pub free_of_row : List ℕ → List ℕ
free_of_row numbers = free_in row_bounds numbers

-- as the book's: of those pages of a row that its record doesn't have
abbrev pub row_free : ℕ → Kept → List ℕ
row_free row kept = shifted row (free_of_row kept.numbers.items)

-- how many of its pages a text writes, those that the record doesn't have at their place
abbrev pub row_writes : Kept → List ℕ → ℕ
row_writes kept text = length (changed_places 0 (pages_in (text_of kept)) (pages_in text))

-- and their numbers, the lowest of the free ones
abbrev pub row_fresh : ℕ → Kept → List ℕ → List ℕ
row_fresh row kept text = shifted row (take (row_writes kept text) (free_of_row kept.numbers.items))

-- a text in place of a record: the numbers of its pages, and those that it dropped
pub record IsReplacedBy (old new : Kept) (text gone : List ℕ) : Type 0 where
  pub record_is : IsRowRecord new
  pub text_is : text_of new ≡ text
  pub numbers : new.numbers.items
      ≡ numbered (pages_in (text_of old)) old.numbers.items (pages_in text)
      (free_of_row old.numbers.items)
  pub gone_is : gone ≡ dropped (pages_in (text_of old)) old.numbers.items (pages_in text)

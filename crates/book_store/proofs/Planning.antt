-- What is planned for a row in memory, as the code has it.
use Rattle.std.proofs.Common.{◌≡◌, ℕ, ◌<◌, ◌≤◌, List, length, take, sym, ◌∙◌, ap, subst, arith}
use Rattle.std.specs.Prelude.{All}
use Rattle.record_pages.specs.Pages.{pages_in}
use Rattle.record_pages.specs.Plans.{changed_places}
use Rattle.record_pages.proofs.ChangedPlaces.{places_count}
use Rattle.record_pages.proofs.Filled.{pages_in_long}
use Rattle.record_pages.proofs.Renumbered.{changed_few}
use Rattle.paged_records.specs.declared.kept.Kept.{Kept}
use Rattle.paged_records.specs.Bounded.{Bounds, Fits, free_in}
use Rattle.paged_records.proofs.Replanned.{IsKept, kept_is}
use Rattle.book_store.specs.Kept.{IsRowRecord, free_of_row, row_bounds, row_fresh, text_of}
use Rattle.book_store.specs.Rows.{shifted}
use Rattle.book_store.specs.declared.layout.TheConstants.{ROW_PAGES}
use Rattle.book_store.proofs.RowPlans.{own_long, own_small}

pub free_is : (b : Bounds) (numbers free : List ℕ) → b ≡ row_bounds → free ≡ free_in b numbers
    → free ≡ free_of_row numbers
unfolding free_of_row
free_is b numbers free is filled = filled ∙ ap (λ (b : Bounds). free_in b numbers) is

module _ (row : ℕ) (old : Kept) (was : IsRowRecord old) (text : List ℕ) (fits : Fits row_bounds text)
    (free places : List ℕ) (k : ℕ) (free_are : free ≡ free_of_row old.numbers.items)
    (places_are : places ≡ changed_places 0 (pages_in (text_of old)) (pages_in text))
    (k_is : k ≡ length places) where
  pub kept : IsKept row_bounds old.len old.bytes.items old.numbers.items
  kept = kept_is row_bounds old was.few was.entries

  abbrev planned : List ℕ
  planned = changed_places 0 (pages_in (text_of old)) (pages_in text)

  counts : k ≡ length planned
  counts = k_is ∙ ap (λ (l : List ℕ). length l) places_are

  taken_is : take k free ≡ take (length planned) (free_of_row old.numbers.items)
  taken_is = ap (λ n. take n free) counts ∙ ap (take (length planned)) free_are

  pub taken_long : k ≡ length (take k free)
  taken_long = counts
      ∙ sym (own_long row old.len old.bytes.items old.numbers.items kept text fits)
      ∙ sym (ap (λ (l : List ℕ). length l) taken_is)

  pub taken_small : All (λ n. n < ROW_PAGES) (take k free)
  taken_small = subst (All (λ n. n < ROW_PAGES)) (sym taken_is)
      (own_small row old.len old.bytes.items old.numbers.items kept text fits)

  pub taken_few : length (take k free) ≤ ROW_PAGES
  taken_few = omega (
    arith,
    taken_long,
    counts,
    places_count 0 (pages_in (text_of old)) (pages_in text),
    changed_few (pages_in (text_of old)) (pages_in text),
    pages_in_long text,
    fits,
  )

  pub fresh_is : (out : List ℕ) → out ≡ shifted row (take k free) → out ≡ row_fresh row old text
  fresh_is out is = is ∙ ap (shifted row) taken_is

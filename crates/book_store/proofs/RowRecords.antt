-- A row's record that is staged, as the code has it.
use Rattle.std.proofs.Common.{◌≡◌, ℕ, ◌<◌, ◌≤◌, List, length, sym, ◌∙◌, ap, subst, arith}
use Rattle.std.specs.Prelude.{All}
use Rattle.std.proofs.lemmas.List.Elements.{All-weaker}
use Rattle.dr_disk.specs.State.{DiskState}
use Rattle.pages.specs.Layouts.{IsSound}
use Rattle.pages.specs.Snapshots.{Snapshot}
use Rattle.pages.specs.Writing.{AreBeside, AreToWrite, AreUnnamed}
use Rattle.record_pages.specs.declared.limits.TheConstants.{NUMBER_LIMIT}
use Rattle.record_pages.specs.Pages.{cut, page_count, pages_in}
use Rattle.record_pages.specs.Plans.{changed_places, numbered}
use Rattle.record_pages.proofs.LawfulEntries.{IsEntry, entries_lawful}
use Rattle.paged_records.specs.declared.kept.Kept.{Kept}
use Rattle.paged_records.specs.Bounded.{Fits}
use Rattle.paged_records.proofs.Paging.{each_of}
use Rattle.paged_records.proofs.Replanned.{IsKept, held_few, kept_is, old_pages}
use Rattle.book_store.specs.Desk.{IsRowPlan}
use Rattle.book_store.specs.Kept.{IsRowRecord, free_of_row, row_bounds, row_free, row_fresh, row_writes, text_of}
use Rattle.book_store.specs.Layout.{book_layout}
use Rattle.book_store.specs.Rows.{book_names}
use Rattle.book_store.specs.declared.layout.TheConstants.{ROW_MOST, ROW_PAGES}
use Rattle.book_store.proofs.RowPlans.{bounded, fresh_long, row_plan, to_write}

pub row_kept : (kept : Kept) → IsRowRecord kept → IsKept row_bounds kept.len kept.bytes.items kept.numbers.items
row_kept kept is = kept_is row_bounds kept is.few is.entries

-- ---- the record that was put

module _ (new : Kept) (is : IsRowRecord new) (ns : List ℕ) (ns_are : ns ≡ new.numbers.items) where
  pub staged_few : length ns ≤ ROW_MOST
  staged_few = omega (
    arith,
    ap (λ (l : List ℕ). length l) ns_are,
    held_few row_bounds bounded new.len new.bytes.items new.numbers.items (row_kept new is),
  )

  pub staged_small : All (λ n. n < NUMBER_LIMIT) ns
  staged_small = subst (All (λ n. n < NUMBER_LIMIT)) (sym ns_are)
      (All-weaker (IsEntry 0 ROW_PAGES) (λ n. n < NUMBER_LIMIT) (λ n entry. omega (arith, entry.1)) new.numbers.items
      (entries_lawful 0 ROW_PAGES new.numbers.items is.entries).within)

  pub staged_each : (len : ℕ) → new.len ≡ len → length ns ≡ page_count len
  staged_each len same = ap (λ (l : List ℕ). length l) ns_are ∙ each_of new ∙ ap page_count same

-- ---- in place of another

pub record IsReplaced (row : ℕ) (old new : Kept) (text numbers fresh places bytes : List ℕ) : Type 0 where
  pub was : IsRowRecord old
  pub fits : Fits row_bounds text
  pub is : IsRowRecord new
  pub text_is : text_of new ≡ text
  pub named : new.numbers.items ≡ numbered (pages_in (text_of old)) old.numbers.items (pages_in text) (free_of_row old.numbers.items)
  pub numbers_are : numbers ≡ new.numbers.items
  pub fresh_are : fresh ≡ row_fresh row old text
  pub places_are : places ≡ changed_places 0 (pages_in (text_of old)) (pages_in text)
  pub bytes_are : bytes ≡ new.bytes.items

module _ {row : ℕ} {old new : Kept} {text numbers fresh places bytes : List ℕ}
    (has : IsReplaced row old new text numbers fresh places bytes) where
  kept : IsKept row_bounds old.len old.bytes.items old.numbers.items
  kept = row_kept old has.was

  new_pages : pages_in text ≡ cut (length new.numbers.items) new.bytes.items
  new_pages = ap pages_in (sym has.text_is)
      ∙ sym (old_pages row_bounds bounded new.len new.bytes.items new.numbers.items (row_kept new has.is))

  pub fresh_count : length fresh ≡ row_writes old text
  fresh_count = ap (λ (l : List ℕ). length l) has.fresh_are
      ∙ fresh_long row old.len old.bytes.items old.numbers.items kept text has.fits

  pub writes : (rows : ℕ) (disk : DiskState) → row < rows → IsSound (book_layout rows) disk.size
      → AreUnnamed book_names (book_layout rows) (row_free row old) disk
      → AreToWrite book_names (book_layout rows) fresh places bytes disk
  writes rows disk here sound unnamed =
      subst (λ l. AreToWrite book_names (book_layout rows) l places bytes disk) (sym has.fresh_are)
      (subst (λ l. AreToWrite book_names (book_layout rows) (row_fresh row old text) l bytes disk) (sym has.places_are)
      (subst (λ l. AreToWrite book_names (book_layout rows) (row_fresh row old text)
      (changed_places 0 (pages_in (text_of old)) (pages_in text)) l disk) (sym has.bytes_are)
      (to_write row old.len old.bytes.items old.numbers.items kept text has.fits rows here
      (length new.numbers.items) new.bytes.items new_pages disk new.fits sound unnamed)))

  pub plan : (rows : ℕ) (named : List ℕ) (was : Snapshot) (standing : List (List ℕ)) → row < rows
      → AreBeside book_names (book_layout rows) (row_free row old) was
      → named ≡ old.numbers.items → standing ≡ pages_in (text_of old)
      → IsRowPlan rows row named numbers fresh places bytes was standing (pages_in text)
  plan rows named was standing here beside names holds =
      subst (λ l. IsRowPlan rows row l numbers fresh places bytes was standing (pages_in text)) (sym names)
      (subst (λ l. IsRowPlan rows row old.numbers.items l fresh places bytes was standing (pages_in text))
      (sym (has.numbers_are ∙ has.named))
      (subst (λ l. IsRowPlan rows row old.numbers.items given l places bytes was standing (pages_in text)) (sym has.fresh_are)
      (subst (λ l. IsRowPlan rows row old.numbers.items given (row_fresh row old text) l bytes was standing (pages_in text))
      (sym has.places_are)
      (subst (λ l. IsRowPlan rows row old.numbers.items given (row_fresh row old text) changes l was standing (pages_in text))
      (sym has.bytes_are)
      (subst (λ l. IsRowPlan rows row old.numbers.items given (row_fresh row old text) changes new.bytes.items was l
      (pages_in text)) (sym holds)
      (row_plan row old.len old.bytes.items old.numbers.items kept text has.fits rows here
      (length new.numbers.items) new.bytes.items new_pages was beside))))))
    where
      given : List ℕ
      given = numbered (pages_in (text_of old)) old.numbers.items (pages_in text) (free_of_row old.numbers.items)

      changes : List ℕ
      changes = changed_places 0 (pages_in (text_of old)) (pages_in text)

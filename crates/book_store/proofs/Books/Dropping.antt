-- Numbers that a row has, and those that it drops.
use Rattle.std.proofs.Common.{◌≡◌, ℕ, ◌<◌, List, sym, subst, arith}
use Rattle.std.proofs.lemmas.List.Elements.{All-weaker}
use Rattle.record_pages.specs.Pages.{pages_in}
use Rattle.record_pages.specs.Plans.{dropped}
use Rattle.record_pages.proofs.Dropped.{dropped_count}
use Rattle.record_pages.proofs.LawfulEntries.{IsEntry, entries_lawful}
use Rattle.record_pages.proofs.Renumbered.{changed_few, dropped_all}
use Rattle.paged_records.specs.declared.kept.Kept.{Kept}
use Rattle.paged_records.proofs.Replanned.{held_few, old_long}
use Rattle.book_store.proofs.RowPlans.{bounded}
use Rattle.book_store.proofs.RowRecords.{row_kept}
use Rattle.book_store.specs.Kept.{AreOwnNumbers, IsRowRecord, row_bounds, text_of}
use Rattle.book_store.specs.declared.layout.TheConstants.{ROW_PAGES}

module _ (kept : Kept) (is : IsRowRecord kept) where
  pub kept_own : AreOwnNumbers kept.numbers.items
  kept_own = record {
    few = held_few row_bounds bounded kept.len kept.bytes.items kept.numbers.items (row_kept kept is);
    own = All-weaker (IsEntry 0 ROW_PAGES) (λ n. n < ROW_PAGES) (λ n entry. entry.1) kept.numbers.items
        (entries_lawful 0 ROW_PAGES kept.numbers.items is.entries).within;
  }

  pub gone_own : (news : List (List ℕ)) (gone : List ℕ) → gone ≡ dropped (pages_in (text_of kept)) kept.numbers.items news
      → AreOwnNumbers gone
  gone_own news gone same =
      let olds = pages_in (text_of kept) in
      let each = old_long row_bounds bounded kept.len kept.bytes.items kept.numbers.items (row_kept kept is) in
      subst AreOwnNumbers (sym same) (record {
        few = omega (arith, dropped_count olds kept.numbers.items news each, changed_few news olds, each, kept_own.few);
        own = dropped_all (λ n. n < ROW_PAGES) olds kept.numbers.items news kept_own.own;
      })

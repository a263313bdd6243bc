-- Pages that no row has, in a book that is laid out.
use Rattle.std.proofs.Common.{◌≡◌, ◌≢◌, ℕ, ◌+◌, ◌*◌, ◌/◌, ◌%◌, ◌≤◌, ◌<◌, List, ◌∙◌, ap, subst, arith}
use Rattle.std.proofs.lemmas.List.Elements.{All-weaker}
use Rattle.pages.specs.declared.layout.Layout.{Layout}
use Rattle.pages.specs.Layouts.{IsPage, blank_page}
use Rattle.pages.specs.Snapshots.{IsBeside, page_of}
use Rattle.book_store.proofs.Books.Laying.{none_by_row, row_named}
use Rattle.book_store.proofs.Books.Zeros.{table_body}
use Rattle.book_store.specs.AtRest.{IsBookMarked, laid_table}
use Rattle.book_store.specs.Layout.{book_layout}
use Rattle.book_store.specs.Rows.{book_names, row_in, row_names}
use Rattle.book_store.specs.Staging.{IsNoneIn, IsSpare}
use Rattle.book_store.specs.Store.{BookStore, drops_at, numbers_at}
use Rattle.book_store.specs.declared.layout.TheConstants.{BOOK_ROWS, ROW_PAGES}

module _ (store : BookStore) (few : store.rows ≤ BOOK_ROWS) (marked : IsBookMarked store.rows store.mark store.held) where
  abbrev l : Layout
  l = book_layout store.rows

  -- a page beside the table is none of its row's
  pub none_own : (r p : ℕ) → r < store.rows → IsBeside book_names l (ROW_PAGES * r + p) (laid_table store.mark store.held)
      → IsNoneIn p (numbers_at store.mark store.held r)
  unfolding book_names
  none_own r p lt beside =
      let body = (laid_table store.mark store.held).body in
      subst (IsNoneIn p)
      (ap (λ (b : List ℕ). row_names (row_in b r)) (table_body store.rows store.mark store.held marked)
      ∙ row_named store.rows store.mark.turn store.held store.mark.numbers marked.marks r (omega (arith, lt, few)))
      (none_by_row p BOOK_ROWS 0 (λ s. row_names (row_in body s)) r (omega arith) (omega (arith, lt, few))
      (All-weaker (λ m. IsPage l m × (m ≢ ROW_PAGES * r + p)) (λ m. m ≢ ROW_PAGES * r + p) (λ m is. is.1) (book_names body) beside))

  pub blank_beside : (c : List ℕ) → ((r p : ℕ) → IsSpare store r p c) → (m : ℕ) → IsPage l m
      → IsBeside book_names l m (laid_table store.mark store.held)
      → ((r p : ℕ) → r < store.rows → m ≡ ROW_PAGES * r + p → IsNoneIn p (drops_at store r))
      → page_of l c m ≡ blank_page
  blank_beside c spare m is beside drops =
      let r = m / ROW_PAGES in
      let p = m % ROW_PAGES in
      let split : m ≡ ROW_PAGES * r + p = omega arith in
      let inside : r < store.rows = omega (arith, is.1) in
      let small : p < ROW_PAGES = omega arith in
      ap (page_of l c) split
      ∙ spare r p inside small
      (none_own r p inside (subst (λ n. IsBeside book_names l n (laid_table store.mark store.held)) split beside))
      (drops r p inside split)

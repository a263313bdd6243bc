-- What counts of a book that is laid out: its open table, or nothing.
use Rattle.std.proofs.Common.{◌≡◌, ◌≢◌, ℕ, zero, suc, ◌-◌, All, true, false, List, [], replicate, refl, sym, ◌∙◌, ap, subst, arith, if◌then◌else◌}
use Rattle.std.specs.Prelude.{◌==◌}
use Rattle.std.proofs.lemmas.Bool.Decides.{nat_tests}
use Rattle.pages.specs.Layouts.{IsPage}
use Rattle.pages.specs.Snapshots.{Snapshot, kept_shot, no_shot, shot}
use Rattle.pages.specs.Tables.{Table, is_open, open_table, wiped}
use Rattle.book_store.proofs.Books.Blank.{none_named}
use Rattle.book_store.proofs.Books.Laying.{are_pages}
use Rattle.book_store.proofs.Books.Listed.{Book}
use Rattle.book_store.proofs.Books.RowReadings.{turn_opens}
use Rattle.book_store.proofs.Books.Zeros.{none_laid, table_body}
use Rattle.book_store.specs.AtRest.{BookMark, IsBookMarked, all_pages, laid_book, row_marks}
use Rattle.book_store.specs.Layout.{book_end, book_layout}
use Rattle.book_store.specs.Marks.{book_body}
use Rattle.book_store.specs.Rows.{book_names}
use Rattle.book_store.specs.Shown.{absent}
use Rattle.book_store.specs.declared.layout.TheConstants.{BOOK_ROWS, BOOK_TABLE}

no_pages : (k : ℕ) → all_pages (absent k) ≡ []
no_pages zero = refl
no_pages (suc k) = no_pages k

-- a table of zeros names no page
pub zeros_named : book_names (replicate (BOOK_TABLE - 1) 0) ≡ []
zeros_named = ap book_names (sym (none_laid (replicate BOOK_ROWS [])))
    ∙ none_named (book_end 0) 0 (omega arith) (omega arith)

is_zero : (n : ℕ) → n ≡ 0 → (n == 0) ≡ true
is_zero n none = grind (arith, nat_tests)

isnt_zero : (n : ℕ) → n ≢ 0 → (n == 0) ≡ false
isnt_zero n other = grind (arith, nat_tests)

module _ (rows : ℕ) (mark : BookMark) (book : Book) (is : IsBookMarked rows mark book) where
  abbrev pub was : Snapshot
  was = laid_book mark book

  abbrev pub body : List ℕ
  body = book_body mark.turn (row_marks book mark.numbers)

  pub pages_named : All (IsPage (book_layout rows)) (book_names was.table.body)
  pages_named = subst (λ (b : List ℕ). All (IsPage (book_layout rows)) (book_names b)) (sym (table_body rows mark book is))
      (are_pages rows mark.turn book mark.numbers is.marks)

  module _ (turn : mark.turn ≢ 0) where
    pub table_open : was.table ≡ open_table body
    table_open = ap (λ b. if b then wiped BOOK_TABLE else open_table body) (isnt_zero mark.turn turn)

    pub opened : is_open was.table ≡ true
    opened = ap is_open table_open ∙ turn_opens mark.turn (isnt_zero mark.turn turn) is.high

    pub shown_open : kept_shot was ≡ shot was
    shown_open = ap (λ b. if b then shot was else no_shot) opened

  module _ (turn : mark.turn ≡ 0) where
    pub table_none : was.table ≡ wiped BOOK_TABLE
    table_none = ap (λ b. if b then wiped BOOK_TABLE else open_table body) (is_zero mark.turn turn)

    pub shown_none : kept_shot was ≡ no_shot
    shown_none = ap (λ b. if b then shot was else no_shot) (ap is_open table_none)

    pub names_none : book_names was.table.body ≡ []
    names_none = ap (λ (t : Table). book_names t.body) table_none ∙ zeros_named

    pub pages_none : was.pages ≡ []
    pages_none = ap all_pages (is.none turn) ∙ no_pages BOOK_ROWS

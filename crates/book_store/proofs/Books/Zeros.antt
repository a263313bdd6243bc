-- The table of a book: one that is laid out from its rows, or zeros where none is open.
use Rattle.std.proofs.Common.{◌≡◌, ℕ, zero, suc, ◌+◌, ◌-◌, ◌*◌, Bool, true, false, List, [], ◌∷◌, ◌++◌, replicate, refl, sym, ◌∙◌, ap, arith}
use Rattle.std.specs.Prelude.{◌==◌, if◌then◌else◌}
use Rattle.std.proofs.lemmas.Bool.{eqb-true}
use Rattle.std.proofs.lemmas.List.{replicate-append-replicate}
use Rattle.pages.specs.Tables.{open_table, wiped}
use Rattle.book_store.proofs.Books.Listed.{Book}
use Rattle.book_store.specs.AtRest.{BookMark, IsBookMarked, laid_table, row_marks}
use Rattle.book_store.specs.Marks.{book_body, rows_text}
use Rattle.book_store.specs.Rows.{absent_row}
use Rattle.book_store.specs.Shown.{absent}
use Rattle.book_store.specs.declared.layout.TheConstants.{BOOK_ROWS, BOOK_TABLE, TABLE_ROW}

one_more : (k : ℕ) (rest : List ℕ) → rest ≡ replicate (TABLE_ROW * k) 0 → absent_row ++ rest ≡ replicate (TABLE_ROW * suc k) 0
one_more k rest is =
    ap (λ (l : List ℕ). absent_row ++ l) is ∙ replicate-append-replicate TABLE_ROW (TABLE_ROW * k) 0
    ∙ ap (λ n. replicate n 0) (let e : TABLE_ROW + TABLE_ROW * k ≡ TABLE_ROW * suc k = omega arith in e)

none_marked : (k : ℕ) (numbers : List (List ℕ)) → rows_text (row_marks (absent k) numbers) ≡ replicate (TABLE_ROW * k) 0
none_marked zero numbers = refl
none_marked (suc k) [] = one_more k (rows_text (row_marks (absent k) [])) (none_marked k [])
none_marked (suc k) (own ∷ numbers) = one_more k (rows_text (row_marks (absent k) numbers)) (none_marked k numbers)

around : (h k m : ℕ) (text : List ℕ) → text ≡ replicate k 0
    → 0 ∷ (replicate {A = ℕ} h 0 ++ (text ++ replicate {A = ℕ} m 0)) ≡ replicate (suc (h + (k + m))) 0
around h k m text is =
    ap (λ (l : List ℕ). 0 ∷ (replicate h 0 ++ (l ++ replicate m 0))) is
    ∙ ap (λ (l : List ℕ). 0 ∷ (replicate h 0 ++ l)) (replicate-append-replicate k m 0)
    ∙ ap (λ (l : List ℕ). 0 ∷ l) (replicate-append-replicate h (k + m) 0)

-- with no row a table without a turn is zeros
pub none_laid : (numbers : List (List ℕ))
    → book_body 0 (row_marks (absent BOOK_ROWS) numbers) ≡ replicate (BOOK_TABLE - 1) 0
none_laid numbers = around (TABLE_ROW - 2) (TABLE_ROW * BOOK_ROWS) (BOOK_TABLE - (TABLE_ROW * BOOK_ROWS) - TABLE_ROW)
    (rows_text (row_marks (absent BOOK_ROWS) numbers)) (none_marked BOOK_ROWS numbers)

module _ (rows : ℕ) (mark : BookMark) (book : Book) (marked : IsBookMarked rows mark book) where
  by_turn : (none : Bool) → (mark.turn == 0) ≡ none
      → (if none then wiped BOOK_TABLE else open_table (book_body mark.turn (row_marks book mark.numbers))).body
      ≡ book_body mark.turn (row_marks book mark.numbers)
  by_turn false is = refl
  by_turn true is =
      let zero_turn : mark.turn ≡ 0 = eqb-true mark.turn 0 is in
      sym (ap (λ (b : Book). book_body mark.turn (row_marks b mark.numbers)) (marked.none zero_turn)
      ∙ ap (λ t. book_body t (row_marks (absent BOOK_ROWS) mark.numbers)) zero_turn
      ∙ none_laid mark.numbers)

  pub table_body : (laid_table mark book).body ≡ book_body mark.turn (row_marks book mark.numbers)
  table_body = by_turn (mark.turn == 0) refl

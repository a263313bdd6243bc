-- Rows, one after the other.
use Rattle.std.proofs.Common.{◌≡◌, ℕ, suc, ◌+◌, ◌-◌, ◌<◌, List, Some, None, Option, ◌∙◌, ap, arith}
use Rattle.std.specs.Prelude.{◌||◌, nat_lt}
use Rattle.record_pages.specs.Tables.{or_else}
use Rattle.book_store.specs.Judging.{is_named, is_taken, row_fault, rows_fault}
use Rattle.book_store.specs.Rows.{row_in}
use Rattle.book_store.specs.declared.layout.TheConstants.{BOOK_ROWS}

pub taken_next : (k : ℕ) (body name : List ℕ)
    → is_taken (k + 1) body name ≡ (is_taken k body name || is_named (row_in body k) name)
taken_next k body name = ap (λ n. is_taken n body name) (let e : k + 1 ≡ suc k = omega arith in e)

pub rows_next : (r rows : ℕ) (body : List ℕ) → r < BOOK_ROWS → rows_fault (BOOK_ROWS - r) r rows body
    ≡ or_else (row_fault (nat_lt r rows) body r (row_in body r)) (rows_fault (BOOK_ROWS - (r + 1)) (r + 1) rows body)
rows_next r rows body lt =
    ap (λ k. rows_fault k r rows body) (let e : BOOK_ROWS - r ≡ suc (BOOK_ROWS - (r + 1)) = omega (arith, lt) in e)
    ∙ ap (λ n. or_else (row_fault (nat_lt r rows) body r (row_in body r)) (rows_fault (BOOK_ROWS - (r + 1)) n rows body))
    (let e : suc r ≡ r + 1 = omega arith in e)

module _ (r rows : ℕ) (body : List ℕ) (lt : r < BOOK_ROWS) (found : Option ℕ)
    (is : row_fault (nat_lt r rows) body r (row_in body r) ≡ found) where
  pub rows_go_on : found ≡ None → rows_fault (BOOK_ROWS - r) r rows body ≡ rows_fault (BOOK_ROWS - (r + 1)) (r + 1) rows body
  rows_go_on none = rows_next r rows body lt
      ∙ ap (λ o. or_else o (rows_fault (BOOK_ROWS - (r + 1)) (r + 1) rows body)) (is ∙ none)

  pub rows_stop : (at : ℕ) → found ≡ Some at → rows_fault (BOOK_ROWS - r) r rows body ≡ Some at
  rows_stop at some = rows_next r rows body lt
      ∙ ap (λ o. or_else o (rows_fault (BOOK_ROWS - (r + 1)) (r + 1) rows body)) (is ∙ some)

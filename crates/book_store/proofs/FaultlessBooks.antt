-- A whole table that is laid out has no fault.
use Rattle.std.proofs.Common.{◌≡◌, ℕ, ◌-◌, ◌*◌, List, ◌++◌, Option, None, Some, get_or, length, take, drop, replicate, refl, sym, ◌∙◌, ap, arith}
use Rattle.std.specs.Prelude.{All, slice_range}
use Rattle.std.proofs.lemmas.List.{length-replicate, take_all}
use Rattle.std.proofs.lemmas.List.Elements.{All-from_get_or}
use Rattle.std.proofs.Math.Seq.{take-append_seam}
use Rattle.record_pages.specs.Tables.{nonzero_from, or_else}
use Rattle.book_store.specs.Judging.{all_rows_fault, book_fault, row_at}
use Rattle.book_store.specs.Marks.{AreMarks, RowMark, book_body}
use Rattle.book_store.specs.declared.layout.TheConstants.{BOOK_ROWS, BOOK_TABLE, TABLE_ROW}
use Rattle.book_store.proofs.Bodies.{IsSized, behind_front, behind_rows, row_is, rows_and_tail, tail}
use Rattle.book_store.proofs.Faultless.{mark_sized, rows_faultless}
use Rattle.book_store.proofs.RowTables.{zeros_none}

module _ (rows turn : ℕ) (marks : List (Option RowMark)) (are : AreMarks rows marks) where
  one_sized : (r : ℕ) (mark : Option RowMark) → get_or marks r None ≡ mark → IsSized mark
  one_sized r None is = length-replicate {A = ℕ} TABLE_ROW 0
  one_sized r (Some mark) is = mark_sized mark (are.lawful r mark is)

  pub all_sized : All IsSized marks
  all_sized = All-from_get_or IsSized marks None (λ r lt. one_sized r (get_or marks r None) refl)

  abbrev body : List ℕ
  body = book_body turn marks

  abbrev zeros : List ℕ
  zeros = replicate (TABLE_ROW - 2) 0

  before : slice_range body 1 (row_at 0 - 1) ≡ zeros
  before =
      ap (λ n. take n (zeros ++ rows_and_tail marks))
      (let e : row_at 0 - 1 - 1 ≡ length zeros = omega (arith, length-replicate {A = ℕ} (TABLE_ROW - 2) 0) in e)
      ∙ take-append_seam zeros (rows_and_tail marks)

  behind : slice_range body (row_at BOOK_ROWS - 1) (BOOK_TABLE - 1) ≡ tail
  behind =
      ap (take (BOOK_TABLE - 1 - (row_at BOOK_ROWS - 1)))
      (behind_front turn marks (TABLE_ROW * BOOK_ROWS)
      ∙ ap (λ n. drop (TABLE_ROW * n) (rows_and_tail marks)) (sym are.all)
      ∙ behind_rows marks all_sized)
      ∙ take_all (BOOK_TABLE - 1 - (row_at BOOK_ROWS - 1)) tail (omega (arith, length-replicate {A = ℕ} (BOOK_TABLE - (TABLE_ROW * BOOK_ROWS) - TABLE_ROW) 0))

  rows_none : all_rows_fault rows body ≡ None
  unfolding all_rows_fault
  rows_none = rows_faultless rows marks are body (λ r lt. row_is turn marks r all_sized (omega (arith, lt, are.all)))
      BOOK_ROWS 0 (omega arith)

  pub laid_out : book_fault rows body ≡ None
  unfolding book_fault
  laid_out =
      ap (λ (l : List ℕ). or_else (nonzero_from 2 l) (or_else (all_rows_fault rows body)
      (nonzero_from (row_at BOOK_ROWS) (slice_range body (row_at BOOK_ROWS - 1) (BOOK_TABLE - 1))))) before
      ∙ ap (λ o. or_else o (or_else (all_rows_fault rows body)
      (nonzero_from (row_at BOOK_ROWS) (slice_range body (row_at BOOK_ROWS - 1) (BOOK_TABLE - 1))))) (zeros_none (TABLE_ROW - 2) 2)
      ∙ ap (λ o. or_else o (nonzero_from (row_at BOOK_ROWS) (slice_range body (row_at BOOK_ROWS - 1) (BOOK_TABLE - 1)))) rows_none
      ∙ ap (nonzero_from (row_at BOOK_ROWS)) behind
      ∙ zeros_none (BOOK_TABLE - (TABLE_ROW * BOOK_ROWS) - TABLE_ROW) (row_at BOOK_ROWS)

-- A table without a fault is the one that is laid out from what its rows say.
use Rattle.std.proofs.Common.{◌≡◌, ◌≢◌, ⊎_elim, ℕ, zero, suc, ◌+◌, ◌-◌, ◌≤◌, ◌<◌, true, false, List, [], ◌∷◌, ◌++◌, Option, None, Some, append_assoc, get_or, length, take, drop, replicate, refl, sym, ◌∙◌, ap, ap₂, subst, arith, length-drop}
use Rattle.std.specs.Prelude.{◌==◌, nat_lt, slice_index, slice_range}
use Rattle.std.specs.Str.{bytes_eq}
use Rattle.std.proofs.lemmas.Bool.{and_from, cases_lt, ltb-true, or_parts}
use Rattle.std.proofs.lemmas.Bool.Decides.{nat_tests}
use Rattle.std.proofs.lemmas.Slice.Eq.{bytes_eq-Decides}
use Rattle.std.proofs.lemmas.List.{drop-drop, length-take-le, take-append-drop, take_all}
use Rattle.dr_base.specs.Bytes.{AreBytes}
use Rattle.dr_base.proofs.Bytes.{AreBytes-drop, AreBytes-take}
use Rattle.record_pages.specs.Tables.{nonzero_from, or_else}
use Rattle.paged_records.proofs.Printed.{all_zeros}
use Rattle.book_store.specs.Judging.{all_rows_fault, book_fault, is_named, is_taken, row_at, row_fault, rows_fault}
use Rattle.book_store.specs.Marks.{AreMarks, IsLaidRow, IsLaidTable, RowMark, book_body, mark_in, mark_text, marks_by, marks_in, rows_text}
use Rattle.book_store.specs.Rows.{name_in, row_in, row_place}
use Rattle.book_store.specs.declared.layout.TheConstants.{BOOK_ROWS, BOOK_TABLE, TABLE_ROW}
use Rattle.book_store.proofs.Bodies.{tail}
use Rattle.book_store.proofs.Sayings.LaidRows.{row_laid}
use Rattle.book_store.proofs.Sayings.RowFaults.{IsPresent, none_of, present}
use Rattle.book_store.proofs.Sayings.Said.{said, said_at, said_inside, said_long}

not_zero : (n : ℕ) → n ≡ 1 → (n == 0) ≡ false
not_zero n one = grind (arith, nat_tests)

-- ---- names

free_of : (name body : List ℕ) (r q : ℕ) → is_taken r body name ≡ false → q < r → is_named (row_in body q) name ≡ false
free_of name body zero q free lt = absurd (omega arith)
free_of name body (suc r) q free lt =
    let both = or_parts (is_taken r body name) (is_named (row_in body r) name) free in
    ⊎_elim (λ below. free_of name body r q both.0 below)
    (λ last. subst (λ n. is_named (row_in body n) name ≡ false) (let e : r ≡ q = omega (arith, last, lt) in e) both.1)
    (cases_lt q r)

other_name : (row name : List ℕ) → slice_index row 0 ≡ 1 → is_named row name ≡ false → name_in row ≢ name
unfolding is_named
other_name row name one isnt same =
    absurd (let e : true ≡ false = sym (and_from (slice_index row 0 == 1) (bytes_eq (name_in row) name)
    (ap (λ n. n == 1) one) ((bytes_eq-Decides (name_in row) name).1 same)) ∙ isnt in cc)

-- ---- the table

rows_each : (k r rows : ℕ) (body : List ℕ) → rows_fault k r rows body ≡ None → (s : ℕ) → r ≤ s → s < r + k
    → row_fault (nat_lt s rows) body s (row_in body s) ≡ None
rows_each zero r rows body none s le lt = absurd (omega arith)
rows_each (suc k) r rows body none s le lt =
    let both = none_of (row_fault (nat_lt r rows) body r (row_in body r)) (rows_fault k (suc r) rows body) none in
    ⊎_elim (λ below. subst (λ n. row_fault (nat_lt n rows) body n (row_in body n) ≡ None)
    (let e : r ≡ s = omega (arith, below, le) in e) both.0)
    (λ above. rows_each k (suc r) rows body both.1 s above (omega arith))
    (cases_lt s (suc r))

module _ (rows : ℕ) (body : List ℕ) (long : length body + 1 ≡ BOOK_TABLE) where
  row_is : (r : ℕ) → row_in body r ≡ take TABLE_ROW (drop (row_place r) body)
  row_is r = ap (λ n. take n (drop (row_place r) body)) (let e : row_place r + TABLE_ROW - row_place r ≡ TABLE_ROW = omega arith in e)

  pub row_long : (r : ℕ) → r < BOOK_ROWS → length (row_in body r) ≡ TABLE_ROW
  row_long r lt = ap (λ (l : List ℕ). length l) (row_is r)
      ∙ length-take-le TABLE_ROW (drop (row_place r) body) (omega (arith, length-drop (row_place r) body, long, lt))

  module _ (are : AreBytes body) (none : book_fault rows body ≡ None) where
    abbrev first : Option ℕ
    first = nonzero_from 2 (slice_range body 1 (row_at 0 - 1))

    abbrev last : Option ℕ
    last = nonzero_from (row_at BOOK_ROWS) (slice_range body (row_at BOOK_ROWS - 1) (BOOK_TABLE - 1))

    parts : (first ≡ None) × (all_rows_fault rows body ≡ None) × (last ≡ None)
    unfolding book_fault
    parts =
        let both = none_of first (or_else (all_rows_fault rows body) last) none in
        let rest = none_of (all_rows_fault rows body) last both.1 in
        (both.0, rest.0, rest.1)

    each : (r : ℕ) → r < BOOK_ROWS → row_fault (nat_lt r rows) body r (row_in body r) ≡ None
    unfolding all_rows_fault
    each r lt = rows_each BOOK_ROWS 0 rows body parts.1 r (omega arith) (omega (arith, lt))

    pub laid_row : (r : ℕ) → r < BOOK_ROWS → IsLaidRow (row_in body r)
    laid_row r lt = row_laid (row_in body r) (row_long r lt)
        (AreBytes-take (row_place r + TABLE_ROW - row_place r) (drop (row_place r) body) (AreBytes-drop (row_place r) body are))
        (nat_lt r rows) body r (each r lt)

    there : (r : ℕ) (mark : RowMark) → get_or (marks_in body) r None ≡ Some mark → mark_in (row_in body r) ≡ Some mark
    there r mark is = sym (said_at body r (said_inside body r mark is)) ∙ is

    present_at : (r : ℕ) (mark : RowMark) → get_or (marks_in body) r None ≡ Some mark
        → IsPresent (nat_lt r rows) body r (row_in body r)
    present_at r mark is = present (nat_lt r rows) body r (row_in body r) (each r (said_inside body r mark is))
        (not_zero (slice_index (row_in body r) 0) (said (row_in body r) mark (there r mark is)).one)

    -- the later of two rows has a name that the earlier one doesn't have
    later : (q r : ℕ) (one other : RowMark) → get_or (marks_in body) q None ≡ Some one
        → get_or (marks_in body) r None ≡ Some other → q < r → one.name ≢ other.name
    later q r one other is_one is_other lt same =
        let first = said (row_in body q) one (there q one is_one) in
        let next = said (row_in body r) other (there r other is_other) in
        other_name (row_in body q) (name_in (row_in body r)) first.one
        (free_of (name_in (row_in body r)) body r q (present_at r other is_other).name.free lt)
        (first.name ∙ same ∙ sym next.name)

    pub laid_marks : AreMarks rows (marks_in body)
    laid_marks = record {
      all = said_long body;
      lawful = λ r mark is. (laid_row r (said_inside body r mark is)).lawful mark (there r mark is);
      inside = λ r mark is. ltb-true r rows (present_at r mark is).may_be;
      differ = λ q r one other is_one is_other apart. ⊎_elim
          (λ lt. later q r one other is_one is_other lt)
          (λ ge. λ same. later r q other one is_other is_one (omega (arith, ge, apart)) (sym same))
          (cases_lt q r);
    }

    -- the rows, and what stands behind them
    rows_from : (k r : ℕ) → r + k ≤ BOOK_ROWS
        → drop (row_place r) body ≡ rows_text (marks_by k r body) ++ drop (row_place (r + k)) body
    rows_from zero r le = ap (λ n. drop (row_place n) body) (let e : r ≡ r + 0 = omega arith in e)
    rows_from (suc k) r le =
        let here : take TABLE_ROW (drop (row_place r) body) ≡ mark_text (mark_in (row_in body r)) =
        sym (row_is r) ∙ (laid_row r (omega arith)).text in
        let next : drop TABLE_ROW (drop (row_place r) body) ≡ rows_text (marks_by k (suc r) body) ++ drop (row_place (r + suc k)) body =
        drop-drop TABLE_ROW (row_place r) body
        ∙ ap (λ n. drop n body) (let e : row_place r + TABLE_ROW ≡ row_place (suc r) = omega arith in e)
        ∙ rows_from k (suc r) (omega arith)
        ∙ ap (λ n. rows_text (marks_by k (suc r) body) ++ drop (row_place n) body) (let e : suc r + k ≡ r + suc k = omega arith in e) in
        sym (take-append-drop TABLE_ROW (drop (row_place r) body))
        ∙ ap₂ (λ (x y : List ℕ). x ++ y) here next
        ∙ sym (append_assoc (mark_text (mark_in (row_in body r))) (rows_text (marks_by k (suc r) body)) (drop (row_place (r + suc k)) body))

    begins : (l : List ℕ) → 1 ≤ length l → l ≡ slice_index l 0 ∷ drop 1 l
    begins [] le = absurd (omega arith)
    begins (x ∷ l) le = refl

    before : take (row_at 0 - 1 - 1) (drop 1 body) ≡ replicate (TABLE_ROW - 2) 0
    before = all_zeros (take (row_at 0 - 1 - 1) (drop 1 body)) 2 parts.0
        ∙ ap (λ n. replicate n 0)
        (length-take-le (row_at 0 - 1 - 1) (drop 1 body) (omega (arith, length-drop 1 body, long))
        ∙ (let e : row_at 0 - 1 - 1 ≡ TABLE_ROW - 2 = omega arith in e))

    behind : drop (row_place BOOK_ROWS) body ≡ tail
    behind =
        let size : length (drop (row_place BOOK_ROWS) body) ≡ BOOK_TABLE - 1 - (row_at BOOK_ROWS - 1) =
        omega (arith, length-drop (row_place BOOK_ROWS) body, long) in
        let all : take (BOOK_TABLE - 1 - (row_at BOOK_ROWS - 1)) (drop (row_at BOOK_ROWS - 1) body) ≡ drop (row_place BOOK_ROWS) body =
        take_all (BOOK_TABLE - 1 - (row_at BOOK_ROWS - 1)) (drop (row_place BOOK_ROWS) body) (omega (arith, size)) in
        sym all ∙ all_zeros (take (BOOK_TABLE - 1 - (row_at BOOK_ROWS - 1)) (drop (row_at BOOK_ROWS - 1) body)) (row_at BOOK_ROWS) parts.2
        ∙ ap (λ n. replicate n 0) (ap (λ (l : List ℕ). length l) all ∙ size)

    rows_all : drop (row_place 0) body ≡ rows_text (marks_in body) ++ tail
    unfolding marks_in
    rows_all = rows_from BOOK_ROWS 0 (omega arith) ∙ ap (λ (l : List ℕ). rows_text (marks_by BOOK_ROWS 0 body) ++ l) behind

    pub laid_body : body ≡ book_body (slice_index body 0) (marks_in body)
    laid_body =
        begins body (omega (arith, long))
        ∙ ap (λ (l : List ℕ). slice_index body 0 ∷ l)
        (sym (take-append-drop (TABLE_ROW - 2) (drop 1 body))
        ∙ ap₂ (λ (x y : List ℕ). x ++ y)
        (ap (λ n. take n (drop 1 body)) (let e : TABLE_ROW - 2 ≡ row_at 0 - 1 - 1 = omega arith in e) ∙ before)
        (drop-drop (TABLE_ROW - 2) 1 body
        ∙ ap (λ n. drop n body) (let e : 1 + (TABLE_ROW - 2) ≡ row_place 0 = omega arith in e)
        ∙ rows_all))

    pub laid_table : IsLaidTable rows body
    laid_table = record { are = laid_marks; body_is = laid_body }

-- What the rows of a table that is laid out are read as.
use Rattle.std.proofs.Common.{◌≡◌, ℕ, zero, suc, ◌+◌, ◌-◌, ◌*◌, ◌≤◌, ◌<◌, true, false, List, [], ◌∷◌, ◌++◌, Option, None, Some, get_or, length, take, drop, replicate, refl, sym, ◌∙◌, ap, arith}
use Rattle.std.specs.Prelude.{◌==◌, ◌&&◌, nat_le}
use Rattle.std.proofs.lemmas.Bool.Decides.{nat_tests}
use Rattle.std.proofs.lemmas.List.{length-append, length-replicate, take_all}
use Rattle.std.proofs.Math.Seq.{drop-append_seam, take-append_seam}
use Rattle.dr_base.specs.declared.limits.TheConstants.{PAGE}
use Rattle.record_pages.specs.Pages.{cut, joined, page_count, pages_in}
use Rattle.record_pages.specs.Tables.{nonzero_from, or_else}
use Rattle.record_pages.proofs.Filled.{count_covers, count_fits, pages_in_long}
use Rattle.record_pages.proofs.Planned.{read_back}
use Rattle.paged_records.proofs.Filled.{cut_filled}
use Rattle.paged_records.proofs.ReadPages.{joined_cut}
use Rattle.book_store.proofs.Books.Laying.{marked, row_laid, row_named}
use Rattle.book_store.proofs.Books.Listed.{Book, marks_long, pages_listed}
use Rattle.book_store.proofs.Faultless.{name_long}
use Rattle.book_store.proofs.Names.{length_back}
use Rattle.book_store.proofs.RowTables.{zeros_none}
use Rattle.book_store.proofs.ShownRows.{laid_row, split_back}
use Rattle.book_store.specs.AtRest.{all_pages, row_mark, row_marks, row_pages}
use Rattle.book_store.specs.Marks.{AreMarks, IsRowMark, book_body, mark_text}
use Rattle.book_store.specs.Reading.{AreRecords, damage_at, damage_from, or_later, row_damage, rows_damage}
use Rattle.book_store.specs.Rows.{absent_row, pages_by, row_in, row_length, row_names, row_text}
use Rattle.book_store.specs.Shown.{BookRow, row_with, rows_by, rows_from}
use Rattle.book_store.specs.Store.{numbers_of, pages_at}
use Rattle.book_store.specs.declared.layout.TheConstants.{BOOK_ROWS, ROW_MOST}

-- zeros fill a record's last page
filled : (text : List ℕ) → drop (length text) (joined (pages_in text))
    ≡ replicate (PAGE * page_count (length text) - length text) 0
filled text =
    let n = page_count (length text) in
    let z = PAGE * n - length text in
    let bytes = text ++ replicate z 0 in
    let long : length bytes ≡ PAGE * n =
    omega (arith, length-append text (replicate z 0), length-replicate {A = ℕ} z 0, count_covers (length text)) in
    let whole : take (PAGE * n) bytes ≡ bytes = take_all (PAGE * n) bytes (omega (arith, long)) in
    let zeros : drop (length text) (take (PAGE * n) bytes) ≡ replicate z 0 =
    ap (drop (length text)) whole ∙ drop-append_seam text (replicate z 0) in
    let pages : pages_in text ≡ cut n bytes =
    ap pages_in (sym (take-append_seam text (replicate z 0)))
    ∙ cut_filled n (length text) bytes refl (omega (arith, long))
    (zeros ∙ ap (λ k. replicate k 0) (sym (ap length zeros ∙ length-replicate {A = ℕ} z 0))) in
    ap (λ (l : List (List ℕ)). drop (length text) (joined l)) pages
    ∙ ap (drop (length text)) (joined_cut n bytes) ∙ zeros

-- ---- one row

module _ (fault_at : List ℕ → Option ℕ) (r : ℕ) (row : BookRow) (numbers : List ℕ)
    (is : IsRowMark (record { name = row.name; len = length row.text; numbers = numbers })) where
  abbrev bytes : List ℕ
  bytes = row_text row.name (length row.text) numbers

  few : length row.name ≤ 40
  few = (name_long row.name is.named).1

  small : length row.text ≤ PAGE * ROW_MOST
  small = count_fits (length row.text) ROW_MOST is.few

  pub row_back : row_with bytes (pages_in row.text) ≡ Some row
  row_back = laid_row row.name row.text numbers few (omega (arith, small)) (count_covers (length row.text))

  len_back : row_length bytes ≡ length row.text
  len_back = length_back row.name (length row.text) numbers few (omega (arith, small))

  pub row_whole : fault_at row.text ≡ None → row_damage fault_at r bytes (pages_in row.text) ≡ None
  unfolding row_damage
  row_whole none =
      ap (λ n. damage_at r (or_else (fault_at (take n (joined (pages_in row.text))))
      (nonzero_from n (drop n (joined (pages_in row.text)))))) len_back
      ∙ ap (λ (t : List ℕ). damage_at r (or_else (fault_at t)
      (nonzero_from (length row.text) (drop (length row.text) (joined (pages_in row.text))))))
      (read_back (page_count (length row.text)) row.text (count_covers (length row.text)))
      ∙ ap (λ o. damage_at r (or_else o
      (nonzero_from (length row.text) (drop (length row.text) (joined (pages_in row.text)))))) none
      ∙ ap (λ (l : List ℕ). damage_at r (nonzero_from (length row.text) l)) (filled row.text)
      ∙ ap (damage_at r) (zeros_none (PAGE * page_count (length row.text) - length row.text) (length row.text))

absent_back : row_with absent_row [] ≡ None
unfolding row_with
absent_back = refl

absent_whole : (fault_at : List ℕ → Option ℕ) (r : ℕ) → row_damage fault_at r absent_row [] ≡ None
unfolding row_damage
absent_whole fault_at r = refl

pub turn_opens : (turn : ℕ) → (turn == 0) ≡ false → turn ≤ 3 → (nat_le 1 turn && nat_le turn 3) ≡ true
turn_opens turn other high = grind (arith, nat_tests)

-- ---- all rows

rows_listed : (book : Book) (r : ℕ) (f : ℕ → Option BookRow)
    → ((s : ℕ) → s < length book → f (r + s) ≡ get_or book s None) → rows_by (length book) r f ≡ book
rows_listed [] r f each = refl
rows_listed (row ∷ book) r f each =
    ap (λ (o : Option BookRow). o ∷ rows_by (length book) (suc r) f)
    (ap f (let e : r ≡ r + 0 = omega arith in e) ∙ each 0 (omega arith))
    ∙ ap (λ (l : Book). row ∷ l)
    (rows_listed book (suc r) f
    (λ s lt. ap f (let e : suc r + s ≡ r + suc s = omega arith in e) ∙ each (suc s) (omega arith)))

none_damaged : (fault_at : List ℕ → Option ℕ) (k r : ℕ) (body : List ℕ) (held : ℕ → List (List ℕ))
    → ((s : ℕ) → r ≤ s → s < r + k → length (held s) ≡ length (row_names (row_in body s)))
    → ((s : ℕ) → r ≤ s → s < r + k → row_damage fault_at s (row_in body s) (held s) ≡ None)
    → damage_from fault_at k r body (pages_by k r held) ≡ None
none_damaged fault_at zero r body held each whole = refl
none_damaged fault_at (suc k) r body held each whole =
    let rest = pages_by k (suc r) held in
    let long : length (row_names (row_in body r)) ≡ length (held r) = sym (each r (omega arith) (omega arith)) in
    ap (λ n. or_later (row_damage fault_at r (row_in body r) (take n (held r ++ rest)))
    (damage_from fault_at k (suc r) body (drop n (held r ++ rest)))) long
    ∙ ap (λ (l : List (List ℕ)). or_later (row_damage fault_at r (row_in body r) l)
    (damage_from fault_at k (suc r) body (drop (length (held r)) (held r ++ rest)))) (take-append_seam (held r) rest)
    ∙ ap (λ o. or_later o (damage_from fault_at k (suc r) body (drop (length (held r)) (held r ++ rest))))
    (whole r (omega arith) (omega arith))
    ∙ ap (damage_from fault_at k (suc r) body) (drop-append_seam (held r) rest)
    ∙ none_damaged fault_at k (suc r) body held (λ s le lt. each s (omega arith) (omega arith))
    (λ s le lt. whole s (omega arith) (omega arith))

module _ (rows turn : ℕ) (book : Book) (numbers : List (List ℕ))
    (are : AreMarks rows (row_marks book numbers)) where
  abbrev body : List ℕ
  body = book_body turn (row_marks book numbers)

  all : length book ≡ BOOK_ROWS
  all = sym (marks_long book numbers) ∙ are.all

  lawful : (r : ℕ) (row : BookRow) → get_or book r None ≡ Some row
      → IsRowMark (record { name = row.name; len = length row.text; numbers = get_or numbers r [] })
  lawful r row is = are.lawful r _ (marked rows turn book numbers are r row is)

  long_of : (r : ℕ) (row : Option BookRow) → get_or book r None ≡ row
      → length (row_pages row) ≡ length (numbers_of row (get_or numbers r []))
  long_of r None is = refl
  long_of r (Some row) is = pages_in_long row.text ∙ sym (lawful r row is).each

  pub long : (r : ℕ) → r < BOOK_ROWS → length (pages_at book r) ≡ length (row_names (row_in body r))
  long r lt = long_of r (get_or book r None) refl
      ∙ ap (λ (l : List ℕ). length l) (sym (row_named rows turn book numbers are r lt))

  shown_of : (r : ℕ) (row : Option BookRow) → get_or book r None ≡ row
      → row_with (mark_text (row_mark row (get_or numbers r []))) (row_pages row) ≡ row
  shown_of r None is = absent_back
  shown_of r (Some row) is = row_back (λ t. None) r row (get_or numbers r []) (lawful r row is)

  shown : (r : ℕ) → r < BOOK_ROWS → row_with (row_in body r) (pages_at book r) ≡ get_or book r None
  shown r lt = ap (λ (l : List ℕ). row_with l (pages_at book r)) (row_laid rows turn book numbers are r lt)
      ∙ shown_of r (get_or book r None) refl

  pages_are : pages_by BOOK_ROWS 0 (pages_at book) ≡ all_pages book
  pages_are = ap (λ k. pages_by k 0 (pages_at book)) (sym all)
      ∙ pages_listed book 0 (pages_at book) (λ s. ap (pages_at book) (let e : 0 + s ≡ s = omega arith in e))

  pub rows_are : rows_from BOOK_ROWS 0 body (all_pages book) ≡ book
  rows_are =
      ap (rows_from BOOK_ROWS 0 body) (sym pages_are)
      ∙ split_back BOOK_ROWS 0 body (pages_at book) (λ s le lt. long s (omega (arith, lt)))
      ∙ ap (λ k. rows_by k 0 (λ s. row_with (row_in body s) (pages_at book s))) (sym all)
      ∙ rows_listed book 0 (λ s. row_with (row_in body s) (pages_at book s))
      (λ s lt. ap (λ n. row_with (row_in body n) (pages_at book n)) (let e : 0 + s ≡ s = omega arith in e)
      ∙ shown s (omega (arith, lt, all)))

  module _ (fault_at : List ℕ → Option ℕ) (records : AreRecords fault_at book) where
    whole_of : (r : ℕ) (row : Option BookRow) → get_or book r None ≡ row
        → row_damage fault_at r (mark_text (row_mark row (get_or numbers r []))) (row_pages row) ≡ None
    whole_of r None is = absent_whole fault_at r
    whole_of r (Some row) is = row_whole fault_at r row (get_or numbers r []) (lawful r row is) (records r row is)

    whole : (r : ℕ) → r < BOOK_ROWS → row_damage fault_at r (row_in body r) (pages_at book r) ≡ None
    whole r lt = ap (λ (l : List ℕ). row_damage fault_at r l (pages_at book r)) (row_laid rows turn book numbers are r lt)
        ∙ whole_of r (get_or book r None) refl

    pub rows_whole : rows_damage fault_at body (all_pages book) ≡ None
    unfolding rows_damage
    rows_whole = ap (damage_from fault_at BOOK_ROWS 0 body) (sym pages_are)
        ∙ none_damaged fault_at BOOK_ROWS 0 body (pages_at book) (λ s le lt. long s (omega (arith, lt)))
        (λ s le lt. whole s (omega (arith, lt)))

-- A store of the rows that were read.
use Rattle.std.proofs.Common.{◌≡◌, ◌≢◌, ⊎_elim, ℕ, zero, suc, ◌+◌, ◌≤◌, ◌<◌, Bool, false, List, [], ◌∷◌, ◌++◌, Option, None, Some, get_or, length, map, replicate, refl, sym, ◌∙◌, ap, ap₂, subst, arith}
use Rattle.std.specs.Prelude.{All, slice_index}
use Rattle.std.proofs.lemmas.Bool.{cases_lt}
use Rattle.std.proofs.lemmas.List.{ext_get_or, get_or-map, get_or_past, length-map, length-replicate}
use Rattle.std.proofs.lemmas.List.Elements.{All-nil}
use Rattle.dr_disk.specs.State.{DiskState, OnSeen}
use Rattle.pages.specs.Snapshots.{shot, snapshot}
use Rattle.pages.specs.Tables.{counts, open_table, tables_standing}
use Rattle.pages.specs.Snapshots.{shot_of}
use Rattle.record_pages.specs.Tables.{entry_fault}
use Rattle.book_store.proofs.Books.Listed.{Book, mark_at, marks_long, pages_listed}
use Rattle.book_store.proofs.Books.RetireCall.{no_drops}
use Rattle.book_store.proofs.Books.Seen.{none_dropped}
use Rattle.book_store.proofs.Sayings.Said.{said_at, said_long}
use Rattle.book_store.proofs.Openings.RowPages.{read_all}
use Rattle.book_store.proofs.Openings.StoreShot.{shown_open, table_open}
use Rattle.book_store.specs.AtRest.{IsBookMarked, all_pages, row_mark, row_marks, row_pages}
use Rattle.book_store.specs.Held.{drops_seen, numbers_seen, row_seen}
use Rattle.book_store.specs.Layout.{book_layout}
use Rattle.book_store.specs.Locating.{HasBookShot, HoldsBook, IsStoreWith, store_with}
use Rattle.book_store.specs.Marks.{AreMarks, IsLaidTable, RowMark, book_body, marks_in}
use Rattle.book_store.specs.Readers.{HasReadRow, HaveReadRows}
use Rattle.book_store.specs.Reading.{AreRecords}
use Rattle.book_store.specs.RowReading.{pages_read}
use Rattle.book_store.specs.Rows.{book_names, pages_by, row_in}
use Rattle.book_store.specs.RowsReading.{AreRowsHeld, book_read}
use Rattle.book_store.specs.Shown.{BookRow}
use Rattle.book_store.specs.Store.{IsLawfulStore, numbers_at, pages_at}
use Rattle.book_store.specs.declared.desk.Desk.{Desk}
use Rattle.book_store.specs.declared.held.HeldRow.{HeldRow}
use Rattle.book_store.specs.declared.layout.TheConstants.{BOOK_ROWS, ROW_PAGES}

-- what stands in each row is told row by row
pages_same : (k r : ℕ) (f g : ℕ → List (List ℕ)) → ((s : ℕ) → r ≤ s → s < r + k → f s ≡ g s) → pages_by k r f ≡ pages_by k r g
pages_same zero r f g same = refl
pages_same (suc k) r f g same = ap₂ (λ (x y : List (List ℕ)). x ++ y) (same r (omega arith) (omega arith))
    (pages_same k (suc r) f g (λ s le lt. same s (omega arith) (omega arith)))

-- no row of a store in memory is staged
pub clear_drops : (rows : List HeldRow) → length rows ≡ BOOK_ROWS
    → drops_seen (replicate BOOK_ROWS false) rows ≡ replicate BOOK_ROWS []
clear_drops rows all = ap (λ n. drops_seen (replicate n false) rows) (sym all) ∙ none_dropped rows
    ∙ ap (λ n. replicate {A = List ℕ} n []) all

pub clear_lawful : (desk : Desk) (rows : List HeldRow) → length rows ≡ BOOK_ROWS
    → AreMarks desk.rows (row_marks (map row_seen rows) (map numbers_seen rows)) → IsLawfulStore (store_with desk rows)
clear_lawful desk rows all marks =
    let drops : (r : ℕ) → get_or (drops_seen (replicate BOOK_ROWS false) rows) r [] ≡ [] =
    λ r. ap (λ (l : List (List ℕ)). get_or l r []) (clear_drops rows all) ∙ no_drops BOOK_ROWS r in
    record {
      few = desk.few;
      high = desk.turns;
      held_all = length-map rows row_seen ∙ all;
      numbers_all = length-map rows numbers_seen ∙ all;
      staged_all = length-replicate BOOK_ROWS false;
      drops_all = ap (λ (l : List (List ℕ)). length l) (clear_drops rows all) ∙ length-replicate {A = List ℕ} BOOK_ROWS [];
      marks = marks;
      none = λ r not_so. drops r;
      drops = λ r. ap (entry_fault 0 ROW_PAGES [] 6) (drops r);
      apart = λ r. subst (All (λ n. All (λ m. m ≢ n) (numbers_at (store_with desk rows).mark (store_with desk rows).held r)))
          (sym (drops r)) (All-nil (λ n. All (λ m. m ≢ n) (numbers_at (store_with desk rows).mark (store_with desk rows).held r)));
    }

module _ {R : Type 0} (fault_at : List ℕ → Option ℕ) (has_read : R → List ℕ → Type 0) (count : ℕ) (body : List ℕ)
    (rows : List HeldRow) (readers : List (Option R)) (desk : Desk) (start : DiskState)
    (table : IsLaidTable count body) (low : 1 ≤ slice_index body 0)
    (are : AreRowsHeld fault_at has_read BOOK_ROWS body rows readers start) (count_is : desk.rows ≡ count)
    (turn_is : desk.turn ≡ slice_index body 0) (body_is : desk.body.items ≡ body) where
  abbrev held : Book
  held = map row_seen rows

  abbrev numbers : List (List ℕ)
  numbers = map numbers_seen rows

  held_long : length (map row_seen rows) ≡ BOOK_ROWS
  held_long = length-map rows row_seen ∙ are.all

  -- one of the rows
  module _ (P : ℕ → Type 0) (each : (d : HeldRow) (r : ℕ) → r < BOOK_ROWS → P r) where
    by_rows : (l : List HeldRow) → l ≡ rows → (r : ℕ) → r < BOOK_ROWS → P r
    by_rows [] is r lt = absurd (omega (arith, lt, are.all, ap (λ (x : List HeldRow). length x) is))
    by_rows (d ∷ l) is r lt = each d r lt

    by_row : (r : ℕ) → r < BOOK_ROWS → P r
    by_row r lt = by_rows rows refl r lt

  row_at : (d : HeldRow) (r : ℕ) → r < BOOK_ROWS → get_or (map row_seen rows) r None ≡ row_seen (get_or rows r d)
  row_at d r lt = get_or-map row_seen rows r d None (omega (arith, lt, are.all))

  numbers_here : (d : HeldRow) (r : ℕ) → r < BOOK_ROWS → get_or (map numbers_seen rows) r [] ≡ numbers_seen (get_or rows r d)
  numbers_here d r lt = get_or-map numbers_seen rows r d [] (omega (arith, lt, are.all))

  mark_here : (d : HeldRow) (r : ℕ) → r < BOOK_ROWS
      → get_or (row_marks (map row_seen rows) (map numbers_seen rows)) r None ≡ get_or (marks_in body) r None
  mark_here d r lt = mark_at (map row_seen rows) (map numbers_seen rows) r
      ∙ ap₂ (λ o (ns : List ℕ). row_mark o ns) (row_at d r lt) (numbers_here d r lt)
      ∙ (are.each r d lt).mark ∙ sym (said_at body r lt)

  marks_long_here : length (row_marks (map row_seen rows) (map numbers_seen rows)) ≡ BOOK_ROWS
  marks_long_here = marks_long (map row_seen rows) (map numbers_seen rows) ∙ held_long

  marks_are : row_marks (map row_seen rows) (map numbers_seen rows) ≡ marks_in body
  marks_are = ext_get_or None (row_marks (map row_seen rows) (map numbers_seen rows)) (marks_in body)
      (marks_long_here ∙ sym (said_long body))
      (λ r lt. by_row (λ r. get_or (row_marks (map row_seen rows) (map numbers_seen rows)) r None ≡ get_or (marks_in body) r None)
      mark_here r (omega (arith, lt, marks_long_here)))

  are_marks : AreMarks desk.rows (row_marks (map row_seen rows) (map numbers_seen rows))
  are_marks = subst (λ n. AreMarks n (row_marks (map row_seen rows) (map numbers_seen rows))) (sym count_is)
      (subst (AreMarks count) (sym marks_are) table.are)

  body_laid : body ≡ book_body desk.turn (row_marks (map row_seen rows) (map numbers_seen rows))
  body_laid = table.body_is ∙ ap₂ (λ t (m : List (Option RowMark)). book_body t m) (sym turn_is) (sym marks_are)

  some_turn : desk.turn ≢ 0
  some_turn none = absurd (omega (arith, low, turn_is, none))

  marked : IsBookMarked desk.rows (store_with desk rows).mark (store_with desk rows).held
  marked = record { high = desk.turns; marks = are_marks; none = λ zero. absurd (some_turn zero) }

  store : IsStoreWith desk rows
  store = record {
    lawful = clear_lawful desk rows are.all are_marks;
    laid = body_is ∙ body_laid;
    marked = marked;
  }

  -- what stands at its pages
  module _ (s : List ℕ) (told : start.seen ≡ Some s) where
    pages_here : (d : HeldRow) (r : ℕ) → r < BOOK_ROWS → pages_read r (row_in body r) s ≡ pages_at (map row_seen rows) r
    pages_here d r lt = (are.each r d lt).pages s told ∙ sym (ap row_pages (row_at d r lt))

    pages_are : book_read body s ≡ all_pages (map row_seen rows)
    pages_are =
        pages_same BOOK_ROWS 0 (λ r. pages_read r (row_in body r) s) (pages_at (map row_seen rows))
        (λ r le lt. by_row (λ r. pages_read r (row_in body r) s ≡ pages_at (map row_seen rows) r) pages_here r (omega (arith, lt)))
        ∙ ap (λ k. pages_by k 0 (pages_at (map row_seen rows))) (sym held_long)
        ∙ pages_listed (map row_seen rows) 0 (pages_at (map row_seen rows))
        (λ r. ap (pages_at (map row_seen rows)) (let e : 0 + r ≡ r = omega arith in e))

    shown : (second : Bool) → desk.second ≡ second → tables_standing (book_layout count) s ≡ counts second (open_table body)
        → HasBookShot (store_with desk rows) s
    unfolding snapshot
    shown second second_is stands =
        ap (λ n. snapshot book_names (book_layout n) s) count_is
        ∙ ap (shot_of book_names (book_layout count) s) stands
        ∙ (λ i. shot (record {
          second = sym second_is i;
          table = (ap open_table body_laid ∙ sym (table_open desk.rows (store_with desk rows).mark (store_with desk rows).held marked some_turn)) i;
          pages = (read_all count body s ∙ pages_are) i;
        }))
        ∙ sym (shown_open desk.rows (store_with desk rows).mark (store_with desk rows).held marked some_turn)

  texts : AreRecords fault_at (map row_seen rows)
  texts r row is = ⊎_elim
      (λ lt. by_row (λ r. (row : BookRow) → get_or (map row_seen rows) r None ≡ Some row → fault_at row.text ≡ None)
      (λ d r lt row is. (are.each r d lt).text row (sym (row_at d r lt) ∙ is)) r lt row is)
      (λ past. absurd (let e : None ≡ Some row = sym (get_or_past (map row_seen rows) r None (omega (arith, past, held_long))) ∙ is in cc))
      (cases_lt r BOOK_ROWS)

  read : HaveReadRows has_read readers (map row_seen rows)
  read = record {
    all = are.readers_all;
    each = by_row (λ r. HasReadRow has_read (get_or readers r None) (get_or (map row_seen rows) r None))
        (λ d r lt. subst (HasReadRow has_read (get_or readers r None)) (sym (row_at d r lt)) (are.read r d lt));
  }

  pub rows_hold : (second : Bool) → desk.second ≡ second
      → OnSeen (λ s. tables_standing (book_layout count) s ≡ counts second (open_table body)) start
      → HoldsBook fault_at has_read count readers desk rows start
  rows_hold second second_is stands = record {
    count_is = count_is;
    store = store;
    shown = λ s told. shown s told second second_is (stands s told);
    texts = texts;
    read = read;
    first = λ zero. absurd (some_turn zero);
  }

-- What a book that is laid out is read as.
use Rattle.std.proofs.Common.{◌≡◌, ℕ, Bool, true, false, List, Option, None, refl, sym, ◌∙◌, ap, subst}
use Rattle.std.specs.Prelude.{◌==◌, if◌then◌else◌}
use Rattle.std.proofs.lemmas.Bool.{eqb-true}
use Rattle.pages.specs.Snapshots.{Snapshot, kept_shot, no_shot, shot, snapshot}
use Rattle.pages.specs.Tables.{is_open, open_table, wiped}
use Rattle.book_store.proofs.Books.Listed.{Book}
use Rattle.book_store.proofs.Books.Zeros.{table_body}
use Rattle.book_store.proofs.FaultlessBooks.{laid_out}
use Rattle.book_store.specs.AtRest.{BookMark, IsBookMarked, all_pages, laid_book, row_marks}
use Rattle.book_store.specs.Committing.{HasRows}
use Rattle.book_store.specs.Judging.{book_fault}
use Rattle.book_store.specs.Layout.{book_layout}
use Rattle.book_store.specs.Marks.{book_body}
use Rattle.book_store.specs.Reading.{AreRecords, book_read_as, book_reading, has_rows, judged_book, rows_damage}
use Rattle.book_store.specs.Rows.{book_names}
use Rattle.book_store.specs.Shown.{rows_from, rows_in, stored_rows}
use Rattle.book_store.specs.declared.layout.TheConstants.{BOOK_ROWS, BOOK_TABLE}
use Rattle.book_store.proofs.Books.RowReadings.{rows_are, rows_whole, turn_opens}

-- ---- a book that is laid out

module _ (rows : ℕ) (mark : BookMark) (book : Book) (is : IsBookMarked rows mark book) where
  abbrev now : Snapshot
  now = laid_book mark book

  body_is : now.table.body ≡ book_body mark.turn (row_marks book mark.numbers)
  body_is = table_body rows mark book is

  open_rows : rows_in (shot now) ≡ book
  unfolding rows_in
  open_rows = ap (λ (b : List ℕ). rows_from BOOK_ROWS 0 b (all_pages book)) body_is
      ∙ rows_are rows mark.turn book mark.numbers is.marks

  open_read : (fault_at : List ℕ → Option ℕ) → AreRecords fault_at book
      → book_read_as fault_at rows (shot now) ≡ has_rows book
  open_read fault_at records =
      let k = if mark.second then 1 else 0 in
      ap (λ (b : List ℕ). judged_book k (book_fault rows b) (rows_damage fault_at b (all_pages book)) (rows_in (shot now))) body_is
      ∙ ap (λ o. judged_book k o (rows_damage fault_at (book_body mark.turn (row_marks book mark.numbers)) (all_pages book)) (rows_in (shot now)))
      (laid_out rows mark.turn (row_marks book mark.numbers) is.marks)
      ∙ ap (λ o. judged_book k None o (rows_in (shot now))) (rows_whole rows mark.turn book mark.numbers is.marks fault_at records)
      ∙ ap has_rows open_rows

  -- an open table, or none where the turn is 0
  closed_turn : is_open now.table ≡ false → mark.turn ≡ 0
  closed_turn shut = by (mark.turn == 0) refl shut
    where
      by : (none : Bool) → (mark.turn == 0) ≡ none
          → is_open (if none then wiped BOOK_TABLE else open_table (book_body mark.turn (row_marks book mark.numbers))) ≡ false
          → mark.turn ≡ 0
      by true none shut = eqb-true mark.turn 0 none
      by false other shut = absurd (let e : true ≡ false = sym (turn_opens mark.turn other is.high) ∙ shut in cc)

  shown_by : (o : Bool) → is_open now.table ≡ o → rows_in (if o then shot now else no_shot) ≡ book
  unfolding rows_in
  shown_by true is_so = open_rows
  shown_by false is_so = sym (is.none (closed_turn is_so))

  read_by : (o : Bool) → is_open now.table ≡ o → (fault_at : List ℕ → Option ℕ) → AreRecords fault_at book
      → book_read_as fault_at rows (if o then shot now else no_shot) ≡ has_rows book
  read_by true is_so fault_at records = open_read fault_at records
  read_by false is_so fault_at records = ap has_rows (shown_by false is_so)

  module _ (c : List ℕ) (same : snapshot book_names (book_layout rows) c ≡ kept_shot now) where
    pub stored : stored_rows rows c ≡ book
    unfolding stored_rows
    stored = ap rows_in same ∙ shown_by (is_open now.table) refl

    undamaged_as : (b : Book) → b ≡ book → (fault_at : List ℕ → Option ℕ) → AreRecords fault_at b
        → book_reading fault_at rows c ≡ has_rows b
    unfolding book_reading
    undamaged_as b is_b fault_at records =
        ap (book_read_as fault_at rows) same
        ∙ read_by (is_open now.table) refl fault_at (subst (AreRecords fault_at) is_b records)
        ∙ ap has_rows (sym is_b)

    pub has : HasRows rows book c
    has = record { are = stored; undamaged = undamaged_as (stored_rows rows c) stored }

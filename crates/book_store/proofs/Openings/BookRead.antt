-- What was read of a book, as callers are told.
use Rattle.std.proofs.Common.{◌≡◌, ℕ, Bool, List, Option, None, Some, get_or, map, replicate, sym, ◌∙◌, ap, subst}
use Rattle.std.specs.Prelude.{if◌then◌else◌}
use Rattle.std.proofs.lemmas.List.{get_or-replicate, length-replicate}
use Rattle.dr_disk.specs.State.{DiskState, OnSeen}
use Rattle.pages.specs.Snapshots.{shot, shot_of, snapshot}
use Rattle.pages.specs.Tables.{alike, counts, none_open, open_table, tables_standing}
use Rattle.pages.specs.Snapshots.{page_of}
use Rattle.book_store.proofs.Books.Over.{none_absent}
use Rattle.book_store.proofs.Books.Readings.{has}
use Rattle.book_store.proofs.Openings.RowPages.{read_all}
use Rattle.book_store.proofs.Openings.StoreShot.{shown_none}
use Rattle.book_store.specs.AtRest.{IsBookMarked}
use Rattle.book_store.specs.Judging.{book_fault}
use Rattle.book_store.specs.Layout.{book_layout}
use Rattle.book_store.specs.Locating.{HasBookShot, HoldsBook, HoldsNone, IsCause, IsLocated, IsNoneLocated, store_with}
use Rattle.book_store.specs.Readers.{HasReadRow, HaveReadRows}
use Rattle.book_store.specs.Reading.{AreRecords, RowDamage, book_read_as, book_reading, damaged_row, damaged_table, has_rows, judged_book, rows_damage}
use Rattle.book_store.specs.Rows.{book_names}
use Rattle.book_store.specs.RowsReading.{book_read}
use Rattle.book_store.specs.Shown.{absent, rows_in}
use Rattle.book_store.specs.Store.{BookStore}
use Rattle.book_store.specs.declared.desk.Desk.{Desk}
use Rattle.book_store.specs.declared.held.HeldRow.{HeldRow}
use Rattle.book_store.specs.declared.locating.Located.{Located}
use Rattle.book_store.specs.declared.locating.Located.TheVariants.{Held, Refused}
use Rattle.book_store.specs.declared.layout.TheConstants.{BOOK_ROWS}

-- rows that count are read
pub rows_reading : (fault_at : List ℕ → Option ℕ) (store : BookStore) (s : List ℕ)
    → IsBookMarked store.rows store.mark store.held → HasBookShot store s → AreRecords fault_at store.held
    → book_reading fault_at store.rows s ≡ has_rows store.held
rows_reading fault_at store s marked shown records =
    let rows = has store.rows store.mark store.held marked s shown in
    rows.undamaged fault_at (subst (AreRecords fault_at) (sym rows.are) records) ∙ ap has_rows rows.are

-- ---- damage

-- both tables are open, and neither is newer
pub alike_reading : (fault_at : List ℕ → Option ℕ) (count : ℕ) (s : List ℕ) → tables_standing (book_layout count) s ≡ alike
    → book_reading fault_at count s ≡ damaged_table 1 1
unfolding book_reading snapshot
alike_reading fault_at count s is = ap (λ o. book_read_as fault_at count (shot_of book_names (book_layout count) s o)) is

module _ (fault_at : List ℕ → Option ℕ) (count : ℕ) (second : Bool) (body s : List ℕ)
    (stands : tables_standing (book_layout count) s ≡ counts second (open_table body)) where
  pub table_reading : (at : ℕ) → book_fault count body ≡ Some at
      → book_reading fault_at count s ≡ damaged_table (if second then 1 else 0) at
  unfolding book_reading snapshot
  table_reading at is =
      ap (λ o. book_read_as fault_at count (shot_of book_names (book_layout count) s o)) stands
      ∙ ap (λ f. judged_book (if second then 1 else 0) f (rows_damage fault_at body map_of)
      (rows_in (shot (record { second = second; table = open_table body; pages = map_of })))) is
    where
      map_of : List (List ℕ)
      map_of = map (page_of (book_layout count) s) (book_names body)

  pub row_reading : (damage : RowDamage) → book_fault count body ≡ None
      → rows_damage fault_at body (book_read body s) ≡ Some damage → book_reading fault_at count s ≡ damaged_row damage
  unfolding book_reading snapshot
  row_reading damage none is =
      ap (λ o. book_read_as fault_at count (shot_of book_names (book_layout count) s o)) stands
      ∙ ap (λ f. judged_book (if second then 1 else 0) f (rows_damage fault_at body map_of)
      (rows_in (shot (record { second = second; table = open_table body; pages = map_of })))) none
      ∙ ap (λ d. judged_book (if second then 1 else 0) None d
      (rows_in (shot (record { second = second; table = open_table body; pages = map_of }))))
      (ap (rows_damage fault_at body) (read_all count body s) ∙ is)
    where
      map_of : List (List ℕ)
      map_of = map (page_of (book_layout count) s) (book_names body)

-- ---- no table is open

absent_records : (fault_at : List ℕ → Option ℕ) → AreRecords fault_at (absent BOOK_ROWS)
absent_records fault_at r row is = absurd (let e : None ≡ Some row = sym (none_absent BOOK_ROWS r) ∙ is in cc)

absent_read : {R : Type 0} (has_read : R → List ℕ → Type 0) → HaveReadRows has_read (replicate BOOK_ROWS None) (absent BOOK_ROWS)
absent_read {R = R} has_read = record {
  all = length-replicate {A = Option R} BOOK_ROWS None;
  each = λ r lt. subst (HasReadRow has_read (get_or (replicate {A = Option R} BOOK_ROWS None) r None)) (sym (none_absent BOOK_ROWS r))
      (subst (λ o. HasReadRow has_read o None) (sym (get_or-replicate BOOK_ROWS r None None lt)) tt);
}

none_shown : {R : Type 0} (count : ℕ) (readers : List (Option R)) (desk : Desk) (rows : List HeldRow) (s : List ℕ)
    → HoldsNone count readers desk rows → tables_standing (book_layout count) s ≡ none_open → HasBookShot (store_with desk rows) s
unfolding snapshot
none_shown count readers desk rows s is none =
    ap (λ n. snapshot book_names (book_layout n) s) is.count_is
    ∙ ap (shot_of book_names (book_layout count) s) none
    ∙ sym (shown_none desk.rows (store_with desk rows).mark (store_with desk rows).held is.store.marked is.turn)

pub none_hold : {R : Type 0} (fault_at : List ℕ → Option ℕ) (has_read : R → List ℕ → Type 0) (count : ℕ)
    (readers : List (Option R)) (desk : Desk) (rows : List HeldRow) (start : DiskState)
    → HoldsNone count readers desk rows → OnSeen (λ s. tables_standing (book_layout count) s ≡ none_open) start
    → HoldsBook fault_at has_read count readers desk rows start
none_hold fault_at has_read count readers desk rows start is closed = record {
  count_is = is.count_is;
  store = is.store;
  shown = λ s told. none_shown count readers desk rows s is (closed s told);
  texts = subst (AreRecords fault_at) (sym is.absent) (absent_records fault_at);
  read = subst (λ b. HaveReadRows has_read readers b) (sym is.absent)
      (subst (λ l. HaveReadRows has_read l (absent BOOK_ROWS)) (sym is.none) (absent_read has_read));
  first = λ none. is.second;
}

-- a book of which no table is open, or no memory for it
pub none_located : {R : Type 0} (fault_at : List ℕ → Option ℕ) (has_read : R → List ℕ → Type 0) (count : ℕ)
    (readers : List (Option R)) (start : DiskState) (x : Located) → IsNoneLocated count readers x
    → OnSeen (λ s. tables_standing (book_layout count) s ≡ none_open) start → IsLocated fault_at has_read count readers start x
none_located fault_at has_read count readers start (Held desk rows) is closed =
    none_hold fault_at has_read count readers desk rows.items start is closed
none_located fault_at has_read count readers start (Refused error) is closed =
    subst (λ e. IsCause fault_at count e start) (sym is) tt

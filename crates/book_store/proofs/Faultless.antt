-- A table that is laid out has no fault.
use Rattle.std.proofs.Common.{◌≡◌, ◌≢◌, ℕ, zero, suc, ◌+◌, ◌-◌, ◌^◌, ◌≤◌, ◌<◌, Bool, true, false, List, ◌++◌, Option, None, Some, get_or, length, take, drop, replicate, refl, sym, ◌∙◌, ap, append_assoc, arith}
use Rattle.std.specs.Prelude.{All, ◌&&◌, not, nat_le, nat_lt, if◌then◌else◌, slice_range}
use Rattle.std.specs.Str.{bytes_eq}
use Rattle.std.proofs.lemmas.Bool.{and_from, and_parts, le-leb, leb-true, lt-ltb, not_from_false, or_from}
use Rattle.std.proofs.lemmas.Slice.Eq.{bytes_eq-Decides}
use Rattle.std.proofs.lemmas.List.{drop-drop, drop-replicate, length-replicate}
use Rattle.std.proofs.lemmas.List.Elements.{All-weaker}
use Rattle.std.proofs.Math.Seq.{drop-append_seam, take-append_seam}
use Rattle.record_pages.specs.Tables.{nonzero_from, or_else, table_fault}
use Rattle.record_pages.proofs.Filled.{count_covers}
use Rattle.record_pages.proofs.LawfulEntries.{IsEntry, entries_lawful}
use Rattle.relay_wire.specs.Names.{is_name, is_name_byte}
use Rattle.relay_wire.specs.declared.limits.TheConstants.{NAME_LIMIT}
use Rattle.std.specs.List.{list_all}
use Rattle.book_store.specs.Judging.{is_named, is_taken, name_fault, pages_fault, placed, row_at, row_fault, rows_fault}
use Rattle.book_store.specs.Marks.{AreMarks, IsRowMark, RowMark, mark_text}
use Rattle.book_store.specs.Rows.{absent_row, name_in, row_in, row_rest, row_text}
use Rattle.book_store.specs.declared.layout.TheConstants.{BOOK_ROWS, RECORD_PLACE, ROW_MOST, ROW_PAGES, TABLE_ROW}
use Rattle.book_store.proofs.Bodies.{row_long}
use Rattle.book_store.proofs.Names.{name_back, record_back}
use Rattle.book_store.proofs.RowTables.{laid_table, zeros_none}

-- ---- one row

-- a name has so many bytes
pub name_long : (name : List ℕ) → is_name name ≡ true → (1 ≤ length name) × (length name ≤ NAME_LIMIT)
unfolding is_name
name_long name is =
    let first = (and_parts (nat_le 1 (length name) && nat_le (length name) NAME_LIMIT) (list_all is_name_byte name) is).0 in
    let both = and_parts (nat_le 1 (length name)) (nat_le (length name) NAME_LIMIT) first in
    (leb-true 1 (length name) both.0, leb-true (length name) NAME_LIMIT both.1)

module _ (mark : RowMark) (is : IsRowMark mark) where
  abbrev row : List ℕ
  row = row_text mark.name mark.len mark.numbers

  named_long : length mark.name ≤ NAME_LIMIT
  named_long = (name_long mark.name is.named).1

  pub mark_small : mark.len < 2 ^ 32
  mark_small = omega (arith, count_covers mark.len, is.few)

  pub mark_numbers_small : All (λ n. n < 2 ^ 16) mark.numbers
  mark_numbers_small = All-weaker (IsEntry 0 ROW_PAGES) (λ n. n < 2 ^ 16) (λ n entry. omega (arith, entry.1)) mark.numbers
      (entries_lawful 0 ROW_PAGES mark.numbers is.entries).within

  pub mark_sized : length row ≡ TABLE_ROW
  mark_sized = row_long mark.name mark.len mark.numbers named_long (omega (arith, is.each, is.few))

  no_pages_fault : (r : ℕ) → pages_fault r row ≡ None
  no_pages_fault r =
      ap (λ (l : List ℕ). placed r (table_fault 0 ROW_PAGES ROW_MOST l))
      (record_back mark.name mark.len mark.numbers named_long)
      ∙ ap (placed r) (laid_table 0 ROW_PAGES ROW_MOST _ mark.len mark.numbers _ is.few is.each mark_small
      mark_numbers_small is.entries)

  -- zeros fill the room of the name
  filled : slice_range row (2 + length mark.name) (RECORD_PLACE + 1) ≡ replicate (NAME_LIMIT - length mark.name) 0
  filled =
      let zeros = replicate {A = ℕ} (NAME_LIMIT - length mark.name) 0 in
      let rest = row_rest mark.len mark.numbers in
      ap (take (RECORD_PLACE + 1 - (2 + length mark.name)))
      (sym (drop-drop (length mark.name) 2 row)
      ∙ ap (drop (length mark.name)) (append_assoc mark.name zeros rest) ∙ drop-append_seam mark.name (zeros ++ rest))
      ∙ ap (λ k. take k (zeros ++ rest)) (let e : RECORD_PLACE + 1 - (2 + length mark.name) ≡ length zeros =
      omega (arith, length-replicate {A = ℕ} (NAME_LIMIT - length mark.name) 0) in e)
      ∙ take-append_seam zeros rest

  no_name_fault : (body : List ℕ) (r : ℕ) → is_taken r body mark.name ≡ false → name_fault body r row ≡ None
  unfolding name_fault
  no_name_fault body r free =
      let long = name_long mark.name is.named in
      let back = name_back mark.name mark.len mark.numbers in
      let zeros = nonzero_from (row_at r + 2 + length mark.name)
      (slice_range row (2 + length mark.name) (RECORD_PLACE + 1)) in
      ap (λ t. if t
      then (if is_name (name_in row) && not (is_taken r body (name_in row)) then zeros else Some (row_at r + 2))
      else Some (row_at r + 1))
      (and_from (nat_le 1 (length mark.name)) (nat_le (length mark.name) NAME_LIMIT)
      (le-leb 1 (length mark.name) long.0) (le-leb (length mark.name) NAME_LIMIT long.1))
      ∙ ap (λ (n : List ℕ). if is_name n && not (is_taken r body n) then zeros else Some (row_at r + 2)) back
      ∙ ap (λ t. if t then zeros else Some (row_at r + 2))
      (and_from (is_name mark.name) (not (is_taken r body mark.name)) is.named
      (not_from_false (is_taken r body mark.name) free))
      ∙ ap (nonzero_from (row_at r + 2 + length mark.name)) filled
      ∙ zeros_none (NAME_LIMIT - length mark.name) (row_at r + 2 + length mark.name)

  pub no_row_fault : (body : List ℕ) (r : ℕ) → is_taken r body mark.name ≡ false → row_fault true body r row ≡ None
  unfolding row_fault
  no_row_fault body r free =
      ap (λ f. or_else f (pages_fault r row)) (no_name_fault body r free) ∙ no_pages_fault r

pub no_absent_fault : (may : Bool) (body : List ℕ) (r : ℕ) → row_fault may body r absent_row ≡ None
unfolding row_fault
no_absent_fault may body r =
    ap (nonzero_from (row_at r + 1)) (drop-replicate 1 TABLE_ROW 0) ∙ zeros_none (TABLE_ROW - 1) (row_at r + 1)

-- ---- all rows

different : (a b : List ℕ) → a ≢ b → bytes_eq a b ≡ false
different a b other = by (bytes_eq a b) refl
  where
    by : (t : Bool) → bytes_eq a b ≡ t → t ≡ false
    by true is = absurd (other ((bytes_eq-Decides a b).0 is))
    by false is = refl

module _ (rows : ℕ) (marks : List (Option RowMark)) (are : AreMarks rows marks) (body : List ℕ)
    (laid : (r : ℕ) → r < BOOK_ROWS → row_in body r ≡ mark_text (get_or marks r None)) where
  -- no row is under a name that it doesn't have
  unnamed : (name : List ℕ) (mark : Option RowMark) → ((other : RowMark) → mark ≡ Some other → other.name ≢ name)
      → is_named (mark_text mark) name ≡ false
  unfolding is_named
  unnamed name None others = refl
  unnamed name (Some mark) others =
      ap (λ (n : List ℕ). bytes_eq n name) (name_back mark.name mark.len mark.numbers)
      ∙ different mark.name name (others mark refl)

  free : (name : List ℕ) (r : ℕ) → r ≤ BOOK_ROWS
      → ((q : ℕ) (other : RowMark) → q < r → get_or marks q None ≡ Some other → other.name ≢ name)
      → is_taken r body name ≡ false
  free name zero le others = refl
  free name (suc r) le others =
      or_from (is_taken r body name) (is_named (row_in body r) name)
      (free name r (omega arith) (λ q other lt. others q other (omega arith)))
      (ap (λ (l : List ℕ). is_named l name) (laid r (omega arith))
      ∙ unnamed name (get_or marks r None) (λ other. others r other (omega arith)))

  row_faultless : (r : ℕ) (mark : Option RowMark) → r < BOOK_ROWS → get_or marks r None ≡ mark
      → row_fault (nat_lt r rows) body r (mark_text mark) ≡ None
  row_faultless r None lt is = no_absent_fault (nat_lt r rows) body r
  row_faultless r (Some mark) lt is =
      ap (λ may. row_fault may body r (mark_text (Some mark))) (lt-ltb r rows (are.inside r mark is))
      ∙ no_row_fault mark (are.lawful r mark is) body r (free mark.name r (omega arith)
      (λ q other before there. are.differ q r other mark there is (λ e. omega (arith, e, before))))

  pub rows_faultless : (k r : ℕ) → r + k ≡ BOOK_ROWS → rows_fault k r rows body ≡ None
  rows_faultless zero r all = refl
  rows_faultless (suc k) r all =
      ap (λ f. or_else f (rows_fault k (suc r) rows body))
      (ap (row_fault (nat_lt r rows) body r) (laid r (omega arith))
      ∙ row_faultless r (get_or marks r None) (omega arith) refl)
      ∙ rows_faultless k (suc r) (omega arith)

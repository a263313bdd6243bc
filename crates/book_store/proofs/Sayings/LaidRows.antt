-- A row without a fault is the one that is laid out from what it says.
use Rattle.std.proofs.Common.{◌≡◌, ℕ, ◌+◌, ◌-◌, ◌*◌, ◌≤◌, Bool, true, false, List, [], ◌∷◌, ◌++◌, None, Some, length, take, drop, replicate, refl, sym, ◌∙◌, ap, ap₂, subst, arith, length-drop, if◌then◌else◌}
use Rattle.std.specs.Prelude.{◌==◌, ◌&&◌, slice_index}
use Rattle.std.specs.Int.{w32, to_be_bytes}
use Rattle.std.proofs.lemmas.Bool.{eqb-true}
use Rattle.std.proofs.lemmas.Nat.{be_bytes_4}
use Rattle.std.proofs.lemmas.List.{drop-drop, length-take-le, take-append-drop}
use Rattle.dr_base.specs.Bytes.{AreBytes}
use Rattle.dr_base.proofs.Bytes.{AreBytes-drop, AreBytes-take, byte_at}
use Rattle.record_pages.specs.Pages.{page_count}
use Rattle.record_pages.specs.Tables.{entry_fault, length_in, nonzero_from, or_else, printed, record_names, table_fault}
use Rattle.paged_records.proofs.Printed.{IsSound, all_zeros, names_long, printed_names, sound}
use Rattle.paged_records.proofs.ReadPages.{take_both}
use Rattle.relay_wire.specs.declared.limits.TheConstants.{NAME_LIMIT}
use Rattle.book_store.specs.Judging.{name_fault, pages_fault, row_at, row_fault}
use Rattle.book_store.specs.Marks.{IsLaidRow, IsRowMark, RowMark, mark_in, mark_text}
use Rattle.book_store.specs.Rows.{absent_row, name_in, record_table, row_head, row_length, row_names, row_rest, row_text}
use Rattle.book_store.specs.declared.layout.TheConstants.{RECORD_PLACE, ROW_MOST, ROW_PAGES, TABLE_ROW}
use Rattle.book_store.proofs.Sayings.RowFaults.{IsNamed, is_present, present}

first_two : (row : List ℕ) → 2 ≤ length row → row ≡ slice_index row 0 ∷ (slice_index row 1 ∷ drop 2 row)
first_two [] long = absurd (omega arith)
first_two (a ∷ []) long = absurd (omega arith)
first_two (a ∷ b ∷ rest) long = refl

first_one : (row : List ℕ) → 1 ≤ length row → row ≡ slice_index row 0 ∷ drop 1 row
first_one [] long = absurd (omega arith)
first_one (a ∷ rest) long = refl

-- ---- its bytes

module _ (row : List ℕ) (long : length row ≡ TABLE_ROW) where
  module _ (may : Bool) (body : List ℕ) (r : ℕ) (none : row_fault may body r row ≡ None) where
    blank_rest : (slice_index row 0 == 0) ≡ true → nonzero_from (row_at r + 1) (drop 1 row) ≡ None
    unfolding row_fault
    blank_rest zero = sym (ap (λ b. if b then nonzero_from (row_at r + 1) (drop 1 row)
        else (if slice_index row 0 == 1 && may then or_else (name_fault body r row) (pages_fault r row) else Some (row_at r))) zero) ∙ none

    pub absent_bytes : (slice_index row 0 == 0) ≡ true → row ≡ absent_row
    absent_bytes zero =
        first_one row (omega (arith, long))
        ∙ ap₂ (λ (x : ℕ) (l : List ℕ). x ∷ l) (eqb-true (slice_index row 0) 0 zero)
        (all_zeros (drop 1 row) (row_at r + 1) (blank_rest zero)
        ∙ ap (λ n. replicate n 0) (let e : length (drop 1 row) ≡ TABLE_ROW - 1 = omega (arith, length-drop 1 row, long) in e))

  module _ (are : AreBytes row) (body : List ℕ) (r : ℕ) (one : slice_index row 0 ≡ 1) (named : IsNamed body r row)
      (table : table_fault 0 ROW_PAGES ROW_MOST (record_table row) ≡ None) where
    abbrev len : ℕ
    len = slice_index row 1

    name_long : length (name_in row) ≡ len
    name_long = length-take-le len (drop 2 row) (omega (arith, length-drop 2 row, long, named.high))

    -- zeros fill the room of the name
    filled : take (NAME_LIMIT - len) (drop len (drop 2 row)) ≡ replicate (NAME_LIMIT - len) 0
    filled =
        let same : take (RECORD_PLACE + 1 - (2 + len)) (drop (2 + len) row) ≡ take (NAME_LIMIT - len) (drop len (drop 2 row)) =
        ap₂ (λ n (l : List ℕ). take n l) (let e : RECORD_PLACE + 1 - (2 + len) ≡ NAME_LIMIT - len = omega arith in e)
        (sym (drop-drop len 2 row)) in
        let size : length (take (NAME_LIMIT - len) (drop len (drop 2 row))) ≡ NAME_LIMIT - len =
        length-take-le (NAME_LIMIT - len) (drop len (drop 2 row))
        (omega (arith, length-drop len (drop 2 row), length-drop 2 row, long, named.high)) in
        sym same ∙ all_zeros (take (RECORD_PLACE + 1 - (2 + len)) (drop (2 + len) row)) (row_at r + 2 + len) named.zeros
        ∙ ap (λ n. replicate n 0) (ap (λ (l : List ℕ). length l) same ∙ size)

    room : take NAME_LIMIT (drop 2 row) ≡ name_in row ++ replicate (NAME_LIMIT - length (name_in row)) 0
    room =
        ap (λ n. take n (drop 2 row)) (let e : NAME_LIMIT ≡ len + (NAME_LIMIT - len) = omega (arith, named.high) in e)
        ∙ sym (take_both len (NAME_LIMIT - len) (drop 2 row))
        ∙ ap (λ (l : List ℕ). name_in row ++ l) (filled ∙ ap (λ n. replicate (NAME_LIMIT - n) 0) (sym name_long))

    head : take (RECORD_PLACE + 1) row ≡ row_head (name_in row)
    head =
        ap (take (RECORD_PLACE + 1)) (first_two row (omega (arith, long)))
        ∙ ap (λ (l : List ℕ). slice_index row 0 ∷ (len ∷ l)) room
        ∙ ap₂ (λ a b. a ∷ (b ∷ (name_in row ++ replicate (NAME_LIMIT - length (name_in row)) 0))) one (sym name_long)

    table_long : length (record_table row) ≡ TABLE_ROW - RECORD_PLACE
    table_long = omega (arith, length-drop RECORD_PLACE row, long)

    table_bytes : AreBytes (record_table row)
    table_bytes = AreBytes-drop RECORD_PLACE row are

    is : IsSound 0 ROW_PAGES ROW_MOST (record_table row)
    is = sound 0 ROW_PAGES ROW_MOST (record_table row) table

    abbrev k : ℕ
    k = 2 * page_count (length_in (record_table row))

    names_are : row_names row ≡ record_names (record_table row)
    unfolding row_names
    names_are = ap (λ n. if n == 1 then record_names (record_table row) else []) one

    size : take 4 (drop 1 (record_table row)) ≡ to_be_bytes w32 (row_length row)
    size =
        let four : length (take 4 (drop 1 (record_table row))) ≡ 4 =
        length-take-le 4 (drop 1 (record_table row)) (omega (arith, length-drop 1 (record_table row), table_long)) in
        sym (be_bytes_4 (take 4 (drop 1 (record_table row))) (row_length row) four
        (λ i. byte_at (take 4 (drop 1 (record_table row))) i
        (AreBytes-take 4 (drop 1 (record_table row)) (AreBytes-drop 1 (record_table row) table_bytes))) refl)

    numbers : take k (drop 4 (drop 1 (record_table row))) ≡ printed (row_names row)
    numbers =
        ap (take k) (drop-drop 4 1 (record_table row))
        ∙ sym (printed_names (record_table row) (omega (arith, is.fits, table_long)) (λ i. byte_at (record_table row) i table_bytes))
        ∙ ap printed (sym names_are)

    numbers_long : length (row_names row) ≡ page_count (row_length row)
    numbers_long = ap (λ (l : List ℕ). length l) names_are ∙ names_long (record_table row)

    zeros : drop k (drop 4 (drop 1 (record_table row)))
        ≡ replicate (TABLE_ROW - RECORD_PLACE - (5 + 2 * length (row_names row))) 0
    zeros =
        ap (drop k) (drop-drop 4 1 (record_table row))
        ∙ drop-drop k 5 (record_table row)
        ∙ all_zeros (drop (5 + k) (record_table row)) (6 + k) is.zeros
        ∙ ap (λ n. replicate n 0) (omega (arith, length-drop (5 + k) (record_table row), numbers_long, is.fits, table_long))

    rest : drop (RECORD_PLACE + 1) row ≡ row_rest (row_length row) (row_names row)
    rest =
        sym (drop-drop 1 RECORD_PLACE row)
        ∙ sym (take-append-drop 4 (drop 1 (record_table row)))
        ∙ ap₂ (λ (x y : List ℕ). x ++ y) size
        (sym (take-append-drop k (drop 4 (drop 1 (record_table row)))) ∙ ap₂ (λ (x y : List ℕ). x ++ y) numbers zeros)

    pub present_bytes : row ≡ row_text (name_in row) (row_length row) (row_names row)
    present_bytes = sym (take-append-drop (RECORD_PLACE + 1) row) ∙ ap₂ (λ (x y : List ℕ). x ++ y) head rest

    pub present_mark : IsRowMark (record { name = name_in row; len = row_length row; numbers = row_names row })
    present_mark = record {
      named = named.named;
      few = is.fits;
      each = numbers_long;
      entries = ap (entry_fault 0 ROW_PAGES [] 6) names_are ∙ is.entries;
    }

-- ---- what it says

pub mark_absent : (row : List ℕ) → slice_index row 0 ≡ 0 → mark_in row ≡ None
unfolding mark_in
mark_absent row zero = ap (λ n. if n == 1
    then Some (record { name = name_in row; len = row_length row; numbers = row_names row }) else None) zero

pub mark_present : (row : List ℕ) → slice_index row 0 ≡ 1
    → mark_in row ≡ Some (record { name = name_in row; len = row_length row; numbers = row_names row })
unfolding mark_in
mark_present row one = ap (λ n. if n == 1
    then Some (record { name = name_in row; len = row_length row; numbers = row_names row }) else None) one

-- it is laid out
pub row_laid : (row : List ℕ) → length row ≡ TABLE_ROW → AreBytes row → (may : Bool) (body : List ℕ) (r : ℕ)
    → row_fault may body r row ≡ None → IsLaidRow row
row_laid row long are may body r none = by (slice_index row 0 == 0) refl
  where
    by : (b : Bool) → (slice_index row 0 == 0) ≡ b → IsLaidRow row
    by true zero =
        let said = mark_absent row (eqb-true (slice_index row 0) 0 zero) in
        record {
          lawful = λ mark is. absurd (let e : None ≡ Some mark = sym said ∙ is in cc);
          text = absent_bytes row long may body r none zero ∙ ap mark_text (sym said);
        }
    by false other =
        let one = is_present may body r row none other in
        let is = present may body r row none other in
        let said = mark_present row one in
        record {
          lawful = λ mark same. subst IsRowMark (inner _ mark (sym said ∙ same))
              (present_mark row long are body r one is.name is.table);
          text = present_bytes row long are body r one is.name is.table ∙ ap mark_text (sym said);
        }
      where
        inner : (x y : RowMark) → Some x ≡ Some y → x ≡ y
        inner x y h = cc

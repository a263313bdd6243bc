-- A row in memory, as it was read.
use Rattle.std.proofs.Common.{◌≡◌, ℕ, ◌<◌, Bool, true, List, [], ◌∷◌, ◌++◌, Option, None, Some, length, map, refl, sym, ◌∙◌, ap, ap₂, subst, arith}
use Rattle.std.specs.Prelude.{◌==◌, if◌then◌else◌, slice_index}
use Rattle.std.proofs.lemmas.List.{length-take-le}
use Rattle.std.proofs.lemmas.List.Elements.{All-nil}
use Rattle.dr_disk.specs.State.{DiskState, OnSeen}
use Rattle.pages.specs.Snapshots.{page_of}
use Rattle.record_pages.specs.Pages.{pages_in}
use Rattle.record_pages.specs.Tables.{entry_fault, record_names}
use Rattle.relay_wire.specs.Names.{is_name}
use Rattle.paged_records.specs.declared.kept.Kept.{Kept}
use Rattle.paged_records.specs.Faults.{record_fault}
use Rattle.book_store.proofs.Books.RowReadings.{row_whole}
use Rattle.book_store.proofs.Books.Storing.{mark_of}
use Rattle.book_store.proofs.Sayings.LaidRows.{mark_absent, mark_present}
use Rattle.book_store.proofs.Sayings.Said.{said}
use Rattle.book_store.proofs.Openings.RowLoaded.{IsPresentAs}
use Rattle.book_store.specs.AtRest.{row_mark, row_pages}
use Rattle.book_store.specs.Held.{numbers_seen, row_seen, seen_as}
use Rattle.book_store.specs.Kept.{AreOwnNumbers, IsRowRecord, text_of}
use Rattle.book_store.specs.Marks.{IsLaidRow, IsRowMark, RowMark, mark_in, mark_text}
use Rattle.book_store.specs.Readers.{HasReadRow}
use Rattle.book_store.specs.Reading.{damage_at, row_damage}
use Rattle.book_store.specs.RowReading.{IsAbsentAdded, IsAbsentRead, IsRowAdded, IsRowHeld, IsRowKept, IsRowRead, IsRowRefused, pages_read, row_layout}
use Rattle.book_store.specs.Rows.{name_in, record_table, row_length, row_names}
use Rattle.book_store.specs.Shown.{BookRow}
use Rattle.book_store.specs.declared.errors.BookOpenError.{BookOpenError}
use Rattle.book_store.specs.declared.held.HeldRow.{HeldRow}
use Rattle.book_store.specs.declared.layout.TheConstants.{ROW_PAGES}

-- one that is present
module _ (fault_at : List ℕ → Option ℕ) (row : List ℕ) (kept : Kept) (held : HeldRow)
    (name_is : held.name ≡ Some (name_in row)) (kept_is : held.kept ≡ kept) (one : slice_index row 0 ≡ 1)
    (is : IsRowKept fault_at row kept) where
  abbrev row_shown : BookRow
  row_shown = record { name = name_in row; text = text_of kept }

  shown : row_seen held ≡ Some (record { name = name_in row; text = text_of kept })
  shown = ap₂ (λ n (k : Kept). seen_as n (text_of k)) name_is kept_is

  text_long : length (text_of kept) ≡ row_length row
  text_long = length-take-le kept.len kept.bytes.items (omega (arith, kept.covers, kept.fits)) ∙ is.len

  mark_is : row_mark (row_seen held) (numbers_seen held) ≡ mark_in row
  mark_is =
      ap₂ (λ o (ns : List ℕ). row_mark o ns) shown (ap (λ (k : Kept). k.numbers.items) kept_is ∙ is.numbers)
      ∙ ap (λ n. Some (record { name = name_in row; len = n; numbers = row_names row })) text_long
      ∙ sym (mark_present row one)

  text_is : (other : BookRow) → row_seen held ≡ Some other → fault_at other.text ≡ None
  text_is other other_is = ap fault_at (ap (λ (b : BookRow). b.text) (inner other row_shown (sym other_is ∙ shown))) ∙ is.text
    where
      inner : (x y : BookRow) → Some x ≡ Some y → x ≡ y
      inner x y h = cc

  pub held_present : (r : ℕ) (disk : DiskState) → OnSeen (λ s. pages_read r row s ≡ pages_in (text_of kept)) disk
      → IsRowHeld fault_at r row held disk
  held_present r disk pages = record {
    mark = mark_is;
    text = text_is;
    pages = λ s told. pages s told ∙ sym (ap row_pages shown);
  }

  pub read_present : {R : Type 0} (has_read : R → List ℕ → Type 0) (reader : R) → has_read reader (text_of kept)
      → HasReadRow has_read (Some reader) (row_seen held)
  read_present has_read reader read = subst (HasReadRow has_read (Some reader)) (sym shown) read

-- one that is absent
no_names : (row : List ℕ) → slice_index row 0 ≡ 0 → row_names row ≡ []
unfolding row_names
no_names row zero = ap (λ n. if n == 1 then record_names (record_table row) else []) zero

module _ (fault_at : List ℕ → Option ℕ) (row : List ℕ) (held : HeldRow) (absent : held.name ≡ None)
    (zero : slice_index row 0 ≡ 0) where
  hidden : row_seen held ≡ None
  hidden = ap (λ n. seen_as n (text_of held.kept)) absent

  pub held_absent : (r : ℕ) (disk : DiskState) → IsRowHeld fault_at r row held disk
  held_absent r disk = record {
    mark = ap (λ o. row_mark o (numbers_seen held)) hidden ∙ sym (mark_absent row zero);
    text = λ shown is. absurd (let e : None ≡ Some shown = sym hidden ∙ is in cc);
    pages = λ s told. ap (λ (ns : List ℕ). map (page_of (row_layout r) s) ns) (no_names row zero) ∙ sym (ap row_pages hidden);
  }

  pub read_absent : {R : Type 0} (has_read : R → List ℕ → Type 0) → HasReadRow has_read None (row_seen held)
  read_absent has_read = subst (HasReadRow has_read None) (sym hidden) tt

-- ---- a row that is held has no damage

unsaid : (fault_at : List ℕ → Option ℕ) (r : ℕ) (row : List ℕ) (pages : List (List ℕ)) → slice_index row 0 ≡ 0
    → row_damage fault_at r row pages ≡ None
unfolding row_damage
unsaid fault_at r row pages zero =
    ap (λ n. if n == 1 then damage_at r (record_fault fault_at (record_table row) pages) else None) zero

pub held_whole : (fault_at : List ℕ → Option ℕ) (r : ℕ) (row : List ℕ) (held : HeldRow) (disk : DiskState) → IsLaidRow row
    → IsRowHeld fault_at r row held disk → (s : List ℕ) → disk.seen ≡ Some s
    → row_damage fault_at r row (pages_read r row s) ≡ None
held_whole fault_at r row held disk laid is s told = by (mark_in row) refl
  where
    by : (o : Option RowMark) → mark_in row ≡ o → row_damage fault_at r row (pages_read r row s) ≡ None
    by None none = unsaid fault_at r row (pages_read r row s)
        (ap (λ (l : List ℕ). slice_index l 0) (laid.text ∙ ap mark_text none))
    by (Some mark) some =
        let of = mark_of (row_seen held) (numbers_seen held) mark (is.mark ∙ some) in
        let lawful : IsRowMark (record { name = of.shown.name; len = length of.shown.text; numbers = numbers_seen held }) =
        subst IsRowMark (sym of.same) (laid.lawful mark some) in
        ap₂ (λ (l : List ℕ) (ps : List (List ℕ)). row_damage fault_at r l ps)
        (laid.text ∙ ap mark_text (some ∙ ap Some (sym of.same)))
        (is.pages s told ∙ ap row_pages of.is)
        ∙ row_whole fault_at r of.shown (numbers_seen held) lawful (is.text of.shown of.is)

-- ---- as the code has it

-- its name is one
pub present_named : (row : List ℕ) → IsPresentAs row → is_name (name_in row) ≡ true
present_named row is = ap is_name (said row is.mark is.said_is).name ∙ is.lawful.named

-- its record can be changed
pub row_record : (row : List ℕ) → IsPresentAs row → (fault_at : List ℕ → Option ℕ) (kept : Kept) → IsRowKept fault_at row kept
    → IsRowRecord kept
row_record row is fault_at kept has = record {
  few = has.has_room.few;
  long = has.has_room.long;
  entries = ap (entry_fault 0 ROW_PAGES [] 6) (has.numbers ∙ (said row is.mark is.said_is).numbers) ∙ is.lawful.entries;
  numbers = has.has_room.room;
}

pub none_dropped : (dropped : List ℕ) → dropped ≡ [] → AreOwnNumbers dropped
none_dropped dropped none = subst AreOwnNumbers (sym none)
    (record { few = omega arith; own = All-nil (λ n. n < ROW_PAGES) })

-- a row and its reader were put behind the others
module _ {R : Type 0} (fault_at : List ℕ → Option ℕ) (has_read : R → List ℕ → Type 0) (r : ℕ) (row : List ℕ)
    (old new : List HeldRow) (olds news : List (Option R)) (held : HeldRow) (disk : DiskState) where
  pub added : (a b : Bool) → new ≡ (if a then old ++ held ∷ [] else old) → a ≡ true → (reader : R)
      → news ≡ (if b then olds ++ Some reader ∷ [] else olds) → b ≡ true → (kept : Kept)
      → held.name ≡ Some (name_in row) → held.kept ≡ kept → slice_index row 0 ≡ 1 → IsRowKept fault_at row kept
      → OnSeen (λ s. pages_read r row s ≡ pages_in (text_of kept)) disk → has_read reader (text_of kept)
      → IsRowAdded fault_at has_read r row old new olds news disk
  added a b rows ok reader readers fine kept name_is kept_is one is pages read = record {
    held = held;
    reader = Some reader;
    rows = rows ∙ ap (λ t. if t then old ++ held ∷ [] else old) ok;
    readers = readers ∙ ap (λ t. if t then olds ++ Some reader ∷ [] else olds) fine;
    is = held_present fault_at row kept held name_is kept_is one is r disk pages;
    read = read_present fault_at row kept held name_is kept_is one is has_read reader read;
  }

pub absent_added : {R : Type 0} (old new : List HeldRow) (olds news : List (Option R)) (held : HeldRow) (a b : Bool)
    → held.name ≡ None → new ≡ (if a then old ++ held ∷ [] else old) → a ≡ true
    → news ≡ (if b then olds ++ None ∷ [] else olds) → b ≡ true → IsAbsentAdded old new olds news
absent_added old new olds news held a b absent rows ok readers fine = record {
  held = held;
  absent = absent;
  rows = rows ∙ ap (λ t. if t then old ++ held ∷ [] else old) ok;
  readers = readers ∙ ap (λ (t : Bool). if t then olds ++ None ∷ [] else olds) fine;
}

-- an absent row, or no memory for it
pub absent_as : {R : Type 0} (fault_at : List ℕ → Option ℕ) (has_read : R → List ℕ → Type 0) (r : ℕ) (row : List ℕ)
    (old new : List HeldRow) (olds news : List (Option R)) (disk : DiskState) (o : Option BookOpenError)
    → slice_index row 0 ≡ 0 → IsAbsentRead old new olds news o → IsRowRead fault_at has_read r row old new olds news disk o
absent_as fault_at has_read r row old new olds news disk None none is = record {
  held = is.held;
  reader = None;
  rows = is.rows;
  readers = is.readers;
  is = held_absent fault_at row is.held is.absent none r disk;
  read = read_absent fault_at row is.held is.absent none has_read;
}
absent_as fault_at has_read r row old new olds news disk (Some error) none is =
    subst (λ e. IsRowRefused fault_at r row e disk) (sym is) tt

-- The record of a row that is present, as it is read.
use Rattle.std.proofs.Common.{◌≡◌, ◌≢◌, ℕ, ◌+◌, ◌-◌, ◌*◌, ◌≤◌, List, ◌∷◌, ◌++◌, Option, None, Some, append_assoc, length, map, take, drop, replicate, refl, sym, ◌∙◌, ap, ap₂, subst, arith}
use Rattle.std.specs.Prelude.{slice_index, if◌then◌else◌, ◌==◌}
use Rattle.std.specs.Int.{w32, to_be_bytes}
use Rattle.std.proofs.lemmas.List.{length-append, length-drop, length-replicate, replicate-append-replicate}
use Rattle.dr_base.specs.declared.limits.TheConstants.{PAGE}
use Rattle.pages.specs.declared.layout.Layout.{Layout}
use Rattle.pages.specs.Snapshots.{page_of}
use Rattle.record_pages.specs.Pages.{joined, pages_in}
use Rattle.record_pages.specs.Tables.{length_in, nonzero_from, or_else, printed, record_names, table_body, table_fault}
use Rattle.record_pages.proofs.TableTexts.{length_back as table_length_back, names_back as table_names_back}
use Rattle.paged_records.specs.declared.kept.Kept.{Kept}
use Rattle.paged_records.specs.Faults.{behind_table, fault_in, record_fault}
use Rattle.paged_records.specs.Bounded.{Bounds}
use Rattle.paged_records.specs.declared.loading.Loaded.{Loaded}
use Rattle.paged_records.specs.declared.loading.Loaded.TheVariants.{Faulty, Whole}
use Rattle.paged_records.specs.Loading.{IsLoaded, IsNamed, IsNamedRecord, pages_named}
use Rattle.book_store.proofs.Faultless.{mark_numbers_small, mark_small, name_long}
use Rattle.book_store.proofs.Names.{record_back}
use Rattle.book_store.proofs.Sayings.Said.{said}
use Rattle.book_store.proofs.RowTables.{laid_table}
use Rattle.book_store.specs.Kept.{row_bounds, text_of}
use Rattle.book_store.specs.Marks.{IsLaidRow, IsRowMark, RowMark, mark_in, mark_text}
use Rattle.book_store.specs.Reading.{damage_at, row_damage}
use Rattle.book_store.specs.RowReading.{IsKeptRecord, IsRowKept, IsRowLoaded, damage_of, pages_read, row_layout, widened}
use Rattle.book_store.specs.Rows.{record_table, row_head, row_length, row_names, row_text}
use Rattle.book_store.specs.declared.layout.TheConstants.{RECORD_PLACE, ROW_MOST, ROW_PAGES, TABLE_ROW}

-- a row that says a lawful mark, and is laid out from it
pub record IsPresentAs (row : List ℕ) : Type 0 where
  pub mark : RowMark
  pub said_is : mark_in row ≡ Some mark
  pub lawful : IsRowMark mark
  pub text : row ≡ row_text mark.name mark.len mark.numbers

pub present_as : (row : List ℕ) → IsLaidRow row → slice_index row 0 ≢ 0 → IsPresentAs row
present_as row laid other = by (mark_in row) refl
  where
    by : (o : Option RowMark) → mark_in row ≡ o → IsPresentAs row
    by None none = absurd (other (ap (λ (l : List ℕ). slice_index l 0) (laid.text ∙ ap mark_text none)))
    by (Some mark) is = record {
      mark = mark;
      said_is = is;
      lawful = laid.lawful mark is;
      text = laid.text ∙ ap mark_text is;
    }

-- a fault behind the table, as the row's damage
faulted : (r at : ℕ) (o : Option ℕ) → behind_table o ≡ Some at → damage_at r o ≡ damage_of r at
faulted r at None h = absurd (let e : None ≡ Some at = h in cc)
faulted r at (Some x) h = ap (damage_of r) (let e : PAGE + x ≡ at = inner (PAGE + x) at h in e)
  where
    inner : (a b : ℕ) → Some a ≡ Some b → a ≡ b
    inner a b e = cc

module _ (row : List ℕ) (is : IsPresentAs row) where
  abbrev mark : RowMark
  mark = is.mark

  few : length is.mark.name ≤ 40
  few = (name_long is.mark.name is.lawful.named).1

  one : slice_index row 0 ≡ 1
  one = (said row is.mark is.said_is).one

  abbrev zeros : ℕ
  zeros = TABLE_ROW - RECORD_PLACE - (5 + 2 * length is.mark.numbers)

  abbrev more : ℕ
  more = PAGE - 1 - (TABLE_ROW - RECORD_PLACE)

  abbrev last : ℕ
  last = slice_index (row_head is.mark.name) RECORD_PLACE

  longer : (turn len : ℕ) (numbers : List ℕ) (n m : ℕ)
      → table_body turn len numbers n ++ replicate m 0 ≡ table_body turn len numbers (n + m)
  longer turn len numbers n m = ap (λ (l : List ℕ). turn ∷ l)
      (append_assoc (to_be_bytes w32 len) (printed numbers ++ replicate n 0) (replicate m 0)
      ∙ ap (λ (l : List ℕ). to_be_bytes w32 len ++ l)
      (append_assoc (printed numbers) (replicate n 0) (replicate m 0)
      ∙ ap (λ (l : List ℕ). printed numbers ++ l) (replicate-append-replicate n m 0)))

  wide_is : widened row ≡ table_body last is.mark.len is.mark.numbers (zeros + more)
  wide_is = ap (λ (l : List ℕ). record_table l ++ replicate more 0) is.text
      ∙ ap (λ (l : List ℕ). l ++ replicate more 0) (record_back is.mark.name is.mark.len is.mark.numbers few)
      ∙ longer last is.mark.len is.mark.numbers zeros more

  wide_length : length_in (widened row) ≡ row_length row
  wide_length = ap length_in wide_is
      ∙ table_length_back last is.mark.len is.mark.numbers (zeros + more) (mark_small is.mark is.lawful)
      ∙ sym (said row is.mark is.said_is).len

  wide_names : record_names (widened row) ≡ row_names row
  wide_names = ap record_names wide_is
      ∙ table_names_back last is.mark.len is.mark.numbers (zeros + more) (mark_small is.mark is.lawful) is.lawful.each
      (mark_numbers_small is.mark is.lawful)
      ∙ sym (said row is.mark is.said_is).numbers

  wide_lawful : table_fault 0 ROW_PAGES ROW_MOST (widened row) ≡ None
  wide_lawful = ap (table_fault 0 ROW_PAGES ROW_MOST) wide_is
      ∙ laid_table 0 ROW_PAGES ROW_MOST last is.mark.len is.mark.numbers (zeros + more) is.lawful.few is.lawful.each
      (mark_small is.mark is.lawful) (mark_numbers_small is.mark is.lawful) is.lawful.entries

  pub wide_pages : (r : ℕ) (s : List ℕ) → pages_named (row_layout r) (widened row) s ≡ pages_read r row s
  wide_pages r s = ap (λ (ns : List ℕ). map (page_of (row_layout r) s) ns) wide_names

  module _ (fault_at : List ℕ → Option ℕ) where
    pub present_kept : (kept : Kept) → IsNamed fault_at row_bounds (widened row) kept → IsRowKept fault_at row kept
    present_kept kept named = record {
      has_room = named.has_room;
      len = named.len ∙ wide_length;
      numbers = named.numbers ∙ wide_names;
      text = named.text;
    }

    pub present_whole : (r : ℕ) (kept : Kept) (s : List ℕ)
        → pages_named (row_layout r) (widened row) s ≡ pages_in (take kept.len kept.bytes.items)
        → pages_read r row s ≡ pages_in (text_of kept)
    present_whole r kept s pages = sym (wide_pages r s) ∙ pages

    pub present_faulty : (r at : ℕ) (s : List ℕ)
        → fault_in fault_at row_bounds (widened row) (pages_named (row_layout r) (widened row) s) ≡ Some at
        → row_damage fault_at r row (pages_read r row s) ≡ damage_of r at
    unfolding row_damage
    present_faulty r at s fault =
        let pages = pages_read r row s in
        let table : fault_in fault_at row_bounds (widened row) (pages_named (row_layout r) (widened row) s)
        ≡ behind_table (record_fault fault_at (record_table row) pages) =
        ap₂ (λ f (l : List (List ℕ)). or_else f (behind_table (record_fault fault_at (widened row) l))) wide_lawful (wide_pages r s)
        ∙ ap (λ n. behind_table (or_else (fault_at (take n (joined pages))) (nonzero_from n (drop n (joined pages))))) wide_length in
        ap (λ n. if n == 1 then damage_at r (record_fault fault_at (record_table row) pages) else None) one
        ∙ faulted r at (record_fault fault_at (record_table row) pages) (sym table ∙ fault)

  -- in memory
  pub present_long : length row ≡ TABLE_ROW → length (widened row) + 1 ≡ PAGE
  present_long long = omega (
    arith,
    length-append (record_table row) (replicate more 0),
    length-replicate {A = ℕ} more 0,
    length-drop RECORD_PLACE row,
    long,
  )

-- ---- as the code has it

module _ (row : List ℕ) (is : IsPresentAs row) (fault_at : List ℕ → Option ℕ) (r : ℕ) (b : Bounds) (l : Layout) (t : List ℕ)
    (b_is : b ≡ row_bounds) (l_is : l ≡ row_layout r) (t_is : t ≡ widened row) where
  kept_of : (x : Loaded) → IsNamedRecord fault_at row_bounds (widened row) x → IsKeptRecord fault_at row x
  kept_of (Faulty at) named = tt
  kept_of (Whole kept) named = present_kept row is fault_at kept named

  loaded_of : (x : Loaded) (s : List ℕ) → IsLoaded fault_at (row_layout r) row_bounds (widened row) x s → IsRowLoaded fault_at r row x s
  loaded_of (Faulty at) s loaded = present_faulty row is fault_at r at s loaded
  loaded_of (Whole kept) s loaded = present_whole row is fault_at r kept s loaded

  pub kept_as : (x : Loaded) → IsNamedRecord fault_at b t x → IsKeptRecord fault_at row x
  kept_as x named = kept_of x (subst (λ k. IsNamedRecord fault_at k (widened row) x) b_is
      (subst (λ k. IsNamedRecord fault_at b k x) t_is named))

  pub loaded_as : (x : Loaded) (s : List ℕ) → IsLoaded fault_at l b t x s → IsRowLoaded fault_at r row x s
  loaded_as x s loaded = loaded_of x s (subst (λ k. IsLoaded fault_at k row_bounds (widened row) x s) l_is
      (subst (λ k. IsLoaded fault_at l k (widened row) x s) b_is (subst (λ k. IsLoaded fault_at l b k x s) t_is loaded)))

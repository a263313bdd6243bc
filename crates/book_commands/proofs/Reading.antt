-- What was read of a book, at the row of a name.
use Rattle.std.proofs.Common.{Bool, List, None, Ok, Option, Some, [], ap, false, refl, suc, sym, true, ℕ, ◌∙◌, ◌∷◌, ◌≡◌}
use Rattle.std.specs.Prelude.{if◌then◌else◌, option_map}
use Rattle.std.specs.Str.{bytes_eq}
use Rattle.pages.specs.Snapshots.{Shot, no_shot, shot, snapshot, unclear}
use Rattle.kem_laws.specs.Mechanism.{Mechanism}
use Rattle.session_model.specs.Clients.{Client}
use Rattle.session_record.specs.Record.{record_read}
use Rattle.book_model.specs.Rows.{Row, Rows, under}
use Rattle.book_store.specs.Judging.{book_fault}
use Rattle.book_store.specs.Layout.{book_layout}
use Rattle.book_store.specs.Reading.{RowDamage, book_read_as, book_reading, damaged_row, damaged_table, has_rows, judged_book, record_under, rows_damage, under as recorded}
use Rattle.book_store.specs.Rows.{book_names}
use Rattle.book_store.specs.Shown.{BookRow, rows_in, stored_rows}
use Rattle.book_store.specs.declared.layout.TheConstants.{BOOK_ROWS}
use Rattle.client.specs.Opening.{client_record_fault}
use Rattle.book.specs.Opening.{AreRowsRead, IsBookRead, IsRowRead}

-- ---- the rows that were read are those that the bytes have

judged : (table : ℕ) (fault : Option ℕ) (damage : Option RowDamage) (rows held : List (Option BookRow))
    → judged_book table fault damage rows ≡ has_rows held → rows ≡ held
judged table (Some at) damage rows held is = absurd (let e : damaged_table table at ≡ has_rows held = is in cc)
judged table None (Some damage) rows held is = absurd (let e : damaged_row damage ≡ has_rows held = is in cc)
judged table None None rows held is = let e : has_rows rows ≡ has_rows held = is in cc

read_as : (fault_at : List ℕ → Option ℕ) (rows : ℕ) (s : Shot) (held : List (Option BookRow))
    → book_read_as fault_at rows s ≡ has_rows held → rows_in s ≡ held
read_as fault_at rows no_shot held is = let e : has_rows (rows_in no_shot) ≡ has_rows held = is in cc
read_as fault_at rows unclear held is = absurd (let e : damaged_table 1 1 ≡ has_rows held = is in cc)
read_as fault_at rows (shot s) held is =
    judged (if s.second then 1 else 0) (book_fault rows s.table.body) (rows_damage fault_at s.table.body s.pages)
    (rows_in (shot s)) held is

pub rows_read : (fault_at : List ℕ → Option ℕ) (rows : ℕ) (c : List ℕ) (held : List (Option BookRow))
    → book_reading fault_at rows c ≡ has_rows held → stored_rows rows c ≡ held
unfolding book_reading stored_rows
rows_read fault_at rows c held is = read_as fault_at rows (snapshot book_names (book_layout rows) c) held is

-- ---- under a name

module _ (k : Mechanism) (name : List ℕ) where
  abbrev Reads : List (Option BookRow) → Rows Client → Type 0
  Reads held rows = option_map (record_read k) (recorded name held) ≡ option_map Ok (under name rows)

  one_reads : (h : BookRow) (row : Row Client) (held : List (Option BookRow)) (rows : Rows Client)
      → IsRowRead k (Some h) (Some row) → Reads held rows → (b : Bool) → bytes_eq h.name name ≡ b
      → Reads (Some h ∷ held) (Some row ∷ rows)
  one_reads h row held rows is rest true here =
      ap (λ b. option_map (record_read k) (if b then Some h.text else recorded name held)) here
      ∙ ap Some is.1
      ∙ sym (ap (λ b. option_map Ok (if b then Some row.kept else under name rows)) (ap (λ n. bytes_eq n name) is.0 ∙ here))
  one_reads h row held rows is rest false here =
      ap (λ b. option_map (record_read k) (if b then Some h.text else recorded name held)) here
      ∙ rest
      ∙ sym (ap (λ b. option_map Ok (if b then Some row.kept else under name rows)) (ap (λ n. bytes_eq n name) is.0 ∙ here))

  all_reads : (held : List (Option BookRow)) (rows : Rows Client) → AreRowsRead k held rows → Reads held rows
  all_reads [] [] read = refl
  all_reads [] (None ∷ rows) read = all_reads [] rows (λ r. read (suc r))
  all_reads [] (Some row ∷ rows) read = absurd (read 0)
  all_reads (None ∷ held) [] read = all_reads held [] (λ r. read (suc r))
  all_reads (Some h ∷ held) [] read = absurd (read 0)
  all_reads (None ∷ held) (None ∷ rows) read = all_reads held rows (λ r. read (suc r))
  all_reads (None ∷ held) (Some row ∷ rows) read = absurd (read 0)
  all_reads (Some h ∷ held) (None ∷ rows) read = absurd (read 0)
  all_reads (Some h ∷ held) (Some row ∷ rows) read =
      one_reads h row held rows (read 0) (all_reads held rows (λ r. read (suc r))) (bytes_eq h.name name) refl

  -- the record that was read under the name is read as what the book has there
  pub reads_under : (rows : Rows Client) (s : List ℕ) → IsBookRead k BOOK_ROWS rows s
      → option_map (record_read k) (record_under BOOK_ROWS name s) ≡ option_map Ok (under name rows)
  reads_under rows s is =
      ap (λ (l : List (Option BookRow)). option_map (record_read k) (recorded name l))
      (rows_read (client_record_fault k) BOOK_ROWS s is.0 is.1)
      ∙ all_reads is.0 rows is.2

  -- so there is none where the book has none
  pub reads_none : (rows : Rows Client) (s : List ℕ) → IsBookRead k BOOK_ROWS rows s → under name rows ≡ None
      → record_under BOOK_ROWS name s ≡ None
  reads_none rows s is none = by (record_under BOOK_ROWS name s) (reads_under rows s is ∙ ap (option_map Ok) none)
    where
      by : (o : Option (List ℕ)) → option_map (record_read k) o ≡ None → o ≡ None
      by None is = refl
      by (Some text) is = absurd (let e : Some (record_read k text) ≡ None = is in cc)

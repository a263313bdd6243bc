-- What a disk holds whole is opened as just that.
use Rattle.std.proofs.Common.{List, None, Ok, Option, Some, [], ap, arith, get_or, length, refl, subst, suc, sym, ℕ, ◌∙◌, ◌∷◌, ◌≡◌}
use Rattle.dr_disk.specs.State.{DiskState}
use Rattle.book_model.specs.Rows.{Row, Rows}
use Rattle.book_store.specs.Reading.{AreRecords, RowDamage, book_reading, damaged_row, damaged_table, has_rows}
use Rattle.book_store.specs.Shown.{BookRow}
use Rattle.kem_laws.specs.Mechanism.{Mechanism}
use Rattle.session_model.specs.Clients.{Client}
use Rattle.session_record.specs.Lawful.{IsLawfulClient}
use Rattle.session_record.specs.Record.{record_read, record_text}
use Rattle.client.specs.Opening.{client_record_fault, fault_of}
use Rattle.book.proofs.Stored.{stored_at}
use Rattle.book.specs.Opening.{IsBookRead, IsRowRead}
use Rattle.book.specs.Rows.{stored, stored_row}
use Rattle.hub.specs.Held.{HoldsRows}

-- lists of one length that have the same at each place
same_list : {A : Type 0} (d : A) (xs ys : List A) → length xs ≡ length ys
    → ((i : ℕ) → get_or xs i d ≡ get_or ys i d) → xs ≡ ys
same_list d [] [] long each = refl
same_list d [] (y ∷ ys) long each = absurd (let e : ⊥ = omega (arith, long) in e)
same_list d (x ∷ xs) [] long each = absurd (let e : ⊥ = omega (arith, long) in e)
same_list d (x ∷ xs) (y ∷ ys) long each =
    ap (λ a. a ∷ xs) (each 0)
    ∙ ap (λ (l : List _). y ∷ l) (same_list d xs ys (omega (arith, long)) (λ i. each (suc i)))

-- a record is read as what it was written from
abbrev pub RecordsRead : Type 0
RecordsRead = (k : Mechanism) (c : Client) → IsLawfulClient k c → record_read k (record_text c) ≡ Ok c

module _ (law : RecordsRead) (k : Mechanism) where
  one_read : (was now : Option (Row Client)) → ((row : Row Client) → was ≡ Some row → IsLawfulClient k row.kept)
      → IsRowRead k (stored_row was) now → now ≡ was
  one_read None None lawful is = refl
  one_read None (Some row) lawful is = absurd is
  one_read (Some row) None lawful is = absurd is
  one_read (Some row) (Some read) lawful is =
      let same : read.kept ≡ row.kept =
      let e : Ok row.kept ≡ Ok read.kept = sym (law k row.kept (lawful row refl)) ∙ is.1 in cc in
      ap (λ (name : List ℕ). Some (record { name = name; kept = read.kept })) is.0
      ∙ ap (λ (c : Client). Some (record { name = row.name; kept = c })) same

  module _ (rows : ℕ) (sessions : Rows Client) (disk : DiskState) (holds : HoldsRows k rows sessions disk) where
    record_of : (o : Option (Row Client)) → ((row : Row Client) → o ≡ Some row → IsLawfulClient k row.kept)
        → (held : BookRow) → stored_row o ≡ Some held → client_record_fault k held.text ≡ None
    record_of None lawful held is = absurd (let e : None ≡ Some held = is in cc)
    record_of (Some row) lawful held is =
        let same : record { name = row.name; text = record_text row.kept } ≡ held =
        let e : Some (record { name = row.name; text = record_text row.kept }) ≡ Some held = is in cc in
        ap (λ (b : BookRow). client_record_fault k b.text) (sym same)
        ∙ ap fault_of (law k row.kept (lawful row refl))

    records : AreRecords (client_record_fault k) (stored sessions)
    records r held is =
        record_of (get_or sessions r None) (λ row. holds.lawful r row) held (sym (stored_at sessions r) ∙ is)

    -- it is read as a book of these rows
    pub reads : book_reading (client_record_fault k) rows holds.bytes ≡ has_rows (stored sessions)
    reads =
        holds.has.undamaged (client_record_fault k)
        (subst (λ (b : List (Option BookRow)). AreRecords (client_record_fault k) b) (sym holds.has.are) records)
        ∙ ap has_rows holds.has.are

    -- which has these sessions
    pub read_sessions : (read : Rows Client) → length read ≡ rows → IsBookRead k rows read holds.bytes → read ≡ sessions
    read_sessions read long is =
        let same : is.0 ≡ stored sessions = let e : has_rows is.0 ≡ has_rows (stored sessions) = sym is.1 ∙ reads in cc in
        same_list None read sessions (long ∙ sym holds.long) (λ r.
        one_read (get_or sessions r None) (get_or read r None) (λ row. holds.lawful r row)
        (subst (λ (o : Option BookRow). IsRowRead k o (get_or read r None))
        (ap (λ (b : List (Option BookRow)). get_or b r None) same ∙ stored_at sessions r) (is.2 r)))

    -- and isn't damaged
    pub whole_table : (table at : ℕ) → book_reading (client_record_fault k) rows holds.bytes ≡ damaged_table table at → ⊥
    whole_table table at is = let e : has_rows (stored sessions) ≡ damaged_table table at = sym reads ∙ is in cc

    pub whole_row : (damage : RowDamage) → book_reading (client_record_fault k) rows holds.bytes ≡ damaged_row damage → ⊥
    whole_row damage is = let e : has_rows (stored sessions) ≡ damaged_row damage = sym reads ∙ is in cc

-- A row of a book that was opened is what keeps the session of its name there.
use Rattle.std.proofs.Common.{List, None, Ok, Option, Some, ap, ap₂, arith, false, get_or, refl, subst, sym, true, ℕ, ◌∙◌, ◌≡◌, ◌≢◌}
use Rattle.std.proofs.Math.ListN.{set}
use Rattle.std.proofs.lemmas.List.{get_or-set_other}
use Rattle.std.specs.Prelude.{is_some, option_map}
use Rattle.std.specs.Str.{bytes_eq}
use Rattle.dr_disk.specs.Spans.{IsQuiet}
use Rattle.dr_disk.specs.State.{DiskState}
use Rattle.kem_laws.specs.Mechanism.{Mechanism}
use Rattle.session_model.specs.Clients.{Client}
use Rattle.book_model.proofs.Names.{same_is, same_self}
use Rattle.book_model.specs.Rows.{Row, Rows, under}
use Rattle.book_store.specs.Reading.{IsUndamagedBook, record_under}
use Rattle.book_store.specs.declared.layout.TheConstants.{BOOK_ROWS}
use Rattle.book.proofs.AsRead.{alike_beside, row_as_read}
use Rattle.book.proofs.Places.{under_at}
use Rattle.book.specs.Books.{BookNow}
use Rattle.book.specs.Calling.{row_in}
use Rattle.book.specs.Naming.{IsPlaceOf, is_named}
use Rattle.book.specs.Opening.{IsOpenedBook}
use Rattle.book.specs.RowCells.{IsSameBeside}
use Rattle.book.specs.RowKeepings.{RowNow, kept_of, known_name, name_of, row_at, row_keeping}
use Rattle.command_lines.proofs.Standing.{Fits}
use Rattle.command_lines.specs.Places.{IsOpenedAt}
use Rattle.book_commands.specs.Opening.{IsRowAtRest}
use Rattle.book_commands.specs.Places.{name_place}
use Rattle.book_commands.proofs.Reading.{reads_under}

-- the row that has a name
pub row_of : (name : List ℕ) (o : Option (Row Client)) → is_named name o ≡ true
    → (row : Row Client) × (o ≡ Some row) × (row.name ≡ name)
row_of name None is = absurd (let e : false ≡ true = is in cc)
row_of name (Some row) is = (row, refl, same_is row.name name is)

-- where all rows but one are the same, the first of a name stays the first
still_first : (name : List ℕ) (was now : Rows Client) (at : ℕ) → set now at None ≡ set was at None
    → IsPlaceOf name was at → is_named name (get_or now at None) ≡ true → IsPlaceOf name now at
still_first name was now at same is named = record {
  named = named;
  first = λ q lt.
      let apart : q ≢ at = λ e. absurd (omega (arith, lt, e)) in
      subst (λ (o : Option (Row Client)). is_named name o ≡ false)
      (sym (get_or-set_other was at q None None apart)
      ∙ ap (λ (l : Rows Client). get_or l q None) (sym same)
      ∙ get_or-set_other now at q None None apart)
      (is.first q lt);
}

module _ (k : Mechanism) (name : List ℕ) (book : BookNow) (count : book.store.rows ≡ BOOK_ROWS) (at : ℕ)
    (is : IsPlaceOf name book.rows at) where
  here : (row : Row Client) × (get_or book.rows at None ≡ Some row) × (row.name ≡ name)
  here = row_of name (get_or book.rows at None) is.named

  name_is : name_of (row_at book.rows at) ≡ Some name
  name_is = ap name_of here.1 ∙ ap Some here.2

  known : known_name (name_of (row_at book.rows at)) ≡ name
  known = ap known_name name_is

  -- what the name has there is what the row keeps
  pub under_row : under name book.rows ≡ Some (kept_of (row_at book.rows at))
  under_row = under_at name book.rows at here.0 is here.1 ∙ sym (ap (λ (o : Option (Row Client)). Some (kept_of o)) here.1)

  -- and so wherever the place is the same
  rests_there : (t : RowNow) (disk : DiskState) → row_keeping.place t ≡ row_keeping.place (row_in book at)
      → row_keeping.ready t disk → IsRowAtRest name (Some (row_keeping.kept t)) disk
  rests_there t disk same ready =
      let named : name_of (row_at t.book.rows t.at) ≡ Some name = ap (λ p. p.name) same ∙ name_is in
      let where_is : t.at ≡ at = ap (λ p. p.at) same in
      let there = named_row (row_at t.book.rows t.at) named in
      let others : set t.book.rows at None ≡ set book.rows at None =
      subst (λ i. set t.book.rows i None ≡ set book.rows at None) where_is (ap (λ p. p.others) same) in
      let first = still_first name book.rows t.book.rows at others is
      (subst (λ i. is_named name (get_or t.book.rows i None) ≡ true) where_is there.1) in
      record {
        book = t.book;
        ready = ready.book;
        count = ap (λ p. p.rows) same ∙ count;
        there = under_at name t.book.rows at there.0 first (subst (λ i. get_or t.book.rows i None ≡ Some there.0) where_is there.2)
            ∙ sym (ap (λ (o : Option (Row Client)). Some (kept_of o)) there.2);
      }
    where
      named_row : (o : Option (Row Client)) → name_of o ≡ Some name
          → (row : Row Client) × (is_named name o ≡ true) × (o ≡ Some row)
      named_row None is = absurd (let e : None ≡ Some name = is in cc)
      named_row (Some row) is =
          let e : row.name ≡ name = (let f : Some row.name ≡ Some name = is in cc) in
          (row, ap (λ (n : List ℕ). bytes_eq n name) e ∙ same_self name, refl)

  pub row_fits : Fits (name_place k name) row_keeping (row_in book at)
  row_fits = record {
    record_is = λ c. ap₂ (λ n m. record_under n m c) (sym count) (sym known);
    undamaged = λ c whole. subst (λ n. IsUndamagedBook n c) count whole;
    outside = λ a b c first next.
        alike_beside k BOOK_ROWS name a b c first
        (subst (λ m. IsSameBeside BOOK_ROWS m b c) known
        (subst (λ n. IsSameBeside n (known_name (name_of (row_at book.rows at))) b c) count next));
    rests = λ t disk same ready. rests_there t disk same ready;
  }

  pub row_opened : (start now : DiskState) → IsOpenedBook k BOOK_ROWS start now book → IsQuiet start now
      → IsOpenedAt (name_place k name) row_keeping k (row_in book at) start now
  row_opened start now opened quiet = record {
    is_open = opened.is_open;
    ready = record { book = opened.ready; there = ap is_some here.1 };
    read = λ s told. reads_under k name book.rows s (opened.read s told) ∙ ap (option_map Ok) under_row;
    alike = λ c left. row_as_read k BOOK_ROWS name start c (opened.alike c left);
    quiet = quiet;
  }

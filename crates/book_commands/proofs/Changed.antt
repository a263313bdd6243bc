-- What is left where the row of a name changed in a book that was opened.
use Rattle.std.proofs.Common.{List, None, Option, ap, get_or, inl, inr, length, subst, sym, ℕ, ⊎_elim, ◌<◌, ◌∙◌, ◌≡◌, ◌⊎◌}
use Rattle.std.proofs.Math.ListN.{set}
use Rattle.dr_disk.specs.Spans.{Span}
use Rattle.dr_disk.specs.State.{DiskState, IsLawful, OnSeen}
use Rattle.dr_disk.proofs.Steps.{spans, widen}
use Rattle.pages.proofs.Around.{outside_twice}
use Rattle.kem_laws.specs.Mechanism.{Mechanism}
use Rattle.session_model.specs.Clients.{Client}
use Rattle.book_model.specs.Rows.{Row, Rows}
use Rattle.book_store.specs.Committing.{HasRows, IsOldOrNewBook}
use Rattle.book_store.specs.Layout.{book_layout}
use Rattle.book_store.specs.Shown.{BookRow, stored_rows}
use Rattle.book_store.specs.declared.layout.TheConstants.{BOOK_ROWS}
use Rattle.book.proofs.AsRead.{alike_beside, row_as_read}
use Rattle.book.proofs.Imaged.{RestsWithRows, has_rows}
use Rattle.book.proofs.Places.{IsOf, without_set}
use Rattle.book.proofs.Stored.{stored_beside, stored_set}
use Rattle.book.specs.Books.{BookNow}
use Rattle.book.specs.Opening.{AreRenewed, IsAsReadBook, IsEntryOrAsReadBook, IsOpenedBook}
use Rattle.book.specs.RowCells.{beside}
use Rattle.book.specs.Rows.{stored, stored_row}
use Rattle.command_lines.specs.Places.{StaysSoundInCell}
use Rattle.book_commands.specs.Places.{name_cell}

-- the rows beside the name, where that of the name, or an absent one, becomes another such
pub beside_set : (name : List ℕ) (rows : Rows Client) (held : List (Option BookRow)) (at : ℕ) (o : Option (Row Client))
    → held ≡ stored rows → at < length rows → IsOf name (get_or rows at None) → IsOf name o
    → beside name (set held at (stored_row o)) ≡ beside name held
beside_set name rows held at o holds inside was is =
    ap (λ (l : List (Option BookRow)). beside name (set l at (stored_row o))) holds
    ∙ ap (beside name) (stored_set rows at o inside)
    ∙ stored_beside name (set rows at o)
    ∙ ap stored (without_set name rows at o was is)
    ∙ sym (stored_beside name rows)
    ∙ ap (beside name) (sym holds)

module _ (resting : RestsWithRows) (k : Mechanism) (name : List ℕ) (start mid now : DiskState) (book : BookNow)
    (opened : IsOpenedBook k BOOK_ROWS start mid book) (next : List (Option BookRow))
    (same : beside name next ≡ beside name book.store.held) where
  held_in : (d : List ℕ) → mid.image d → stored_rows BOOK_ROWS d ≡ book.store.held
  held_in d left = subst (λ n. stored_rows n d ≡ book.store.held) opened.count
      (has_rows resting book.store mid opened.ready.rests d left).are

  abbrev pub HasChanged : List ℕ → Type 0
  HasChanged c = HasRows BOOK_ROWS next c × StaysSoundInCell (name_cell k name) start c

  module _ (c : List ℕ) (is : IsOldOrNewBook BOOK_ROWS book.store.held next mid c) where
    abbrev from : List ℕ
    from = is.frame.0

    alike : IsAsReadBook k BOOK_ROWS start from
    alike = opened.alike from is.frame.1

    stayed : HasRows BOOK_ROWS book.store.held c → IsAsReadBook k BOOK_ROWS start c
    stayed old = record {
      read = alike.read;
      told = alike.told;
      same = subst (λ (l : List (Option BookRow)). (l ≡ stored_rows BOOK_ROWS alike.read)
          ⊎ AreRenewed k (stored_rows BOOK_ROWS alike.read) l) (held_in from is.frame.1 ∙ sym old.are) alike.same;
      undamaged = λ _. old.undamaged;
      outside = outside_twice (book_layout BOOK_ROWS) alike.read from c alike.outside is.frame.2;
    }

    went_on : HasRows BOOK_ROWS next c → HasChanged c
    went_on new = let there = row_as_read k BOOK_ROWS name start from alike in (
      new,
      record {
        read = there.read;
        told = there.told;
        undamaged = λ _. new.undamaged;
        outside =
            alike_beside k BOOK_ROWS name there.read from c there.outside
            (record {
              others = ap (beside name) new.are ∙ same ∙ ap (beside name) (sym (held_in from is.frame.1));
              outside = is.frame.2;
            });
      },
    )

    pub changed : IsAsReadBook k BOOK_ROWS start c ⊎ HasChanged c
    changed = ⊎_elim (λ old. inl (stayed old)) (λ new. inr (went_on new)) is.either

  module _ (P : List ℕ → Type 0) (to : (c : List ℕ) → HasChanged c → P c)
      (changing : Span mid now (IsOldOrNewBook BOOK_ROWS book.store.held next mid)) where
    by_change : (c : List ℕ) → IsOldOrNewBook BOOK_ROWS book.store.held next mid c → IsAsReadBook k BOOK_ROWS start c ⊎ P c
    by_change c is = ⊎_elim (λ as_read. inl as_read) (λ new. inr (to c new)) (changed c is)

    pub changed_moment : Span start mid (IsEntryOrAsReadBook k BOOK_ROWS start)
        → Span start now (λ c. start.image c ⊎ IsAsReadBook k BOOK_ROWS start c ⊎ P c)
    changed_moment opening = spans start mid now (λ c. start.image c ⊎ IsAsReadBook k BOOK_ROWS start c ⊎ P c)
        (widen start mid (IsEntryOrAsReadBook k BOOK_ROWS start) (λ c. start.image c ⊎ IsAsReadBook k BOOK_ROWS start c ⊎ P c)
        (λ c e. ⊎_elim (λ was. inl was) (λ as_read. inr (inl as_read)) e) opening)
        (widen mid now (IsOldOrNewBook BOOK_ROWS book.store.held next mid)
        (λ c. start.image c ⊎ IsAsReadBook k BOOK_ROWS start c ⊎ P c) (λ c is. inr (by_change c is)) changing)

    pub changed_reads : IsLawful now → OnSeen (λ s. IsAsReadBook k BOOK_ROWS start s ⊎ P s) now
    changed_reads lawful s told = ⊎_elim (λ was. inl (opened.alike s was)) (by_change s) (changing.last s (lawful.seen_now s told))

-- where the book was only opened
pub only_opened : (k : Mechanism) (start now : DiskState) (P : List ℕ → Type 0) → Span start now (IsEntryOrAsReadBook k BOOK_ROWS start)
    → Span start now (λ c. start.image c ⊎ IsAsReadBook k BOOK_ROWS start c ⊎ P c)
only_opened k start now P opening =
    widen start now (IsEntryOrAsReadBook k BOOK_ROWS start) (λ c. start.image c ⊎ IsAsReadBook k BOOK_ROWS start c ⊎ P c)
    (λ c e. ⊎_elim (λ was. inl was) (λ as_read. inr (inl as_read)) e) opening

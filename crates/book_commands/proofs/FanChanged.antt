-- What is left where the sessions of a fan say its text in a book that was opened.
use Rattle.std.proofs.Common.{List, Option, inl, inr, subst, sym, ℕ, ⊎_elim, ◌∙◌, ◌≡◌, ◌⊎◌}
use Rattle.dr_disk.specs.Spans.{Span}
use Rattle.dr_disk.specs.State.{DiskState, IsLawful}
use Rattle.dr_disk.proofs.Steps.{widen}
use Rattle.pages.proofs.Around.{outside_twice}
use Rattle.kem_laws.specs.Mechanism.{Mechanism}
use Rattle.book_store.specs.Committing.{HasRows, IsOldOrNewBook}
use Rattle.book_store.specs.Layout.{book_layout}
use Rattle.book_store.specs.Shown.{BookRow, stored_rows}
use Rattle.book_store.specs.declared.layout.TheConstants.{BOOK_ROWS}
use Rattle.book.proofs.Imaged.{RestsWithRows, has_rows}
use Rattle.book.specs.Books.{BookNow}
use Rattle.book.specs.Fans.{Fan}
use Rattle.book.specs.Opening.{AreRenewed, IsAsReadBook, IsOpenedBook}
use Rattle.book.specs.Rows.{stored}
use Rattle.book_commands.specs.Fanning.{HasAllOrNone, HasSessions, SaysAllOrNone, all_said}

module _ (resting : RestsWithRows) (k : Mechanism) (fan : Fan) (start mid now : DiskState)
    (book : BookNow) (opened : IsOpenedBook k BOOK_ROWS start mid book) where
  abbrev next : List (Option BookRow)
  next = stored (all_said k fan)

  held_in : (d : List ℕ) → mid.image d → stored_rows BOOK_ROWS d ≡ stored book.rows
  held_in d left = subst (λ n. stored_rows n d ≡ book.store.held) opened.count
      (has_rows resting book.store mid opened.ready.rests d left).are ∙ opened.ready.holds

  module _ (c : List ℕ) (is : IsOldOrNewBook BOOK_ROWS (stored book.rows) next mid c) where
    abbrev from : List ℕ
    from = is.frame.0

    alike : IsAsReadBook k BOOK_ROWS start from
    alike = opened.alike from is.frame.1

    stayed : HasRows BOOK_ROWS (stored book.rows) c → IsAsReadBook k BOOK_ROWS start c
    stayed old = record {
      read = alike.read;
      told = alike.told;
      same = subst (λ (l : List (Option BookRow)). (l ≡ stored_rows BOOK_ROWS alike.read)
          ⊎ AreRenewed k (stored_rows BOOK_ROWS alike.read) l)
          (held_in from is.frame.1 ∙ sym old.are) alike.same;
      undamaged = λ _. old.undamaged;
      outside = outside_twice (book_layout BOOK_ROWS) alike.read from c alike.outside is.frame.2;
    }

    went_on : HasRows BOOK_ROWS next c → HasSessions (all_said k fan) start c
    went_on new = record {
      rows = new.are;
      undamaged = new.undamaged;
      read = alike.read;
      told = alike.told;
      outside = outside_twice (book_layout BOOK_ROWS) alike.read from c alike.outside is.frame.2;
    }

    all_or_none : HasAllOrNone k fan start c
    all_or_none = ⊎_elim (λ old. inl (stayed old)) (λ new. inr (went_on new)) is.either

  pub says_all_or_none : Span mid now (IsOldOrNewBook book.store.rows (stored book.rows) next mid)
      → IsLawful now → SaysAllOrNone k fan start mid now
  says_all_or_none span lawful = record {
    any_moment = widen mid now (IsOldOrNewBook BOOK_ROWS (stored book.rows) next mid)
        (HasAllOrNone k fan start) all_or_none changing;
    reads = λ s told. ⊎_elim (λ was. inl (opened.alike s was)) (all_or_none s)
        (changing.last s (lawful.seen_now s told));
  }
    where
      changing : Span mid now (IsOldOrNewBook BOOK_ROWS (stored book.rows) next mid)
      changing = subst (λ n. Span mid now (IsOldOrNewBook n (stored book.rows) next mid)) opened.count span

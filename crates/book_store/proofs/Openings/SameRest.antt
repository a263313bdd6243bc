-- What was read at rest is what the store rests on.
use Rattle.std.proofs.Common.{◌≡◌, ◌≢◌, ⊎_elim, ℕ, ◌≤◌, ◌<◌, List, [], None, get_or, sym, ◌∙◌, ap, subst, arith}
use Rattle.std.proofs.lemmas.Bool.{cases_eq, cases_lt}
use Rattle.std.proofs.lemmas.List.{get_or_past}
use Rattle.pages.specs.Resting.{IsShotAtRest}
use Rattle.pages.specs.Snapshots.{Snapshot, kept_shot, no_shot, shot}
use Rattle.pages.specs.Tables.{Table, open_table, table_turn}
use Rattle.pages.proofs.Shots.{shot_still}
use Rattle.book_store.proofs.Books.Laying.{row_named}
use Rattle.book_store.proofs.Books.Listed.{Book, marks_long}
use Rattle.book_store.proofs.Books.Readings.{has}
use Rattle.book_store.proofs.Openings.EmptySettled.{rests_of}
use Rattle.book_store.proofs.Openings.NothingOpen.{rests_empty}
use Rattle.book_store.proofs.Openings.StoreShot.{names_none, shown_none, shown_open, table_none, table_open}
use Rattle.book_store.specs.AtRest.{BookMark, IsBookAtRest, IsBookMarked, laid_book, row_marks}
use Rattle.book_store.specs.Layout.{book_layout}
use Rattle.book_store.specs.Locating.{HasBookShot}
use Rattle.book_store.specs.Marks.{book_body}
use Rattle.book_store.specs.Opened.{IsSameMark}
use Rattle.book_store.specs.Rows.{book_names, row_in, row_names}
use Rattle.book_store.specs.Staging.{Rests}
use Rattle.book_store.specs.Store.{BookStore, numbers_at, numbers_of}
use Rattle.book_store.specs.declared.layout.TheConstants.{BOOK_ROWS}

past_rows : (rows : ℕ) (mark : BookMark) (book : Book) → IsBookMarked rows mark book → (r : ℕ) → BOOK_ROWS ≤ r
    → get_or book r None ≡ None
past_rows rows mark book is r past = get_or_past book r None (omega (arith, past, is.marks.all, marks_long book mark.numbers))

module _ (store : BookStore) (marked : IsBookMarked store.rows store.mark store.held) (s : List ℕ)
    (is_shown : HasBookShot store s) (m : BookMark) (book : Book) (rests : IsBookAtRest store.rows m book s) where
  -- it lies where it lay, where a table is open
  pub record IsSame : Type 0 where
    pub rests_too : Rests store s
    pub same_mark : m.turn ≢ 0 → IsSameMark store.mark m store.held

  its_shot : HasBookShot (record {
    rows = store.rows;
    mark = m;
    held = book;
    staged = store.staged;
    drops = store.drops;
    replaced = store.replaced;
  }) s
  its_shot = shot_still book_names (book_layout store.rows) s (laid_book m book) rests.laid_out.still

  shots : kept_shot (laid_book store.mark store.held) ≡ kept_shot (laid_book m book)
  shots = sym is_shown ∙ its_shot

  books : store.held ≡ book
  books = sym (has store.rows store.mark store.held marked s is_shown).are ∙ (has store.rows m book rests.marked s its_shot).are

  module _ (turn : store.mark.turn ≢ 0) (other : m.turn ≢ 0) where
    snaps : laid_book store.mark store.held ≡ laid_book m book
    snaps = inner _ _ (sym (shown_open store.rows store.mark store.held marked turn) ∙ shots
        ∙ shown_open store.rows m book rests.marked other)
      where
        inner : (x y : Snapshot) → shot x ≡ shot y → x ≡ y
        inner x y h = cc

    tables : open_table (book_body store.mark.turn (row_marks store.held store.mark.numbers))
        ≡ open_table (book_body m.turn (row_marks book m.numbers))
    tables = sym (table_open store.rows store.mark store.held marked turn) ∙ ap (λ (x : Snapshot). x.table) snaps
        ∙ table_open store.rows m book rests.marked other

    numbers_in : (r : ℕ) → r < BOOK_ROWS → numbers_at store.mark store.held r ≡ numbers_at m book r
    numbers_in r lt =
        sym (row_named store.rows store.mark.turn store.held store.mark.numbers marked.marks r lt)
        ∙ ap (λ (t : Table). row_names (row_in t.body r)) tables
        ∙ row_named store.rows m.turn book m.numbers rests.marked.marks r lt

    numbers_past : (r : ℕ) → BOOK_ROWS ≤ r → numbers_at store.mark store.held r ≡ numbers_at m book r
    numbers_past r past =
        ap (λ o. numbers_of o (get_or store.mark.numbers r [])) (past_rows store.rows store.mark store.held marked r past)
        ∙ sym (ap (λ o. numbers_of o (get_or m.numbers r [])) (past_rows store.rows m book rests.marked r past))

    both_open : IsSame
    unfolding Rests
    both_open = record {
      rests_too = record {
        laid_out = subst (λ w. IsShotAtRest book_names (book_layout store.rows) w s) (sym snaps) rests.laid_out;
        marked = marked;
      };
      same_mark = λ some. record {
        second = ap (λ (x : Snapshot). x.second) snaps;
        turn = ap table_turn tables;
        numbers = λ r. ⊎_elim (numbers_in r) (numbers_past r) (cases_lt r BOOK_ROWS)
            ∙ ap (λ (b : Book). numbers_at m b r) (sym books);
      };
    }

  module _ (turn : store.mark.turn ≡ 0) (other : m.turn ≡ 0) where
    both_none : IsSame
    both_none = record {
      rests_too = rests_of store marked turn s (rests_empty book_names (book_layout store.rows) (laid_book m book)
          (table_none store.rows m book rests.marked other) (names_none store.rows m book rests.marked other) s rests.laid_out);
      same_mark = λ some. absurd (some other);
    }

  only_store : (turn : store.mark.turn ≢ 0) → m.turn ≡ 0 → IsSame
  only_store turn other = absurd (let e : shot (laid_book store.mark store.held) ≡ no_shot =
      sym (shown_open store.rows store.mark store.held marked turn) ∙ shots ∙ shown_none store.rows m book rests.marked other in cc)

  only_other : store.mark.turn ≡ 0 → m.turn ≢ 0 → IsSame
  only_other turn other = absurd (let e : no_shot ≡ shot (laid_book m book) =
      sym (shown_none store.rows store.mark store.held marked turn) ∙ shots ∙ shown_open store.rows m book rests.marked other in cc)

  pub is_same : IsSame
  is_same = ⊎_elim
      (λ zero. ⊎_elim (both_none zero) (only_other zero) (cases_eq m.turn 0))
      (λ turn. ⊎_elim (only_store turn) (both_open turn) (cases_eq m.turn 0))
      (cases_eq store.mark.turn 0)

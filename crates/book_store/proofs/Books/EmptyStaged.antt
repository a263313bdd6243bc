-- Once a row is staged to be absent, it is staged over the rows that stand.
use Rattle.std.proofs.Common.{◌≡◌, ◌≢◌, ⊎_elim, ℕ, ◌<◌, true, List, [], None, get_or, length, map, sym, ◌∙◌, ap, subst, arith}
use Rattle.std.specs.Prelude.{All}
use Rattle.std.proofs.lemmas.Bool.{cases_eq}
use Rattle.std.proofs.lemmas.List.Elements.{All-nil}
use Rattle.dr_disk.specs.State.{DiskState, OnSeen}
use Rattle.pages.specs.Layouts.{IsPage}
use Rattle.pages.specs.Snapshots.{page_of}
use Rattle.book_store.proofs.Books.Laying.{row_named}
use Rattle.book_store.proofs.Books.Listed.{Book}
use Rattle.book_store.proofs.Books.Marking.{at_place, elsewhere}
use Rattle.book_store.proofs.Books.Over.{none_standing}
use Rattle.book_store.proofs.Books.Renewing.{empty_gone, empty_gone_there, empty_lawful, empty_own, empty_there, empty_unstaged}
use Rattle.book_store.specs.AtRest.{row_pages}
use Rattle.book_store.specs.Layout.{book_layout}
use Rattle.book_store.specs.Rows.{row_in, row_names, shifted}
use Rattle.book_store.specs.Staging.{IsAsStanding, IsNoneIn, IsSpare, IsStagedOver}
use Rattle.book_store.specs.Store.{BookStore, IsLawfulStore, IsUnstaged, body_of, drops_at, numbers_at, numbers_of, pages_at, without_row}
use Rattle.book_store.specs.declared.layout.TheConstants.{BOOK_ROWS, ROW_PAGES}

module _ (store : BookStore) (lawful : IsLawfulStore store) (row : ℕ) (here : row < store.rows)
    (unstaged : IsUnstaged store row) (standing : Book) (disk : DiskState) (over : IsStagedOver store standing disk) where
  abbrev next : BookStore
  next = without_row store row

  abbrev own : List ℕ
  own = numbers_at store.mark store.held row

  abbrev named : BookStore → ℕ → List ℕ
  named b r = row_names (row_in (body_of b) r)

  names_are : (b : BookStore) → IsLawfulStore b → (r : ℕ) → r < BOOK_ROWS → named b r ≡ numbers_at b.mark b.held r
  names_are b of r lt = row_named b.rows b.mark.turn b.held b.mark.numbers of.marks r lt

  names_here : (r : ℕ) → r < BOOK_ROWS → r ≡ row → named next r ≡ []
  names_here r lt same = names_are next (empty_lawful store lawful row here) r lt ∙ empty_own store lawful row here r same

  names_there : (r : ℕ) → r < BOOK_ROWS → r ≢ row → named next r ≡ named store r
  names_there r lt other = names_are next (empty_lawful store lawful row here) r lt ∙ empty_there store lawful row here r other
      ∙ sym (names_are store lawful r lt)

  -- what holds of no number, and of those of the other rows
  by_row : (P : ℕ → List ℕ → Type 0) → ((r : ℕ) → P r []) → ((r : ℕ) → r < BOOK_ROWS → P r (named store r))
      → (r : ℕ) → r < BOOK_ROWS → P r (named next r)
  by_row P none all r lt = ⊎_elim
      (λ same. subst (P r) (sym (names_here r lt same)) (none r))
      (λ other. subst (P r) (sym (names_there r lt other)) (all r lt))
      (cases_eq r row)

  held_fit : row < length store.held
  held_fit = omega (arith, here, lawful.few, lawful.held_all)

  pages_here : (r : ℕ) → r ≡ row → pages_at next.held r ≡ []
  pages_here r same = ap row_pages (at_place store.held row r None None held_fit same)

  pages_there : (r : ℕ) → r ≢ row → pages_at next.held r ≡ pages_at store.held r
  pages_there r other = ap row_pages (elsewhere store.held row r None None other)

  holds : (r : ℕ) → r < BOOK_ROWS → OnSeen (λ s. map (page_of (book_layout store.rows) s) (shifted r (named next r)) ≡ pages_at next.held r) disk
  holds r lt s told = ⊎_elim
      (λ same. ap (λ (ns : List ℕ). map (page_of (book_layout store.rows) s) (shifted r ns)) (names_here r lt same) ∙ sym (pages_here r same))
      (λ other. ap (λ (ns : List ℕ). map (page_of (book_layout store.rows) s) (shifted r ns)) (names_there r lt other)
      ∙ over.stands.holds r lt s told ∙ sym (pages_there r other))
      (cases_eq r row)

  still_same : (r : ℕ) → IsUnstaged next r → IsAsStanding next over.mark standing r
  still_same r not_so =
      let other = empty_unstaged store lawful row here r not_so in
      let was = over.same r (sym (elsewhere store.staged row r true true other) ∙ not_so) in
      record {
        row = elsewhere store.held row r None None other ∙ was.row;
        numbers = elsewhere store.mark.numbers row r [] [] other ∙ was.numbers;
      }

  still_first : store.mark.turn ≡ 0 → (r : ℕ) → drops_at next r ≡ []
  still_first none r = ⊎_elim
      (λ same. empty_gone store lawful row here r same
      ∙ ap (λ o. numbers_of o (get_or store.mark.numbers row []))
      ((over.same row unstaged).row ∙ none_standing store standing disk over none row))
      (λ other. empty_gone_there store lawful row here r other ∙ over.first none r)
      (cases_eq r row)

  still_spare : (r p : ℕ) → OnSeen (IsSpare next r p) disk
  still_spare r p s told lt inside none none_dropped = ⊎_elim
      (λ same. over.spare r p s told lt inside
      (subst (IsNoneIn p) (empty_gone store lawful row here r same ∙ ap (numbers_at store.mark store.held) (sym same)) none_dropped)
      (subst (IsNoneIn p) (sym (ap (drops_at store) same ∙ lawful.none row unstaged)) (All-nil (λ n. n ≢ p))))
      (λ other. over.spare r p s told lt inside
      (subst (IsNoneIn p) (empty_there store lawful row here r other) none)
      (subst (IsNoneIn p) (empty_gone_there store lawful row here r other) none_dropped))
      (cases_eq r row)

  pub over_empty : IsStagedOver next standing disk
  over_empty = record {
    mark = over.mark;
    marked = over.marked;
    stands = record {
      place = over.stands.place;
      turn_is = over.stands.turn_is;
      still = over.stands.still;
      was_named = over.stands.was_named;
      named = by_row (λ r ns. All (IsPage (book_layout store.rows)) (shifted r ns)) (λ r. All-nil (IsPage (book_layout store.rows)))
          over.stands.named;
      own = by_row (λ r ns. All (λ n. n < ROW_PAGES) ns) (λ r. All-nil (λ n. n < ROW_PAGES)) over.stands.own;
      holds = holds;
    };
    same = still_same;
    first = still_first;
    spare = still_spare;
  }

-- Once a row is staged, it is staged over the rows that stand.
use Rattle.std.proofs.Common.{◌≡◌, ◌≢◌, ⊎_elim, ℕ, ◌+◌, ◌*◌, ◌<◌, true, false, List, [], ◌∷◌, None, Some, get_or, length, take, refl, sym, ◌∙◌, ap, subst, arith}
use Rattle.std.proofs.lemmas.Bool.{cases_eq}
use Rattle.std.proofs.lemmas.List.Elements.{All-nil}
use Rattle.dr_disk.specs.State.{DiskState, OnSeen}
use Rattle.pages.specs.Writing.{IsNoneOf}
use Rattle.paged_records.specs.Bounded.{Fits}
use Rattle.record_pages.specs.Pages.{pages_in}
use Rattle.record_pages.specs.Plans.{changed, dropped, numbered}
use Rattle.record_pages.proofs.Dropped.{IsNone, covers}
use Rattle.relay_wire.specs.Names.{is_name}
use Rattle.book_store.proofs.Books.Listed.{Book}
use Rattle.book_store.proofs.Books.Marking.{at_place, elsewhere}
use Rattle.book_store.proofs.Books.Over.{held_here, held_there, none_standing, restated}
use Rattle.book_store.proofs.Books.Renewing.{fresh_count, has_pages, plan, row_gone, row_gone_there, row_own, row_there, short}
use Rattle.book_store.proofs.RowPlans.{shifted_at, shifted_long}
use Rattle.book_store.specs.AtRest.{laid_book, row_pages}
use Rattle.book_store.specs.Desk.{KeepsOthers, StandsStaged, holding}
use Rattle.book_store.specs.Kept.{free_of_row, row_bounds}
use Rattle.book_store.specs.Rows.{shifted}
use Rattle.book_store.specs.Staging.{IsAsStanding, IsNoneIn, IsSpare, IsStagedOver}
use Rattle.book_store.specs.Store.{BookStore, IsLawfulStore, IsNewName, IsUnstaged, body_of, drops_at, numbers_at, numbers_of, pages_at, with_row}
use Rattle.book_store.specs.declared.layout.TheConstants.{ROW_PAGES}

module _ (store : BookStore) (lawful : IsLawfulStore store) (row : ℕ) (here : row < store.rows)
    (unstaged : IsUnstaged store row) (text : List ℕ) (fits : Fits row_bounds text) (name : List ℕ)
    (named : is_name name ≡ true) (new_name : IsNewName store row name) where
  abbrev pub next : BookStore
  next = with_row store row name text

  abbrev own : List ℕ
  own = numbers_at store.mark store.held row

  abbrev olds : List (List ℕ)
  olds = pages_at store.held row

  abbrev news : List (List ℕ)
  news = pages_in text

  abbrev pub fresh : List ℕ
  fresh = take (length (changed olds news)) (free_of_row own)

  held_fit : row < length store.held
  held_fit = omega (arith, here, lawful.few, lawful.held_all)

  staged_fit : row < length store.staged
  staged_fit = omega (arith, here, lawful.few, lawful.staged_all)

  none_staged : (r : ℕ) → IsUnstaged next r → r ≢ row
  none_staged r not_so same = absurd (let e : true ≡ false = sym (at_place store.staged row r true true staged_fit same) ∙ not_so in cc)

  pages_same : (r : ℕ) → holding (pages_at store.held) row news r ≡ pages_at next.held r
  pages_same r = ⊎_elim
      (λ same. held_here (pages_at store.held) row news r same
      ∙ sym (ap row_pages (at_place store.held row r (Some (record { name = name; text = text })) None held_fit same)))
      (λ other. held_there (pages_at store.held) row news r other
      ∙ sym (ap row_pages (elsewhere store.held row r (Some (record { name = name; text = text })) None other)))
      (cases_eq r row)

  -- a page of a row, beside those that were written
  unwritten : (r p : ℕ) → p < ROW_PAGES → (r ≡ row → IsNone p fresh) → IsNoneOf (ROW_PAGES * r + p) (shifted row fresh)
  unwritten r p lt none j in_j e =
      let below : j < length fresh = omega (arith, in_j, shifted_long row fresh) in
      let at = shifted_at row fresh j below in
      let small = (plan store lawful row here text fits).fresh_are.within j 0 below in
      ⊎_elim
      (λ same. none same j 0 below (omega (arith, e, at, same)))
      (λ other. omega (arith, e, at, lt, small.1, other))
      (cases_eq r row)

  module _ (standing : Book) (start now : DiskState) (over : IsStagedOver store standing start) where
    still_same : (r : ℕ) → IsUnstaged next r → IsAsStanding next over.mark standing r
    still_same r not_so =
        let other = none_staged r not_so in
        let was = over.same r (sym (elsewhere store.staged row r true true other) ∙ not_so) in
        record {
          row = elsewhere store.held row r (Some (record { name = name; text = text })) None other ∙ was.row;
          numbers = elsewhere store.mark.numbers row r (numbered olds own news (free_of_row own)) [] other ∙ was.numbers;
        }

    -- before the first commit the row had no page
    nothing : store.mark.turn ≡ 0 → own ≡ []
    nothing none = ap (λ o. numbers_of o (get_or store.mark.numbers row []))
        ((over.same row unstaged).row ∙ none_standing store standing start over none row)

    no_drop : (l : List (List ℕ)) (ns : List ℕ) → ns ≡ [] → dropped l ns news ≡ []
    no_drop [] ns none = refl
    no_drop (page ∷ l) ns none = ap (λ (ns : List ℕ). dropped (page ∷ l) ns news) none

    still_first : store.mark.turn ≡ 0 → (r : ℕ) → drops_at next r ≡ []
    still_first none r = ⊎_elim
        (λ same. row_gone store lawful row here text fits name named new_name r same ∙ no_drop olds own (nothing none))
        (λ other. row_gone_there store lawful row here text fits name named new_name r other ∙ over.first none r)
        (cases_eq r row)

    module _ (kept : OnSeen (KeepsOthers store.rows (shifted row fresh) start) now) where
      spare_there : (r p : ℕ) → r ≢ row → OnSeen (IsSpare next r p) now
      spare_there r p other s told lt inside none none_dropped =
          let late = kept s told in
          late.rest (ROW_PAGES * r + p) (omega arith, omega (arith, lt, inside))
          (unwritten r p inside (λ same. absurd (other same)))
          ∙ over.spare r p late.read late.told lt inside
          (subst (IsNoneIn p) (row_there store lawful row here text fits name named new_name r other) none)
          (subst (IsNoneIn p) (row_gone_there store lawful row here text fits name named new_name r other) none_dropped)

      spare_here : (p : ℕ) → OnSeen (IsSpare next row p) now
      spare_here p s told lt inside none none_dropped =
          let late = kept s told in
          let named_none : IsNone p (numbered olds own news fresh) =
          subst (IsNoneIn p) (row_own store lawful row here text fits name named new_name row refl
          ∙ short store lawful row here text fits) none in
          let gone_none : IsNone p (dropped olds own news) =
          subst (IsNoneIn p) (row_gone store lawful row here text fits name named new_name row refl) none_dropped in
          ⊎_elim
          (λ there. absurd (gone_none there.0 0 there.1 (sym there.2)))
          (λ both. late.rest (ROW_PAGES * row + p) (omega arith, omega (arith, lt, inside))
          (unwritten row p inside (λ same. both.1))
          ∙ over.spare row p late.read late.told lt inside both.0
          (subst (IsNoneIn p) (sym (lawful.none row unstaged)) (All-nil (λ n. n ≢ p))))
          (covers p olds own news fresh (has_pages store lawful row here).each (fresh_count store lawful row here text fits) named_none)

      still_spare : (r p : ℕ) → OnSeen (IsSpare next r p) now
      still_spare r p s told = ⊎_elim
          (λ same. subst (λ q. IsSpare next q p s) (sym same) (spare_here p s told))
          (λ other. spare_there r p other s told)
          (cases_eq r row)

      pub over_next : StandsStaged store.rows store.mark.second store.mark.turn (body_of next) (laid_book over.mark standing)
          (holding (pages_at store.held) row news) now → IsStagedOver next standing now
      over_next stands = record {
        mark = over.mark;
        marked = over.marked;
        stands = restated store.rows store.mark.second store.mark.turn (body_of next) (laid_book over.mark standing)
            (holding (pages_at store.held) row news) (pages_at next.held) now pages_same stands;
        same = still_same;
        first = still_first;
        spare = still_spare;
      }

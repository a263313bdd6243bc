-- Over rows that are at rest others may be staged.
use Rattle.std.proofs.Common.{◌≡◌, ◌≢◌, ⊎_elim, ℕ, zero, suc, ◌+◌, ◌*◌, ◌≤◌, ◌<◌, Bool, true, false, List, [], ◌++◌, get_or, length, map, replicate, take, drop, refl, sym, ◌∙◌, ap, subst, arith}
use Rattle.std.specs.Prelude.{All, slice_index}
use Rattle.std.proofs.Math.Seq.{drop-append_seam, take-append_seam}
use Rattle.std.proofs.lemmas.Bool.{cases_eq, cases_lt}
use Rattle.std.proofs.lemmas.List.{get_or_past, get_or-replicate, length-map, map-append}
use Rattle.dr_disk.specs.State.{Always, DiskState, IsLawful, OnSeen}
use Rattle.pages.specs.declared.layout.Layout.{Layout}
use Rattle.pages.specs.Layouts.{IsPage}
use Rattle.pages.specs.Snapshots.{page_of}
use Rattle.book_store.proofs.Books.Laying.{are_pages, beside, each_row, own_small, row_named}
use Rattle.book_store.proofs.Books.Listed.{pages_listed}
use Rattle.book_store.proofs.Books.RowReadings.{long}
use Rattle.book_store.proofs.Books.Zeros.{table_body}
use Rattle.book_store.proofs.RowPlans.{shifted_long}
use Rattle.book_store.specs.AtRest.{IsBookMarked, all_pages, laid_book}
use Rattle.book_store.specs.Layout.{book_layout}
use Rattle.book_store.specs.Rows.{book_names, names_by, pages_by, row_in, row_names, shifted}
use Rattle.book_store.specs.Staging.{IsSpare, IsStagedOver, Rests}
use Rattle.book_store.specs.Store.{BookStore, IsLawfulStore, body_of, drops_at, numbers_at, pages_at}
use Rattle.book_store.specs.declared.layout.TheConstants.{BOOK_ROWS, ROW_PAGES}

-- what stands at all pages, row by row
unmapped : (f : ℕ → List ℕ) (k r : ℕ) (numbers : ℕ → List ℕ) (held : ℕ → List (List ℕ))
    → ((s : ℕ) → r ≤ s → s < r + k → length (held s) ≡ length (numbers s))
    → map f (names_by k r numbers) ≡ pages_by k r held
    → (s : ℕ) → r ≤ s → s < r + k → map f (shifted s (numbers s)) ≡ held s
unmapped f zero r numbers held each same s le lt = absurd (omega arith)
unmapped f (suc k) r numbers held each same s le lt =
    let split : map f (shifted r (numbers r)) ++ map f (names_by k (suc r) numbers) ≡ held r ++ pages_by k (suc r) held =
    sym (map-append f (shifted r (numbers r)) (names_by k (suc r) numbers)) ∙ same in
    let size : length (map f (shifted r (numbers r))) ≡ length (held r) =
    length-map (shifted r (numbers r)) f ∙ shifted_long r (numbers r) ∙ sym (each r (omega arith) (omega arith)) in
    let first : map f (shifted r (numbers r)) ≡ held r =
    sym (take-append_seam (map f (shifted r (numbers r))) (map f (names_by k (suc r) numbers)))
    ∙ ap (λ n. take n (map f (shifted r (numbers r)) ++ map f (names_by k (suc r) numbers))) size
    ∙ ap (take (length (held r))) split ∙ take-append_seam (held r) (pages_by k (suc r) held) in
    let rest : map f (names_by k (suc r) numbers) ≡ pages_by k (suc r) held =
    sym (drop-append_seam (map f (shifted r (numbers r))) (map f (names_by k (suc r) numbers)))
    ∙ ap (λ n. drop n (map f (shifted r (numbers r)) ++ map f (names_by k (suc r) numbers))) size
    ∙ ap (drop (length (held r))) split ∙ drop-append_seam (held r) (pages_by k (suc r) held) in
    ⊎_elim
    (λ is. subst (λ t. map f (shifted t (numbers t)) ≡ held t) (sym is) first)
    (λ other. unmapped f k (suc r) numbers held (λ t more less. each t (omega arith) (omega arith)) rest s (omega (arith, le, other)) (omega arith))
    (cases_eq s r)

module _ (store : BookStore) (lawful : IsLawfulStore store) (disk : DiskState) (of : IsLawful disk)
    (none : store.staged ≡ replicate BOOK_ROWS false) (marked : IsBookMarked store.rows store.mark store.held)
    (rests : Always (Rests store) disk) where
  abbrev l : Layout
  l = book_layout store.rows

  abbrev body : List ℕ
  body = body_of store

  body_is : (laid_book store.mark store.held).table.body ≡ body
  body_is = table_body store.rows store.mark store.held marked

  names_are : (r : ℕ) → r < BOOK_ROWS → row_names (row_in body r) ≡ numbers_at store.mark store.held r
  names_are r lt = row_named store.rows store.mark.turn store.held store.mark.numbers lawful.marks r lt

  unstaged : (r : ℕ) → r < BOOK_ROWS → get_or store.staged r true ≡ false
  unstaged r lt = ap (λ (l : List Bool). get_or l r true) none ∙ get_or-replicate BOOK_ROWS r false true lt

  no_drops : (r : ℕ) → drops_at store r ≡ []
  no_drops r = ⊎_elim
      (λ lt. lawful.none r (unstaged r lt))
      (λ past. get_or_past store.drops r [] (omega (arith, past, lawful.drops_all)))
      (cases_lt r BOOK_ROWS)

  pages_are : pages_by BOOK_ROWS 0 (pages_at store.held) ≡ all_pages store.held
  pages_are = ap (λ k. pages_by k 0 (pages_at store.held)) (sym lawful.held_all)
      ∙ pages_listed store.held 0 (pages_at store.held) (λ s. ap (pages_at store.held) (let e : 0 + s ≡ s = omega arith in e))

  holds : (r : ℕ) → r < BOOK_ROWS → OnSeen (λ s. map (page_of l s) (shifted r (row_names (row_in body r))) ≡ pages_at store.held r) disk
  unfolding Rests book_names
  holds r lt s told = unmapped (page_of l s) BOOK_ROWS 0 (λ r. row_names (row_in body r)) (pages_at store.held)
      (λ t le less. long store.rows store.mark.turn store.held store.mark.numbers lawful.marks t (omega (arith, less)))
      (ap (λ (b : List ℕ). map (page_of l s) (book_names b)) (sym body_is)
      ∙ (rests s (of.seen_now s told)).laid_out.still.pages ∙ sym pages_are)
      r (omega arith) (omega (arith, lt))

  spare : (r p : ℕ) → OnSeen (IsSpare store r p) disk
  unfolding Rests
  spare r p s told lt inside none_own none_dropped =
      (rests s (of.seen_now s told)).laid_out.blank (ROW_PAGES * r + p) (omega arith, omega (arith, lt, inside))
      (subst (λ (b : List ℕ). All (λ m. IsPage l m × (m ≢ ROW_PAGES * r + p)) (book_names b)) (sym body_is)
      (beside store.rows store.mark.turn store.held store.mark.numbers lawful.marks r p inside none_own))

  pages_here : (r : ℕ) → r < BOOK_ROWS → All (IsPage l) (shifted r (row_names (row_in body r)))
  unfolding book_names
  pages_here r lt = each_row (IsPage l) BOOK_ROWS 0 (λ s. row_names (row_in body s))
      (are_pages store.rows store.mark.turn store.held store.mark.numbers lawful.marks) r (omega arith) (omega (arith, lt))

  pub rests_over : IsStagedOver store store.held disk
  unfolding Rests
  rests_over = record {
    mark = store.mark;
    marked = marked;
    stands = record {
      place = refl;
      turn_is = ap (λ (b : List ℕ). slice_index b 0) body_is;
      still = λ c left. (rests c left).laid_out.still;
      was_named = subst (λ (b : List ℕ). All (IsPage l) (book_names b)) (sym body_is)
          (are_pages store.rows store.mark.turn store.held store.mark.numbers lawful.marks);
      named = pages_here;
      own = λ r lt. subst (All (λ n. n < ROW_PAGES)) (sym (names_are r lt))
          (own_small store.rows store.mark.turn store.held store.mark.numbers lawful.marks r);
      holds = holds;
    };
    same = λ r not_so. record { row = refl; numbers = refl };
    first = λ none r. no_drops r;
    spare = spare;
  }

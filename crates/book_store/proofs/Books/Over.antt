-- A row is staged over those that stand.
use Rattle.std.proofs.Common.{◌≡◌, ◌≢◌, ℕ, zero, suc, ◌+◌, ◌*◌, ◌<◌, Bool, true, false, List, [], None, get_or, length, refl, sym, ◌∙◌, ap, subst, arith}
use Rattle.std.specs.Prelude.{◌==◌, All, if◌then◌else◌, not, slice_index}
use Rattle.std.proofs.lemmas.Bool.Decides.{nat_tests}
use Rattle.dr_disk.specs.State.{Always, DiskState}
use Rattle.dr_disk.specs.Spans.{Span}
use Rattle.dr_disk.proofs.Steps.{widen}
use Rattle.pages.specs.declared.layout.Layout.{Layout}
use Rattle.pages.specs.declared.layout.TheConstants.{OPEN}
use Rattle.pages.specs.Layouts.{IsPage}
use Rattle.pages.specs.Snapshots.{IsBeside, IsStill, IsUnnamed, Snapshot}
use Rattle.pages.specs.Tables.{alone, counts, is_open, none_open, table_at}
use Rattle.pages.specs.Writing.{AreBeside, AreUnnamed, KeepsNamed, Stages}
use Rattle.pages.proofs.Newest.{closed, stands_alone}
use Rattle.pages.proofs.Shots.{shot_still}
use Rattle.record_pages.proofs.LawfulEntries.{AreNone}
use Rattle.book_store.proofs.Books.Laying.{beside}
use Rattle.book_store.proofs.Books.Listed.{Book}
use Rattle.book_store.proofs.Books.Readings.{has}
use Rattle.book_store.proofs.Books.Zeros.{table_body}
use Rattle.book_store.proofs.RowPlans.{shifted_at, shifted_long}
use Rattle.book_store.specs.AtRest.{laid_book}
use Rattle.book_store.specs.Committing.{HasRows, KeepsRows}
use Rattle.book_store.specs.Desk.{StandsStaged, holding}
use Rattle.book_store.specs.Layout.{book_layout}
use Rattle.book_store.specs.Rows.{book_names, shifted}
use Rattle.book_store.specs.Shown.{absent}
use Rattle.book_store.specs.Staging.{IsStagedOver}
use Rattle.book_store.specs.Store.{BookStore, IsUnstaged, numbers_at, numbers_of}
use Rattle.book_store.specs.declared.layout.TheConstants.{BOOK_ROWS, ROW_PAGES}

-- what one table names, beside a closed one
still_unnamed : (names : List ℕ → List ℕ) (l : Layout) (was : Snapshot) (c : List ℕ) (n : ℕ)
    → IsStill names l was c → IsBeside names l n was.table → IsUnnamed names l n c
still_unnamed names l was c n still beside k table is_so = by (is_open was.table)
    (sym (stands_alone l was.second c (closed (table_at l (not was.second) c)
    (λ opened. absurd (let e : OPEN ≡ 0 = sym opened ∙ still.shut in omega arith)))
    ∙ ap (λ t. alone was.second t) still.current) ∙ is_so)
  where
    by : (o : Bool) → (if o then counts was.second was.table else none_open) ≡ counts k table
        → IsBeside names l n table
    by true is = let same : was.table ≡ table = cc in subst (λ t. IsBeside names l n t) same beside
    by false is = absurd (let e : none_open ≡ counts k table = is in cc)

pub none_absent : (k r : ℕ) → get_or (absent k) r None ≡ None
none_absent zero r = refl
none_absent (suc k) zero = refl
none_absent (suc k) (suc r) = none_absent k r

-- by other words for what each row holds
pub restated : (rows : ℕ) (second : Bool) (turn : ℕ) (body : List ℕ) (was : Snapshot) (held other : ℕ → List (List ℕ))
    (disk : DiskState) → ((r : ℕ) → held r ≡ other r) → StandsStaged rows second turn body was held disk
    → StandsStaged rows second turn body was other disk
restated rows second turn body was held other disk same stands = record {
  place = stands.place;
  turn_is = stands.turn_is;
  still = stands.still;
  was_named = stands.was_named;
  named = stands.named;
  own = stands.own;
  holds = λ r lt s told. stands.holds r lt s told ∙ same r;
}

pub held_here : (held : ℕ → List (List ℕ)) (row : ℕ) (next : List (List ℕ)) (r : ℕ) → r ≡ row → holding held row next r ≡ next
held_here held row next r same = ap (λ b. if b then next else held r) (let e : (r == row) ≡ true = grind (arith, nat_tests) in e)

pub held_there : (held : ℕ → List (List ℕ)) (row : ℕ) (next : List (List ℕ)) (r : ℕ) → r ≢ row → holding held row next r ≡ held r
held_there held row next r other = ap (λ b. if b then next else held r) (let e : (r == row) ≡ false = grind (arith, nat_tests) in e)

module _ (store : BookStore) (standing : Book) (start : DiskState) (over : IsStagedOver store standing start) where
  abbrev pub l : Layout
  l = book_layout store.rows

  abbrev pub was : Snapshot
  was = laid_book over.mark standing

  -- the rows that stand, as long as nothing that counts changes
  pub still_has : (c : List ℕ) → IsStill book_names l was c → HasRows store.rows standing c
  still_has c still = has store.rows over.mark standing over.marked c (shot_still book_names l c was still)

  pub mark_turn : over.mark.turn ≡ store.mark.turn
  mark_turn = sym (ap (λ (b : List ℕ). slice_index b 0) (table_body store.rows over.mark standing over.marked)) ∙ over.stands.turn_is

  pub none_standing : store.mark.turn ≡ 0 → (r : ℕ) → get_or standing r None ≡ None
  none_standing none r = ap (λ (b : Book). get_or b r None) (over.marked.none (mark_turn ∙ none)) ∙ none_absent BOOK_ROWS r

  pub keeps_rows : (now : DiskState) (fresh : List ℕ) → Stages book_names l fresh start now → AreBeside book_names l fresh was
      → Span start now (KeepsRows store.rows standing start)
  keeps_rows now fresh stages apart =
      widen start now (KeepsNamed book_names l was start) (KeepsRows store.rows standing start)
      (λ c kept. record { has = still_has c kept.still; frame = kept.around })
      (stages.staging was over.stands.still apart).during

  pub keeps_still : (now : DiskState) (fresh : List ℕ) → Stages book_names l fresh start now → AreBeside book_names l fresh was
      → Always (KeepsRows store.rows standing start) now
  keeps_still now fresh stages apart c left =
      let kept = (stages.staging was over.stands.still apart).still c left in
      record { has = still_has c kept.still; frame = kept.around }

  module _ (row : ℕ) (unstaged : IsUnstaged store row) where
    abbrev own : List ℕ
    own = numbers_at store.mark store.held row

    own_stands : numbers_at over.mark standing row ≡ own
    own_stands =
        let same = over.same row unstaged in
        ap (λ o. numbers_of o (get_or over.mark.numbers row [])) (sym same.row)
        ∙ ap (numbers_of (get_or store.held row None)) (sym same.numbers)

    page_beside : (p : ℕ) → p < ROW_PAGES → All (λ n. n ≢ p) own → IsBeside book_names l (ROW_PAGES * row + p) was.table
    page_beside p lt none = subst (λ (b : List ℕ). All (λ m. IsPage l m × (m ≢ ROW_PAGES * row + p)) (book_names b))
        (sym (table_body store.rows over.mark standing over.marked))
        (beside store.rows over.mark.turn standing over.mark.numbers over.marked.marks row p lt
        (subst (All (λ n. n ≢ p)) (sym own_stands) none))

    -- pages of a row that it doesn't have are named by no table
    pub are_beside : (ns : List ℕ) → All (λ n. n < ROW_PAGES) ns → AreNone ns own → AreBeside book_names l (shifted row ns) was
    are_beside ns small apart j lt =
        let below : j < length ns = omega (arith, lt, shifted_long row ns) in
        subst (λ m. IsBeside book_names l m was.table) (sym (shifted_at row ns j below))
        (page_beside (slice_index ns j) (small j 0 below) (apart j 0 below))

    pub are_unnamed : (ns : List ℕ) → All (λ n. n < ROW_PAGES) ns → AreNone ns own → AreUnnamed book_names l (shifted row ns) start
    are_unnamed ns small apart j lt c left =
        still_unnamed book_names l was c (slice_index (shifted row ns) j) (over.stands.still c left) (are_beside ns small apart j lt)

-- How many calls it takes to put a record into the place of another in a row, and which they are.
use Rattle.std.proofs.Common.{Bool, List, None, Option, Some, [], ap, ap₂, arith, false, get_or, length, replicate, suc, sym, true, zero, ℕ, ⊎_elim, ◌+◌, ◌*◌, ◌-◌, ◌<◌, ◌≤◌, ◌∙◌, ◌≡◌, ◌≢◌, ◌++◌, refl}
use Rattle.std.proofs.lemmas.Bool.{cases_eq}
use Rattle.std.proofs.lemmas.Bool.Decides.{nat_tests}
use Rattle.std.proofs.lemmas.List.{get_or-set_other, get_or-set_same, length-append, length-map, length-replicate}
use Rattle.std.specs.Prelude.{if◌then◌else◌, nat_lt, not, ◌==◌}
use Rattle.pages.specs.Stops.{put_call, puts, retire_call, retires}
use Rattle.record_pages.specs.Pages.{pages_in}
use Rattle.record_pages.specs.Plans.{changed, dropped}
use Rattle.record_pages.proofs.Dropped.{dropped_count}
use Rattle.record_pages.proofs.Filled.{pages_in_long}
use Rattle.slot_store.specs.Stops.{call_after, calls_of, wipes_of, writes_of}
use Rattle.book_store.specs.AtRest.{IsBookMarked, row_mark, row_marks, row_pages}
use Rattle.book_store.specs.Rows.{names_by, shifted}
use Rattle.book_store.specs.Shown.{BookRow}
use Rattle.book_store.specs.Store.{BookStore, IsNewName, all_drops, drops_at, numbers_at, numbers_of, pages_at, with_row, writes_at}
use Rattle.book_store.specs.declared.layout.TheConstants.{BOOK_ROWS, ROW_PAGES}
use Rattle.book_store.proofs.Books.Listed.{mark_at, marks_long}
use Rattle.book_store.proofs.Books.Over.{none_absent}
use Rattle.book.specs.Changing.{change_call, change_calls}
use Rattle.book.proofs.Stored.{present_inside}

-- ---- numbers of which one row alone has some

names_none : (k r : ℕ) (f : ℕ → List ℕ) → ((q : ℕ) → r ≤ q → f q ≡ []) → length (names_by k r f) ≡ 0
names_none zero r f none = refl
names_none (suc k) r f none =
    ap (λ l. length (shifted r l ++ names_by k (suc r) f)) (none r (omega arith))
    ∙ names_none k (suc r) f (λ q ge. none q (omega arith))

names_one : (k r at : ℕ) (f : ℕ → List ℕ) → r ≤ at → at < r + k → ((q : ℕ) → q ≢ at → f q ≡ [])
    → length (names_by k r f) ≡ length (f at)
names_one zero r at f ge lt none = absurd (omega arith)
names_one (suc k) r at f ge lt none = ⊎_elim
    (λ same. length-append (shifted r (f r)) (names_by k (suc r) f)
    ∙ ap (λ n. length (shifted r (f r)) + n)
    (names_none k (suc r) f (λ q more. none q (λ e. absurd (omega arith))))
    ∙ (let e : length (shifted r (f r)) + 0 ≡ length (shifted r (f r)) = omega arith in e)
    ∙ length-map (f r) (λ n. ROW_PAGES * r + n) ∙ ap (λ n. length (f n)) same)
    (λ other. ap (λ l. length (shifted r l ++ names_by k (suc r) f)) (none r other)
    ∙ names_one k (suc r) at f (let e : r ≡ at → ⊥ = other in omega arith) (omega arith) none)
    (cases_eq r at)

module _ (store : BookStore) (at : ℕ) (name old text : List ℕ)
    (marked : IsBookMarked store.rows store.mark store.held)
    (none_dropped : store.drops ≡ replicate BOOK_ROWS [])
    (here : get_or store.held at None ≡ Some (record { name = name; text = old })) where
  abbrev own : List ℕ
  own = get_or store.mark.numbers at []

  abbrev staged : BookStore
  staged = with_row store at name text

  mark_is : get_or (row_marks store.held store.mark.numbers) at None
      ≡ Some (record { name = name; len = length old; numbers = own })
  mark_is = mark_at store.held store.mark.numbers at ∙ ap (λ (o : Option BookRow). row_mark o own) here

  pub inside : at < store.rows
  inside = marked.marks.inside at (record { name = name; len = length old; numbers = own }) mark_is

  below : at < BOOK_ROWS
  below = omega (
    arith,
    present_inside store.held at (record { name = name; text = old }) here,
    marks_long store.held store.mark.numbers,
    marked.marks.all,
  )

  -- no other row has its name
  pub new_name : IsNewName store at name
  new_name r other apart is =
      marked.marks.differ r at
      (record { name = other.name; len = length other.text; numbers = get_or store.mark.numbers r [] })
      (record { name = name; len = length old; numbers = own })
      (mark_at store.held store.mark.numbers r
      ∙ ap (λ (o : Option BookRow). row_mark o (get_or store.mark.numbers r [])) is) mark_is apart

  own_long : length own ≡ length (pages_in old)
  own_long = (marked.marks.lawful at (record { name = name; len = length old; numbers = own }) mark_is).each
      ∙ sym (pages_in_long old)

  pub writes : writes_at store at text ≡ writes_of (Some old) (Some text)
  unfolding writes_of
  writes = ap (λ (o : Option BookRow). length (changed (row_pages o) (pages_in text))) here

  abbrev gone : List ℕ
  gone = dropped (pages_at store.held at) (numbers_at store.mark store.held at) (pages_in text)

  gone_long : length gone ≡ writes_of (Some text) (Some old)
  unfolding writes_of
  gone_long =
      ap (λ (o : Option BookRow). length (dropped (row_pages o) (numbers_of o own) (pages_in text))) here
      ∙ dropped_count (pages_in old) own (pages_in text) own_long

  drops_here : drops_at staged at ≡ gone
  drops_here = get_or-set_same store.drops at gone []
      (omega (arith, below, ap length none_dropped, length-replicate {A = List ℕ} BOOK_ROWS []))

  drops_else : (q : ℕ) → q ≢ at → drops_at staged q ≡ []
  drops_else q other = get_or-set_other store.drops at q gone [] other
      ∙ ap (λ (l : List (List ℕ)). get_or l q []) none_dropped ∙ none_there BOOK_ROWS q
    where
      none_there : (n q : ℕ) → get_or (replicate {A = List ℕ} n []) q [] ≡ []
      none_there zero q = refl
      none_there (suc n) zero = refl
      none_there (suc n) (suc q) = none_there n q

  pub wipes : length (all_drops staged) ≡ wipes_of (Some old) (Some text)
  wipes = names_one store.rows 0 at (drops_at staged) (omega arith) (omega (arith, inside)) drops_else
      ∙ ap length drops_here ∙ gone_long

  never : (row : BookRow) → None ≡ Some row → ⊥
  never row e = absurd (let f : None ≡ Some row = e in cc)

  turned : (store.mark.turn == 0) ≡ false
  turned = by (store.mark.turn == 0) refl
    where
      by : (b : Bool) → (store.mark.turn == 0) ≡ b → b ≡ false
      by false is = refl
      by true is =
          let zero_turn : store.mark.turn ≡ 0 = grind (arith, nat_tests) in
          absurd (never (record { name = name; text = old }) (sym (none_absent BOOK_ROWS at)
          ∙ ap (λ (l : List (Option BookRow)). get_or l at None) (sym (marked.none zero_turn)) ∙ here))

  pub calls : change_calls (writes_at store at text) staged ≡ calls_of (Some old) (Some text)
  unfolding calls_of
  calls = ap₂ (λ n m. puts n + m) writes
      (ap (λ b. if not b then retires (length (all_drops staged)) else 0) turned ∙ ap retires wipes)

  pub kinds : (p : ℕ) → change_call (writes_at store at text) (length (all_drops staged)) p
      ≡ call_after (Some old) (Some text) p
  unfolding change_call call_after
  kinds p = ap₂ (λ n d. if nat_lt p (puts n) then put_call n p else retire_call d (p - puts n)) writes wipes

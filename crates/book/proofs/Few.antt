-- How many writes and syncs it takes at most to bring rows up to the newest version.
use Rattle.std.proofs.Common.{Bool, Err, List, None, Ok, Option, Result, Some, [], ap, arith, false, get_or, length, refl, replicate, subst, suc, sym, true, zero, ℕ, ◌+◌, ◌*◌, ◌≤◌, ◌∙◌, ◌∷◌, ◌≡◌}
use Rattle.std.proofs.Math.ListN.{set}
use Rattle.std.proofs.lemmas.List.{length-append, length-map, length-take}
use Rattle.std.specs.Prelude.{Vec, if◌then◌else◌, take}
use Rattle.dr_disk.specs.Called.{Called}
use Rattle.dr_disk.specs.Spans.{HavePassedAtLeast}
use Rattle.dr_disk.specs.State.{DiskState}
use Rattle.dr_disk.specs.declared.call.Call.{Call}
use Rattle.dr_disk.specs.declared.call.Call.TheVariants.{Read, Sync, Write}
use Rattle.pages.specs.Counted.{MakesAtMost, missed, one_of}
use Rattle.pages.specs.Stops.{puts, retires}
use Rattle.record_pages.specs.Pages.{page_count, pages_in}
use Rattle.record_pages.specs.Plans.{dropped}
use Rattle.record_pages.proofs.Dropped.{dropped_count}
use Rattle.record_pages.proofs.Filled.{count_least, pages_in_long}
use Rattle.record_pages.proofs.Renumbered.{changed_few}
use Rattle.book_store.specs.AtRest.{row_mark, row_marks, row_pages}
use Rattle.book_store.specs.Committing.{call_of}
use Rattle.book_store.specs.Marks.{RowMark}
use Rattle.book_store.specs.Kept.{row_bounds}
use Rattle.paged_records.specs.Bounded.{HasText}
use Rattle.book_store.specs.Rows.{names_by, shifted}
use Rattle.book_store.specs.Shown.{BookRow}
use Rattle.book_store.specs.Staging.{IsStagedOver}
use Rattle.book_store.specs.Store.{BookStore, IsUnstaged, all_drops, committed, drops_at, numbers_at, numbers_of, pages_at, retire_calls, with_row, writes_at}
use Rattle.book_store.specs.declared.errors.StoreFault.{StoreFault}
use Rattle.book_store.specs.declared.layout.TheConstants.{BOOK_ROWS, ROW_MOST, ROW_PAGES}
use Rattle.book_store.proofs.Books.Listed.{mark_at}
use Rattle.book.specs.Renewing.{HasFewDrops, missed_by}

-- ---- counts

one_most : (call : Call) → one_of call ≤ 1
one_most Read = omega arith
one_most Write = omega arith
one_most Sync = omega arith

-- as many as are told, or fewer than a bound
pub few_of : {T : Type 0} (n most : ℕ) (start now : DiskState) (r : Result T StoreFault) → n ≤ most
    → HavePassedAtLeast start now → Called n call_of start now r → MakesAtMost most missed_by start now r
few_of n most start now (Ok done) le grows called = record {
  told = λ m is. let was = called.passed m is in (was.0, was.1, omega (arith, was.2, le));
}
few_of n most start now (Err fault) le grows called = record {
  told = λ m is. let was = grows m is in
      (was.0, was.1, omega (arith, called.few was.0 m was.1 is, one_most fault.call, le));
}

-- one part after the other
pub few_then : {T U V E F G : Type 0} (n more total : ℕ) (f : E → ℕ) (g : F → ℕ) (h : G → ℕ) (x : T) (a b c : DiskState)
    (r : Result U F) (s : Result V G) → missed h s ≡ missed g r → n + more ≤ total
    → MakesAtMost {E = E} n f a b (Ok x) → MakesAtMost more g b c r → MakesAtMost total h a c s
few_then n more total f g h x a b c r s same le first next = record {
  told = λ m is.
      let mid = next.told m is in
      let was = first.told mid.0 mid.1 in
      (was.0, was.1, omega (arith, mid.2, was.2, le, same));
}

-- the same, under a bound that is no less
pub few_as : {T U E F : Type 0} (n total : ℕ) (f : E → ℕ) (g : F → ℕ) (a b : DiskState) (r : Result T E) (s : Result U F)
    → missed g s ≡ missed f r → n ≤ total → MakesAtMost n f a b r → MakesAtMost total g a b s
few_as n total f g a b r s same le few = record {
  told = λ m is. let was = few.told m is in (was.0, was.1, omega (arith, was.2, le, same));
}

-- ---- pages

-- a text that a row may have writes no more pages than it has
pub writes_few : (store : BookStore) (at : ℕ) (text : List ℕ) → page_count (length text) ≤ ROW_MOST
    → writes_at store at text ≤ ROW_MOST
writes_few store at text few =
    omega (arith, changed_few (pages_at store.held at) (pages_in text), pages_in_long text, few)

pub text_few : {Z : Type 0} (store : BookStore) (at : ℕ) (text : Vec ℕ Z) (len : ℕ) → HasText row_bounds text len
    → writes_at store at (take len text.items) ≤ ROW_MOST
text_few store at text len has =
    writes_few store at (take len text.items)
    (count_least (length (take len text.items)) ROW_MOST (omega (arith, has.few, length-take len text.items)))

-- what becomes of a list of short lists where one is another short one
set_few : (lists : List (List ℕ)) (at : ℕ) (one : List ℕ) (most : ℕ) → ((r : ℕ) → length (get_or lists r []) ≤ most)
    → length one ≤ most → (r : ℕ) → length (get_or (set lists at one) r []) ≤ most
set_few [] at one most few le r = few r
set_few (l ∷ lists) zero one most few le zero = le
set_few (l ∷ lists) zero one most few le (suc r) = few (suc r)
set_few (l ∷ lists) (suc at) one most few le zero = few zero
set_few (l ∷ lists) (suc at) one most few le (suc r) = set_few lists at one most (λ q. few (suc q)) le r

module _ (store : BookStore) (standing : List (Option BookRow)) (disk : DiskState) (over : IsStagedOver store standing disk)
    (at : ℕ) (once : IsUnstaged store at) (new : List (List ℕ)) where
  abbrev Few : Option BookRow → Type 0
  Few o = length (dropped (row_pages o) (numbers_of o (get_or store.mark.numbers at [])) new) ≤ ROW_MOST

  gone : (o : Option BookRow) → get_or store.held at None ≡ o → Few o
  gone None is = omega arith
  gone (Some row) is =
      let same = over.same at once in
      let numbers = get_or over.mark.numbers at [] in
      let own : RowMark = record { name = row.name; len = length row.text; numbers = numbers } in
      let here : get_or (row_marks standing over.mark.numbers) at None ≡ Some own =
      mark_at standing over.mark.numbers at
      ∙ ap (λ (o : Option BookRow). row_mark o numbers) (sym same.row ∙ is) in
      let mark = over.marked.marks.lawful at own here in
      let each : length (get_or store.mark.numbers at []) ≡ length (pages_in row.text) =
      ap (λ (l : List ℕ). length l) same.numbers ∙ mark.each ∙ sym (pages_in_long row.text) in
      omega (
        arith,
        dropped_count (pages_in row.text) (get_or store.mark.numbers at []) new each,
        changed_few new (pages_in row.text),
        pages_in_long row.text,
        mark.few,
      )

  pub row_drops : length (dropped (pages_at store.held at) (numbers_at store.mark store.held at) new) ≤ ROW_MOST
  row_drops = gone (get_or store.held at None) refl

-- a row that is staged drops no more pages than a record has
pub staged_drops : (store : BookStore) (standing : List (Option BookRow)) (disk : DiskState) → IsStagedOver store standing disk
    → (at : ℕ) → IsUnstaged store at → (name text : List ℕ) (new : BookStore) → new ≡ with_row store at name text
    → HasFewDrops store → HasFewDrops new
staged_drops store standing disk over at once name text new is few = subst HasFewDrops (sym is)
    (set_few store.drops at (dropped (pages_at store.held at) (numbers_at store.mark store.held at) (pages_in text)) ROW_MOST few
    (row_drops store standing disk over at once (pages_in text)))

none_at : (n r : ℕ) → get_or {A = List ℕ} (replicate n []) r [] ≡ []
none_at zero r = refl
none_at (suc n) zero = refl
none_at (suc n) (suc r) = none_at n r

-- where nothing was dropped
pub no_drops : (store : BookStore) → store.drops ≡ replicate BOOK_ROWS [] → HasFewDrops store
no_drops store none r = omega (
  arith,
  ap (λ (l : List (List ℕ)). length (get_or l r [])) none,
  ap (λ (l : List ℕ). length l) (none_at BOOK_ROWS r),
)

-- ---- all rows

names_few : (k r : ℕ) (f : ℕ → List ℕ) → ((q : ℕ) → length (f q) ≤ ROW_MOST) → length (names_by k r f) ≤ ROW_MOST * k
names_few zero r f few = omega arith
names_few (suc k) r f few = omega (
  arith,
  length-append (shifted r (f r)) (names_by k (suc r) f),
  length-map (f r) (λ n. ROW_PAGES * r + n),
  few r,
  names_few k (suc r) f few,
)

-- so many calls settle what was staged of these rows
pub settling_few : (store : BookStore) → HasFewDrops store
    → puts 0 + retire_calls (committed store) ≤ puts 0 + retires (ROW_MOST * store.rows)
settling_few store few = by (committed store).replaced
  where
    by : (t : Bool) → puts 0 + (if t then retires (length (all_drops store)) else 0) ≤ puts 0 + retires (ROW_MOST * store.rows)
    by true = omega (arith, names_few store.rows 0 (drops_at store) few)
    by false = omega arith

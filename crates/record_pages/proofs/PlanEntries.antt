-- The numbers that a plan names, those that it drops and the fresh ones: pages' numbers, each once, and which of them never meet.
use Rattle.std.proofs.Common.{◌≡◌, ◌≢◌, ℕ, ◌-◌, ◌≤◌, Bool, true, false, List, [], ◌∷◌, length, take, sym, arith, length-take-le}
use Rattle.std.specs.Prelude.{drop, slice_index, slice_index_or, if◌then◌else◌}
use Rattle.std.specs.Str.{bytes_eq}
use Rattle.std.proofs.lemmas.List.Elements.{All-cons, All-head, All-nil, All-tail, All-take}
use Rattle.record_pages.specs.Plans.{changed, dropped, free_from, numbered}
use Rattle.record_pages.proofs.Dropped.{IsNone}
use Rattle.record_pages.proofs.FreeEnough.{free_entries, free_unused}
use Rattle.record_pages.proofs.LawfulEntries.{AreEntries, AreNone, AreOnce, IsEntry, entries_take, turned}
use Rattle.record_pages.proofs.Renumbered.{dropped_all, numbered_all}

-- without the first of the others
fewer : (n : ℕ) (numbers others : List ℕ) → AreNone numbers (n ∷ others) → AreNone numbers others
fewer n numbers others apart = λ k d lt. All-tail (λ x. x ≢ slice_index_or numbers k d) n others (apart k d lt)

-- the first of the others is none of these
first : (n : ℕ) (numbers others : List ℕ) → AreNone numbers (n ∷ others) → IsNone n numbers
first n numbers others apart = λ k d lt e. All-head (λ x. x ≢ slice_index_or numbers k d) n others (apart k d lt) (sym e)

-- with one more of the others
more : (n : ℕ) (numbers others : List ℕ) → IsNone n numbers → AreNone numbers others → AreNone numbers (n ∷ others)
more n numbers others none apart = λ k d lt. All-cons (λ x. x ≢ slice_index_or numbers k d) n others (λ e. none k d lt (sym e)) (apart k d lt)

pub numbered_once : (old : List (List ℕ)) (numbers : List ℕ) (new : List (List ℕ)) (fresh : List ℕ)
    → length numbers ≡ length old → length fresh ≡ length (changed old new) → AreOnce numbers → AreOnce fresh → AreNone fresh numbers
    → AreOnce (numbered old numbers new fresh)
numbered_once old numbers [] fresh each count once fresh_once apart = tt
numbered_once [] numbers (page ∷ new) [] each count once fresh_once apart = absurd (omega arith)
numbered_once [] numbers (page ∷ new) (f ∷ fresh) each count once fresh_once apart = (
  numbered_all (λ x. x ≢ f) [] numbers new fresh each (omega arith) (All-head (λ m. IsNone m numbers) f fresh apart) fresh_once.0,
  numbered_once [] numbers new fresh each (omega arith) once fresh_once.1 (All-tail (λ m. IsNone m numbers) f fresh apart),
)
numbered_once (was ∷ old) [] (page ∷ new) fresh each count once fresh_once apart = absurd (omega arith)
numbered_once (was ∷ old) (n ∷ numbers) (page ∷ new) fresh each count once fresh_once apart =
    by (bytes_eq was page) fresh count fresh_once apart
    (λ l is_count is_once is_apart. numbered_once old numbers new l (omega arith) is_count once.1 is_once (fewer n l numbers is_apart))
  where
    by : (same : Bool) (fresh : List ℕ) → length fresh ≡ length (if same then changed old new else page ∷ changed old new)
        → AreOnce fresh → AreNone fresh (n ∷ numbers)
        → ((l : List ℕ) → length l ≡ length (changed old new) → AreOnce l → AreNone l (n ∷ numbers) → AreOnce (numbered old numbers new l))
        → AreOnce (if same then n ∷ numbered old numbers new fresh else slice_index fresh 0 ∷ numbered old numbers new (drop 1 fresh))
    by true fresh count fresh_once apart rest = (
      numbered_all (λ x. x ≢ n) old numbers new fresh (omega arith) count once.0 (first n fresh numbers apart),
      rest fresh count fresh_once apart,
    )
    by false [] count fresh_once apart rest = absurd (omega arith)
    by false (f ∷ fresh) count fresh_once apart rest = (
      numbered_all (λ x. x ≢ f) old numbers new fresh (omega arith) (omega arith)
          (All-tail (λ x. x ≢ f) n numbers (All-head (λ m. IsNone m (n ∷ numbers)) f fresh apart)) fresh_once.0,
      rest fresh (omega arith) fresh_once.1 (All-tail (λ m. IsNone m (n ∷ numbers)) f fresh apart),
    )

pub dropped_once : (old : List (List ℕ)) (numbers : List ℕ) (new : List (List ℕ)) → AreOnce numbers → AreOnce (dropped old numbers new)
dropped_once [] numbers new once = tt
dropped_once (was ∷ old) [] new once = tt
dropped_once (was ∷ old) (n ∷ numbers) [] once = (dropped_all (λ x. x ≢ n) old numbers [] once.0, dropped_once old numbers [] once.1)
dropped_once (was ∷ old) (n ∷ numbers) (page ∷ new) once = by (bytes_eq was page) (dropped_once old numbers new once.1)
  where
    by : (same : Bool) → AreOnce (dropped old numbers new) → AreOnce (if same then dropped old numbers new else n ∷ dropped old numbers new)
    by true rest = rest
    by false rest = (dropped_all (λ x. x ≢ n) old numbers new once.0, rest)

-- no number that is dropped is one that the plan names
pub dropped_gone : (old : List (List ℕ)) (numbers : List ℕ) (new : List (List ℕ)) (fresh : List ℕ)
    → length numbers ≡ length old → length fresh ≡ length (changed old new) → AreOnce numbers → AreNone fresh numbers
    → AreNone (dropped old numbers new) (numbered old numbers new fresh)
dropped_gone [] numbers new fresh each count once apart = All-nil (λ m. IsNone m (numbered [] numbers new fresh))
dropped_gone (was ∷ old) [] new fresh each count once apart = absurd (omega arith)
dropped_gone (was ∷ old) (n ∷ numbers) [] fresh each count once apart =
    λ k d lt. All-nil (λ x. x ≢ slice_index_or (dropped (was ∷ old) (n ∷ numbers) []) k d)
dropped_gone (was ∷ old) (n ∷ numbers) (page ∷ new) fresh each count once apart =
    by (bytes_eq was page) fresh count apart (λ l is_count is_apart. dropped_gone old numbers new l (omega arith) is_count once.1 (fewer n l numbers is_apart))
  where
    by : (same : Bool) (fresh : List ℕ) → length fresh ≡ length (if same then changed old new else page ∷ changed old new) → AreNone fresh (n ∷ numbers)
        → ((l : List ℕ) → length l ≡ length (changed old new) → AreNone l (n ∷ numbers) → AreNone (dropped old numbers new) (numbered old numbers new l))
        → AreNone (if same then dropped old numbers new else n ∷ dropped old numbers new)
        (if same then n ∷ numbered old numbers new fresh else slice_index fresh 0 ∷ numbered old numbers new (drop 1 fresh))
    by true fresh count apart rest =
        more n (dropped old numbers new) (numbered old numbers new fresh) (dropped_all (λ x. x ≢ n) old numbers new once.0) (rest fresh count apart)
    by false [] count apart rest = absurd (omega arith)
    by false (f ∷ fresh) count apart rest =
        let head : IsNone f (n ∷ numbers) = All-head (λ m. IsNone m (n ∷ numbers)) f fresh apart in
        let tail : AreNone fresh (n ∷ numbers) = All-tail (λ m. IsNone m (n ∷ numbers)) f fresh apart in
        let here : IsNone n (numbered old numbers new fresh) =
        numbered_all (λ x. x ≢ n) old numbers new fresh (omega arith) (omega arith) once.0 (first n fresh numbers tail) in
        let there : AreNone (dropped old numbers new) (f ∷ numbered old numbers new fresh) =
        more f (dropped old numbers new) (numbered old numbers new fresh)
        (dropped_all (λ x. x ≢ f) old numbers new (All-tail (λ x. x ≢ f) n numbers head)) (rest fresh (omega arith) tail) in
        All-cons (λ m. IsNone m (f ∷ numbered old numbers new fresh)) n (dropped old numbers new)
        (All-cons (λ x. x ≢ n) f (numbered old numbers new fresh) (λ e. All-head (λ x. x ≢ f) n numbers head (sym e)) here) there

-- ---- all of it, of a plan with these fresh numbers

pub record ArePlanned (least pages : ℕ) (old : List (List ℕ)) (numbers : List ℕ) (new : List (List ℕ)) (fresh : List ℕ) : Type 0 where
  pub named_are : AreEntries least pages (numbered old numbers new fresh)
  pub dropped_are : AreEntries least pages (dropped old numbers new)
  pub fresh_are : AreEntries least pages fresh
  -- no fresh number is one of the record's, and the other way round
  pub unused : AreNone fresh numbers
  pub unmet : AreNone numbers fresh
  -- no dropped number is named, and the other way round
  pub gone : AreNone (dropped old numbers new) (numbered old numbers new fresh)
  pub kept : AreNone (numbered old numbers new fresh) (dropped old numbers new)

pub fresh_plan : (least pages : ℕ) (old : List (List ℕ)) (numbers : List ℕ) (new : List (List ℕ)) (fresh : List ℕ)
    → AreEntries least pages numbers → AreEntries least pages fresh → AreNone fresh numbers
    → length numbers ≡ length old → length fresh ≡ length (changed old new) → ArePlanned least pages old numbers new fresh
fresh_plan least pages old numbers new fresh are fresh_are apart each count =
    let away : AreNone (dropped old numbers new) (numbered old numbers new fresh) = dropped_gone old numbers new fresh each count are.once apart in
    record {
      named_are = record {
        within = numbered_all (IsEntry least pages) old numbers new fresh each count are.within fresh_are.within;
        once = numbered_once old numbers new fresh each count are.once fresh_are.once apart;
      };
      dropped_are = record { within = dropped_all (IsEntry least pages) old numbers new are.within; once = dropped_once old numbers new are.once };
      fresh_are = fresh_are;
      unused = apart;
      unmet = turned fresh numbers apart;
      gone = away;
      kept = turned (dropped old numbers new) (numbered old numbers new fresh) away;
    }

-- with the first free numbers
pub plan_entries : (least pages : ℕ) (old : List (List ℕ)) (numbers : List ℕ) (new : List (List ℕ))
    → AreEntries least pages numbers → length numbers ≡ length old → length (changed old new) ≤ length (free_from numbers (pages - least) least)
    → ArePlanned least pages old numbers new (take (length (changed old new)) (free_from numbers (pages - least) least))
plan_entries least pages old numbers new are each fits =
    let free : List ℕ = free_from numbers (pages - least) least in
    let k : ℕ = length (changed old new) in
    fresh_plan least pages old numbers new (take k free) are (entries_take least pages k free (free_entries least pages numbers))
    (All-take (λ m. IsNone m numbers) k free (free_unused least pages numbers)) each (length-take-le k free fits)

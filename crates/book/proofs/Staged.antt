-- A row is staged, and then what is staged is settled.
use Rattle.std.proofs.Common.{Bool, Err, List, Ok, Option, Result, Some, ap, arith, false, get_or, inl, length, refl, replicate, subst, sym, true, ℕ, ◌+◌, ◌-◌, ◌<◌, ◌≤◌, ◌∙◌, ◌≡◌}
use Rattle.std.specs.Prelude.{OnErr, if◌then◌else◌, nat_le, nat_lt, ◌&&◌, ◌||◌}
use Rattle.std.proofs.lemmas.Bool.Decides.{nat_tests}
use Rattle.std.proofs.lemmas.List.{get_or-replicate}
use Rattle.dr_disk.specs.Called.{Called}
use Rattle.dr_disk.specs.Spans.{Span}
use Rattle.dr_disk.specs.State.{Always, DiskState, IsLawful}
use Rattle.dr_disk.specs.declared.call.Call.TheVariants.{Write}
use Rattle.dr_disk.specs.declared.call.Mode.{Mode}
use Rattle.dr_disk.proofs.Calling.{failed_at_first, failed_later, passed_both}
use Rattle.dr_disk.proofs.Steps.{widen}
use Rattle.pages.specs.Runs.{CameNext, FailsBy, only}
use Rattle.pages.specs.Stops.{opens, put_call, put_shows, put_took, puts, retire_call}
use Rattle.pages.proofs.Around.{reads_both}
use Rattle.pages.proofs.NextCalls.{came_first, came_later, put_page, put_rest}
use Rattle.book_store.specs.Committing.{IsBookStopped, IsOldOrNewBook, KeepsRows, ReadsOutsideBook, call_of}
use Rattle.book_store.specs.Layout.{book_layout}
use Rattle.book_store.specs.Shown.{BookRow}
use Rattle.book_store.specs.Store.{BookStore, IsUnstaged, all_drops}
use Rattle.book_store.specs.declared.layout.TheConstants.{BOOK_ROWS}
use Rattle.book_store.specs.declared.errors.StoreFault.{StoreFault}
use Rattle.book_store.proofs.Composed.{all_or_none, stopped_more}
use Rattle.book.specs.Changing.{TakesPlaceOf, change_call, change_calls}
use Rattle.book.proofs.Committed.{in_put}

-- where no row is staged, none of those below the number of rows is
pub unstaged : (store : BookStore) (row : ℕ) → row < store.rows → store.rows ≤ BOOK_ROWS
    → store.staged ≡ replicate BOOK_ROWS false → IsUnstaged store row
unstaged store row lt few none =
    ap (λ (l : List Bool). get_or l row true) none ∙ get_or-replicate BOOK_ROWS row false true (omega arith)

-- ---- counts

-- where none of n pages more than passed was the last, neither the gate's write nor its sync had passed
module _ (n p : ℕ) (few : p < n) where
  took_none : (mode : Mode) → put_took n p mode ≡ false
  unfolding put_took
  took_none mode =
      let e : nat_le (n + 4) p ≡ false = grind (arith, nat_tests) in
      let f : nat_le (n + 2) p ≡ false = grind (arith, nat_tests) in
      ap (λ b. b || (nat_le (n + 2) p && opens mode)) e ∙ ap (λ b. b && opens mode) f

  shows_none : put_shows n p ≡ false
  unfolding put_shows
  shows_none = grind (arith, nat_tests)

-- what comes after n pages
later_call : (n d k : ℕ) → change_call 0 d k ≡ change_call n d (n + k)
unfolding change_call
later_call n d k =
    let same : nat_lt k (puts 0) ≡ nat_lt (n + k) (puts n) = grind (arith, nat_tests) in
    let left : n + k - puts n ≡ k - puts 0 = omega arith in
    ap (λ b. if b then put_call 0 k else retire_call d (k - puts 0)) same
    ∙ ap (λ c. if nat_lt (n + k) (puts n) then c else retire_call d (k - puts 0)) (put_rest n k)
    ∙ ap (λ m. if nat_lt (n + k) (puts n) then put_call n (n + k) else retire_call d m) (sym left)

module _ (n : ℕ) (staged : BookStore) (standing : List (Option BookRow)) (start mid : DiskState)
    (first : Span start mid (KeepsRows staged.rows standing start))
    (still : Always (KeepsRows staged.rows standing start) mid) where
  sums : n + change_calls 0 staged ≡ change_calls n staged
  sums = omega arith

  -- a call of the stage failed
  pub stage_failed : (fault : StoreFault) (new : BookStore) → IsLawful mid → new.rows ≡ staged.rows
      → ReadsOutsideBook staged.rows start mid
      → Called {T = Unit} n call_of start mid (Err fault) → CameNext (only Write) start mid fault.call
      → TakesPlaceOf {T = Unit} n staged new standing start mid (Err fault)
  stage_failed fault new lawful rows reads calls kind = record {
    any_moment = widen start mid (KeepsRows staged.rows standing start)
        (IsOldOrNewBook staged.rows standing staged.held start)
        (λ c is. record { either = inl is.has; frame = is.frame }) first;
    stopped = record {
      crash = λ l m mode c was is told. (still c (lawful.leaves_now mode c told)).has.are
          ∙ sym (ap (λ t. if t then staged.held else standing)
          (took_none n (m - l) (below l m was is) mode));
      read = λ keeps l m s was is told. (still s (lawful.seen_now s told)).has.are
          ∙ sym (ap (λ t. if t then staged.held else standing) (shows_none n (m - l) (below l m was is)));
    };
    next = tt;
    rows = rows;
    ready = tt;
    reads = reads;
    went = record {
      calls = subst (λ k. Called {T = Unit} k call_of start mid (Err fault)) sums
          (failed_at_first {T = Unit} {U = Unit} n (change_calls 0 staged) call_of call_of fault fault start mid refl calls);
      kind = came_first (only Write) (change_call n (length (all_drops staged))) n fault.call start mid first.passes
          calls.few (λ k lt. put_page n k lt ∙ in_put n (length (all_drops staged)) k (omega arith)) kind;
    };
  }
    where
      below : (l m : ℕ) → start.passed ≡ Some l → mid.passed ≡ Some m → m - l < n
      below l m was is =
          let less = calls.few l m was is in
          let least = first.passes m is in
          let same : l ≡ least.0 = let e : Some l ≡ Some least.0 = sym was ∙ least.1 in cc in
          omega (arith, less, least.2)

  -- the row was staged, and settled as this says
  module _ (end : DiskState) (staging : Called {T = Unit} n call_of start mid (Ok tt))
      (before : ReadsOutsideBook staged.rows start mid) (new : BookStore) where
    went : (result : Result Unit StoreFault) → TakesPlaceOf 0 staged new standing mid end result
        → Called (n + change_calls 0 staged) call_of start end result
    went (Ok u) takes =
        passed_both {T = Unit} {U = Unit} {V = Unit} n (change_calls 0 staged) call_of call_of call_of tt u u start mid end
        staging takes.went.calls
    went (Err fault) takes =
        failed_later {T = Unit} {U = Unit} {V = Unit} n (change_calls 0 staged) call_of call_of call_of tt fault fault
        start mid end (KeepsRows staged.rows standing start) (IsOldOrNewBook staged.rows standing staged.held mid)
        refl first staging takes.any_moment takes.went.calls

    kinds : (result : Result Unit StoreFault) → TakesPlaceOf 0 staged new standing mid end result
        → FailsBy call_of (change_call n (length (all_drops staged))) start end result
    kinds (Ok u) takes = tt
    kinds (Err fault) takes =
        came_later (change_call 0 (length (all_drops staged))) (change_call n (length (all_drops staged))) n
        (change_calls 0 staged) fault.call start mid end staging.passed takes.any_moment.passes takes.went.calls.few
        (λ k lt. later_call n (length (all_drops staged)) k) takes.went.kind

    halted : (result : Result Unit StoreFault) → TakesPlaceOf 0 staged new standing mid end result
        → OnErr result (IsBookStopped staged.rows n standing staged.held start end)
    halted (Ok u) takes = tt
    halted (Err fault) takes =
        stopped_more staged.rows n standing staged.held start mid end
        (IsOldOrNewBook staged.rows standing staged.held mid) staging.passed first.keeps takes.any_moment takes.stopped

    pub then_settled : (result : Result Unit StoreFault) → TakesPlaceOf 0 staged new standing mid end result
        → TakesPlaceOf n staged new standing start end result
    then_settled result takes = record {
      any_moment = all_or_none staged.rows standing start mid still staged.held end first takes.any_moment;
      stopped = halted result takes;
      next = takes.next;
      rows = takes.rows;
      ready = takes.ready;
      reads = reads_both (book_layout staged.rows) start mid end before takes.reads;
      went = record {
        calls = subst (λ k. Called k call_of start end result) sums (went result takes);
        kind = kinds result takes;
      };
    }

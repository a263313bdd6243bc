-- What is staged is committed, and what it takes the place of is retired.
use Rattle.std.proofs.Common.{Err, List, Ok, Option, Some, ap, arith, inr, length, refl, subst, sym, true, ⊎_elim, ℕ, ◌+◌, ◌-◌, ◌<◌, ◌≤◌, ◌∙◌, ◌≡◌}
use Rattle.std.specs.Prelude.{false, if◌then◌else◌, nat_lt}
use Rattle.std.proofs.lemmas.Bool.Decides.{nat_tests}
use Rattle.dr_disk.specs.Called.{Called}
use Rattle.dr_disk.specs.Spans.{HavePassed, Span}
use Rattle.dr_disk.specs.State.{Always, DiskState, IsLawful}
use Rattle.dr_disk.proofs.Calling.{failed_at_first, failed_later, passed_both}
use Rattle.dr_disk.proofs.Steps.{spans, widen}
use Rattle.pages.specs.Runs.{CameNext}
use Rattle.pages.specs.Stops.{put_call, puts, retire_call}
use Rattle.pages.proofs.Around.{around_twice, reads_both}
use Rattle.pages.proofs.NextCalls.{came_first, came_later}
use Rattle.pages.proofs.Stopping.{shows_true, took_true}
use Rattle.book_store.specs.AtRest.{IsBookMarked}
use Rattle.book_store.specs.Committing.{CommitsRows, HasRetired, IsBookStopped, IsOldOrNewBook, KeepsRows, ReadsOutsideBook, call_of}
use Rattle.book_store.specs.Layout.{HasBook, book_layout}
use Rattle.book_store.specs.Shown.{BookRow, stored_rows}
use Rattle.book_store.specs.Store.{BookStore, all_drops, committed, retire_calls, retired}
use Rattle.book_store.specs.declared.layout.TheConstants.{BOOK_ROWS}
use Rattle.book_store.specs.declared.errors.StoreFault.{StoreFault}
use Rattle.book.specs.Changing.{TakesPlaceOf, change_call}

-- ---- which call came next

module _ (n d k : ℕ) where
  pub in_put : k < puts n → put_call n k ≡ change_call n d k
  unfolding change_call
  in_put lt =
      let e : nat_lt k (puts n) ≡ true = grind (arith, nat_tests) in
      sym (ap (λ b. if b then put_call n k else retire_call d (k - puts n)) e)

  pub in_retire : retire_call d k ≡ change_call n d (puts n + k)
  unfolding change_call
  in_retire =
      let e : nat_lt (puts n + k) (puts n) ≡ false = grind (arith, nat_tests) in
      let f : puts n + k - puts n ≡ k = omega arith in
      sym (ap (λ b. if b then put_call n (puts n + k) else retire_call d (puts n + k - puts n)) e
      ∙ ap (retire_call d) f)

module _ (old : BookStore) (standing : List (Option BookRow)) (start mid : DiskState) where
  abbrev Either : List ℕ → Type 0
  Either = IsOldOrNewBook old.rows standing old.held start

  wipes : ℕ
  wipes = length (all_drops old)

  -- a call of the commit failed
  pub commit_failed : (fault : StoreFault) (put : BookStore) → put ≡ committed old
      → CommitsRows {T = Unit} put standing start mid (Err fault) → ReadsOutsideBook old.rows start mid
      → Called {T = Unit} (puts 0) call_of start mid (Err fault)
      → CameNext (put_call 0) start mid fault.call
      → TakesPlaceOf {T = Unit} 0 old put standing start mid (Err fault)
  commit_failed fault put next commits reads calls kind =
      let here = subst (λ (s : BookStore). CommitsRows {T = Unit} {E = StoreFault} s standing start mid (Err fault)) next commits in
      record {
        any_moment = here.any_moment;
        stopped = here.stopped;
        next = tt;
        rows = ap (λ (s : BookStore). s.rows) next;
        ready = tt;
        reads = reads;
        went = record {
          calls = failed_at_first {T = Unit} {U = Unit} (puts 0) (retire_calls (committed old)) call_of call_of
              fault fault start mid refl calls;
          kind = came_first (put_call 0) (change_call 0 (length (all_drops old))) (puts 0) fault.call start mid
              here.any_moment.passes calls.few (λ k lt. in_put 0 (length (all_drops old)) k lt) kind;
        };
      }

  -- it was committed, and then retired
  module _ (done : Always (KeepsRows old.rows old.held start) mid) (first : Span start mid Either)
      (end : DiskState) (next : Span mid end (KeepsRows old.rows old.held mid)) where
    kept : (c : List ℕ) → KeepsRows old.rows old.held mid c → KeepsRows old.rows old.held start c
    kept c is = record {
      has = is.has;
      frame = around_twice (book_layout old.rows) start mid (λ d left. (done d left).frame) c is.frame;
    }

    whole : Span start end Either
    whole = spans start mid end Either first
        (widen mid end (KeepsRows old.rows old.held mid) Either
        (λ c is. record { either = inr is.has; frame = (kept c is).frame }) next)

    images : (c : List ℕ) → end.image c → stored_rows old.rows c ≡ old.held
    images c left = ⊎_elim (λ was. (done c was).has.are) (λ is. is.has.are) (next.last c left)

    many : HavePassed (puts 0) start mid → (b m : ℕ) → start.passed ≡ Some b → end.passed ≡ Some m
        → 4 ≤ m - b
    many passed b m was_b is =
        let between = next.passes m is in
        let before = passed between.0 between.1 in
        let same : b ≡ before.0 = let e : Some b ≡ Some before.0 = sym was_b ∙ before.1 in cc in
        omega (arith, before.2, between.2)

    stopped_late : IsLawful end → HavePassed (puts 0) start mid
        → IsBookStopped old.rows 0 standing old.held start end
    stopped_late lawful passed = record {
      crash = λ b m mode c was_b is told. images c (lawful.leaves_now mode c told)
          ∙ sym (ap (λ t. if t then old.held else standing)
          (took_true 0 (m - b) mode (omega (arith, many passed b m was_b is))));
      read = λ keeps b m s was_b is told. images s (lawful.seen_now s told)
          ∙ sym (ap (λ t. if t then old.held else standing)
          (shows_true 0 (m - b) (omega (arith, many passed b m was_b is))));
    }

    -- a call of the retire failed
    pub retire_failed : (fault : StoreFault) (new : BookStore) → IsLawful end → new.rows ≡ old.rows
        → Called {T = Unit} (puts 0) call_of start mid (Ok tt) → ReadsOutsideBook old.rows start mid
        → Called {T = Unit} (retire_calls (committed old)) call_of mid end (Err fault)
        → ReadsOutsideBook old.rows mid end
        → CameNext (retire_call (length (all_drops old))) mid end fault.call
        → TakesPlaceOf {T = Unit} 0 old new standing start end (Err fault)
    retire_failed fault new lawful rows passed before calls reads kind = record {
      any_moment = whole;
      stopped = stopped_late lawful passed.passed;
      next = tt;
      rows = rows;
      ready = tt;
      reads = reads_both (book_layout old.rows) start mid end before reads;
      went = record {
        calls = failed_later {T = Unit} {U = Unit} {V = Unit} (puts 0) (retire_calls (committed old)) call_of call_of
            call_of tt fault fault start mid end Either (KeepsRows old.rows old.held mid) refl first
            passed next calls;
        kind = came_later (retire_call (length (all_drops old))) (change_call 0 (length (all_drops old))) (puts 0)
            (retire_calls (committed old)) fault.call start mid end passed.passed next.passes calls.few
            (λ k lt. in_retire 0 (length (all_drops old)) k) kind;
      };
    }

    -- all went well
    pub settled : (new : BookStore) → new ≡ retired (committed old) → old.rows ≤ BOOK_ROWS → HasBook old.rows start
        → IsBookMarked old.rows (committed old).mark old.held
        → Always (HasRetired new mid) end
        → Called {T = Unit} (puts 0) call_of start mid (Ok tt) → ReadsOutsideBook old.rows start mid
        → Called {T = Unit} (retire_calls (committed old)) call_of mid end (Ok tt)
        → ReadsOutsideBook old.rows mid end
        → TakesPlaceOf {T = Unit} 0 old new standing start end (Ok tt)
    settled new is few within marked rests passed before calls reads = record {
      any_moment = whole;
      stopped = tt;
      next = is;
      rows = ap (λ (s : BookStore). s.rows) is;
      ready = record {
        few = subst (λ (s : BookStore). s.rows ≤ BOOK_ROWS) (sym is) few;
        within = subst (λ (s : BookStore). HasBook s.rows end) (sym is) (omega (arith, within, whole.size));
        unstaged = ap (λ (s : BookStore). s.staged) is;
        dropped = ap (λ (s : BookStore). s.drops) is;
        marked = subst (λ (s : BookStore). IsBookMarked s.rows s.mark s.held) (sym is) marked;
        rests = λ c left. (rests c left).0;
      };
      reads = reads_both (book_layout old.rows) start mid end before reads;
      went = record {
        calls = passed_both {T = Unit} {U = Unit} {V = Unit} (puts 0) (retire_calls (committed old)) call_of call_of call_of tt tt tt
            start mid end passed calls;
        kind = tt;
      };
    }

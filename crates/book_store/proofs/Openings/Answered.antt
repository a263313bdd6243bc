-- What callers are told of a book that was opened.
use Rattle.std.proofs.Common.{◌≡◌, ◌≢◌, ◌+◌, ◌*◌, inl, inr, ⊎_elim, ℕ, List, Option, Result, Ok, Err, OnOk, true, false, refl, sym, ◌∙◌, ap, arith}
use Rattle.std.specs.Prelude.{IfErr, IfOk, Vec, is_ok}
use Rattle.dr_disk.specs.declared.call.Call.{Call}
use Rattle.dr_disk.specs.State.{DiskState, IsLawful, IsSettled, OnSeen, all_pass}
use Rattle.dr_disk.specs.Spans.{FailsLater, HavePassed, IsQuiet, Span}
use Rattle.dr_disk.specs.Calls.{Unwritten}
use Rattle.dr_disk.specs.Called.{Went, itself}
use Rattle.dr_disk.proofs.Calling.{then_any}
use Rattle.dr_disk.proofs.Steps.{spans, widen}
use Rattle.pages.specs.Runs.{IsUntouched}
use Rattle.pages.specs.Counted.{MakesAtMost, ReadsAtMost, lookings, one_of}
use Rattle.pages.proofs.Counting.{few_then}
use Rattle.pages.proofs.Looking.{reads_twice, unwritten_twice}
use Rattle.book_store.proofs.Openings.Likes.{as_read, like_before}
use Rattle.book_store.specs.Counts.{faulted, opening_reads, openings, settlings}
use Rattle.book_store.specs.Layout.{book_layout}
use Rattle.book_store.specs.LikeRead.{IsEntryOrLikeBook, IsLikeReadBook}
use Rattle.book_store.specs.Locating.{IsCause}
use Rattle.book_store.specs.Opened.{IsBookLeft, IsBookOpened, IsBookReadAtRest, IsBookRefused, IsLookedAt}
use Rattle.book_store.specs.Outcome.{IsOutcome, IsWhole, OpensBook, opening_answer}
use Rattle.book_store.specs.Readers.{HaveReadRows}
use Rattle.book_store.specs.Reading.{damaged_row, damaged_table}
use Rattle.book_store.specs.declared.errors.BookOpenError.{BookOpenError}
use Rattle.book_store.specs.declared.errors.BookOpenError.TheVariants.{DamagedRow, DamagedTable, Memory, StoreFault}
use Rattle.book_store.specs.declared.locating.Located.{Located}
use Rattle.book_store.specs.declared.locating.Located.TheVariants.{Held, Refused}
use Rattle.book_store.specs.declared.layout.TheConstants.{BOOK_ROWS, ROW_MOST}
use Rattle.book_store.proofs.Openings.Refusals.{refused_by, refused_none}

-- a store can be made of what was opened
pub outcome_whole : {R : Type 0} (fault_at : List ℕ → Option ℕ) (has_read : R → List ℕ → Type 0) (count : ℕ)
    (readers : List (Option R)) (start now : DiskState) (r : Result Located Call)
    → IfOk r (IsOutcome fault_at has_read count readers start now) → IfOk r IsWhole
outcome_whole fault_at has_read count readers start now (Ok (Held desk rows)) is = is.store
outcome_whole fault_at has_read count readers start now (Ok (Refused error)) is = tt
outcome_whole fault_at has_read count readers start now (Err call) is = tt

module _ {R Z U : Type 0} (fault_at : List ℕ → Option ℕ) (has_read : R → List ℕ → Type 0) (count : ℕ)
    (readers : Vec (Option R) Z) (start a b : DiskState) (x : U) (r : Result Located Call)
    (read : Span start a start.image) (same : Unwritten start a) (settled : IsSettled a) (passed : HavePassed 1 start a)
    (went : Went itself start a (Ok x)) (opens : OpensBook fault_at has_read count readers.items a b r) where
  pub answered_moment : Span start b (IsEntryOrLikeBook count start)
  answered_moment = spans start a b (IsEntryOrLikeBook count start)
      (widen start a start.image (IsEntryOrLikeBook count start) (λ c left. inl left) read)
      (widen a b (IsLikeReadBook count a) (IsEntryOrLikeBook count start) (λ c like. inr (like_before count start a same.seen c like)) opens.any_moment)

  pub answered_reads : IsLawful b → OnSeen (IsLikeReadBook count start) b
  answered_reads lawful s told = ⊎_elim
      (λ left. as_read count start s (sym same.seen ∙ settled s left))
      (λ like. like_before count start a same.seen s like)
      (opens.any_moment.last s (lawful.seen_now s told))

  all_went : Went itself start b r
  all_went = then_any x start a b start.image r read went opens.calls

  -- a store
  pub answered_opened : IfOk (opening_answer r readers) (λ both. IsBookOpened fault_at count start b both.0)
  answered_opened = by r opens.found
    where
      by : (r : Result Located Call) → IfOk r (IsOutcome fault_at has_read count readers.items a b)
          → IfOk (opening_answer r readers) (λ both. IsBookOpened fault_at count start b both.0)
      by (Ok (Held desk rows)) is = record {
        rows_are = is.opened.rows_are;
        read = λ s told. is.opened.read s (same.seen ∙ told);
        texts = is.opened.texts;
        marked = is.opened.marked;
        at_rest = λ c left. let rests = is.opened.at_rest c left in (rests.0, like_before count start a same.seen c rests.1);
        settled = is.opened.settled;
        opened = is.opened.opened;
        first = is.opened.first;
        mark = λ s m book told rests. is.opened.mark s m book (same.seen ∙ told) rests;
      }
      by (Ok (Refused error)) is = tt
      by (Err call) is = tt

  pub answered_read : IfOk (opening_answer r readers) (λ both. HaveReadRows has_read both.1.items both.0.held)
  answered_read = by r opens.found
    where
      by : (r : Result Located Call) → IfOk r (IsOutcome fault_at has_read count readers.items a b)
          → IfOk (opening_answer r readers) (λ both. HaveReadRows has_read both.1.items both.0.held)
      by (Ok (Held desk rows)) is = is.read
      by (Ok (Refused error)) is = tt
      by (Err call) is = tt

  -- a book at rest
  untouched_passed : IsUntouched a b → HavePassed 1 start b
  untouched_passed untouched m told = passed m (sym untouched.passed ∙ told)

  pub answered_still : IsBookReadAtRest count start → IsBookLeft start b (opening_answer r readers)
  answered_still was =
      let untouched = opens.still (record {
        bytes = was.bytes;
        told = same.seen ∙ was.told;
        mark = was.mark;
        book = was.book;
        rests = was.rests;
      }) in
      record {
        unwritten = unwritten_twice start a b same untouched.unwritten;
        one_sync = by r untouched;
      }
    where
      by : (r : Result Located Call) → IsUntouched a b → OnOk (opening_answer r readers) (HavePassed 1 start b)
      by (Ok (Held desk rows)) untouched = untouched_passed untouched
      by (Ok (Refused error)) untouched = tt
      by (Err call) untouched = tt

  -- a refusal
  module _ (untouched : IsUntouched a b) (all : Went {T = Located} {E = Call} itself start b (Ok (Refused Memory))) where
    looked_at : IsLookedAt start b
    looked_at = record {
      unwritten = unwritten_twice start a b same untouched.unwritten;
      quiet = all.quiet;
      ahead = all.ahead;
    }

    cause_refused : (error : BookOpenError) → IsCause fault_at count error a → IsBookRefused fault_at count start b error
    cause_refused Memory cause = refused_none fault_at count start b
    cause_refused (DamagedTable table at) cause = record {
      table = λ table' at' e.
          let f : DamagedTable table at ≡ DamagedTable table' at' = e in
          let one : table ≡ table' = cc in
          let two : at ≡ at' = cc in (
            record { looked = looked_at; one_sync = untouched_passed untouched },
            λ s told. cause s (same.seen ∙ told) ∙ ap (λ t. damaged_table t at) one ∙ ap (damaged_table table') two,
          );
      row = λ row at' e. absurd (let f : DamagedTable table at ≡ DamagedRow row at' = e in cc);
      fault = λ call e. absurd (let f : DamagedTable table at ≡ StoreFault call = e in cc);
      ended = λ call e. absurd (let f : DamagedTable table at ≡ StoreFault call = e in cc);
    }
    cause_refused (DamagedRow row at) cause = record {
      table = λ table at' e. absurd (let f : DamagedRow row at ≡ DamagedTable table at' = e in cc);
      row = λ row' at' e.
          let f : DamagedRow row at ≡ DamagedRow row' at' = e in
          let one : row ≡ row' = cc in
          let two : at ≡ at' = cc in (
            record { looked = looked_at; one_sync = untouched_passed untouched },
            λ s told. cause s (same.seen ∙ told) ∙ ap (λ n. damaged_row (record { row = n; at = at })) one
                ∙ ap (λ n. damaged_row (record { row = row'; at = n })) two,
          );
      fault = λ call e. absurd (let f : DamagedRow row at ≡ StoreFault call = e in cc);
      ended = λ call e. absurd (let f : DamagedRow row at ≡ StoreFault call = e in cc);
    }
    cause_refused (StoreFault call) cause = absurd cause

  went_as : (y z : Located) → Went {E = Call} itself start b (Ok y) → Went {E = Call} itself start b (Ok z)
  went_as y z all = record { ended = tt; ahead = all.ahead; fate = λ pass. (refl, (all.fate pass).1); quiet = all.quiet; fault = tt }

  pub answered_refused : IfErr (opening_answer r readers) (IsBookRefused fault_at count start b)
  answered_refused = by r opens.found all_went
    where
      by : (r : Result Located Call) → IfOk r (IsOutcome fault_at has_read count readers.items a b) → Went itself start b r
          → IfErr (opening_answer r readers) (IsBookRefused fault_at count start b)
      by (Ok (Held desk rows)) is all = tt
      by (Ok (Refused error)) is all = cause_refused is.0 (went_as (Refused error) (Refused Memory) all) error is.1
      by (Err call) is all = refused_by fault_at count start b call all

  pub answered_memory : IfErr (opening_answer r readers) (λ e. e ≡ Memory → IsLookedAt start b)
  answered_memory = by r opens.found all_went
    where
      by : (r : Result Located Call) → IfOk r (IsOutcome fault_at has_read count readers.items a b) → Went itself start b r
          → IfErr (opening_answer r readers) (λ e. e ≡ Memory → IsLookedAt start b)
      by (Ok (Held desk rows)) is all = tt
      by (Ok (Refused error)) is all = λ e. looked_at is.0 (went_as (Refused error) (Refused Memory) all)
      by (Err call) is all = λ e. absurd (let f : StoreFault call ≡ Memory = e in cc)

  pub answered_quiet : OnOk (opening_answer r readers) (IsQuiet start b)
  answered_quiet = by r all_went
    where
      by : (r : Result Located Call) → Went itself start b r → OnOk (opening_answer r readers) (IsQuiet start b)
      by (Ok (Held desk rows)) all = all.quiet
      by (Ok (Refused error)) all = tt
      by (Err call) all = tt

  pub answered_looked : ReadsAtMost 4 start a → ReadsAtMost (opening_reads count) start b
  answered_looked first = reads_twice 4 (ROW_MOST * BOOK_ROWS + 2 * lookings (book_layout count)) (opening_reads count) start a b
      (omega arith) first opens.reads

  pub answered_few : MakesAtMost 1 one_of start a (Ok x) → MakesAtMost (openings count) faulted start b (opening_answer r readers)
  answered_few first = by r opens.found (few_then 1 (settlings count) (openings count) x start a b r (omega arith) first opens.few)
    where
      not_failed : (error : BookOpenError) → IsCause fault_at count error a → faulted error ≡ 0
      not_failed Memory cause = refl
      not_failed (DamagedTable table at) cause = refl
      not_failed (DamagedRow row at) cause = refl
      not_failed (StoreFault call) cause = absurd cause

      by : (r : Result Located Call) → IfOk r (IsOutcome fault_at has_read count readers.items a b)
          → MakesAtMost (openings count) one_of start b r
          → MakesAtMost (openings count) faulted start b (opening_answer r readers)
      by (Ok (Held desk rows)) is few = record { told = few.told }
      by (Ok (Refused error)) is few = record {
        told = λ m now. let was = few.told m now in (was.0, was.1, omega (arith, was.2, not_failed error is.1));
      }
      by (Err call) is few = record { told = few.told }

  pub answered_ahead : OnOk (opening_answer r readers) (FailsLater start b)
  answered_ahead = by r all_went
    where
      by : (r : Result Located Call) → Went itself start b r → OnOk (opening_answer r readers) (FailsLater start b)
      by (Ok (Held desk rows)) all = all.ahead
      by (Ok (Refused error)) all = tt
      by (Err call) all = tt

  pub answered_fate : start.fate ≡ all_pass
      → IfErr (opening_answer r readers) (λ e. (call : Call) → e ≢ StoreFault call) × (b.fate ≡ all_pass)
  answered_fate all = (by r opens.found (all_went.fate all).0, (all_went.fate all).1)
    where
      not_fault : (error : BookOpenError) → IsCause fault_at count error a → (call : Call) → error ≢ StoreFault call
      not_fault (StoreFault other) cause call e = absurd cause
      not_fault Memory cause call e = let f : Memory ≡ StoreFault call = e in cc
      not_fault (DamagedTable table at) cause call e = let f : DamagedTable table at ≡ StoreFault call = e in cc
      not_fault (DamagedRow row at) cause call e = let f : DamagedRow row at ≡ StoreFault call = e in cc

      by : (r : Result Located Call) → IfOk r (IsOutcome fault_at has_read count readers.items a b) → is_ok r ≡ true
          → IfErr (opening_answer r readers) (λ e. (call : Call) → e ≢ StoreFault call)
      by (Ok (Held desk rows)) is ok = tt
      by (Ok (Refused error)) is ok = not_fault error is.1
      by (Err call) is ok = absurd (let f : false ≡ true = ok in cc)

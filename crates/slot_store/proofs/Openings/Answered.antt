-- What callers are told of an area that was opened.
use Rattle.std.proofs.Common.{◌≡◌, ◌≢◌, ◌+◌, ◌*◌, inl, inr, ⊎_elim, ℕ, List, Option, Result, Ok, Err, OnOk, true, false, sym, ◌∙◌, ap₂, subst, arith}
use Rattle.std.specs.Prelude.{IfErr, IfOk, is_ok}
use Rattle.dr_base.specs.Causes.{Rose}
use Rattle.dr_disk.specs.declared.call.Call.{Call}
use Rattle.dr_disk.specs.State.{DiskState, IsLawful, IsSettled, OnSeen, all_pass}
use Rattle.dr_disk.specs.Spans.{FailsLater, HavePassed, IsQuiet, Span}
use Rattle.dr_disk.specs.Calls.{Unwritten}
use Rattle.dr_disk.specs.Called.{Went, itself}
use Rattle.dr_disk.proofs.Calling.{then_any}
use Rattle.dr_disk.proofs.Steps.{spans, widen}
use Rattle.pages.specs.Runs.{IsUntouched}
use Rattle.pages.specs.Counted.{MakesAtMost, ReadsAtMost, lookings, one_of}
use Rattle.pages.proofs.Counting.{few_failed, few_then}
use Rattle.pages.proofs.Looking.{reads_twice, unwritten_twice}
use Rattle.slot_store.specs.declared.errors.OpenError.TheVariants.{Damaged, Memory, StoreFault}
use Rattle.slot_store.specs.declared.outcome.Outcome.{Outcome}
use Rattle.slot_store.specs.declared.outcome.Outcome.TheVariants.{Refused, Stored}
use Rattle.slot_store.specs.Areas.{Area, layout_of}
use Rattle.slot_store.specs.AtRest.{IsLeft, IsReadAtRest}
use Rattle.slot_store.specs.Found.{HasReadContent}
use Rattle.slot_store.specs.Limits.{faulted, opening_reads, openings, settlings}
use Rattle.slot_store.specs.Opened.{IsOpened, IsRefused}
use Rattle.slot_store.specs.Outcome.{IsOutcome, IsOutcomeBy, OpensStore, opening_answer}
use Rattle.slot_store.specs.Store.{content}
use Rattle.slot_store.specs.Reading.{IsEntryOrLike, IsLikeRead, damaged}
use Rattle.slot_store.proofs.Alike.{as_read, like_before}

-- a call that failed
pub refused_by : {T : Type 0} (fault_at : List ℕ → Option ℕ) (area : Area) (start now : DiskState) (call : Call)
    → Went {T = T} itself start now (Err call) → IsRefused fault_at area start now (StoreFault call)
refused_by fault_at area start now call went = record {
  damaged = λ slot at is. absurd (let e : StoreFault call ≡ Damaged slot at = is in cc);
  fault = λ other is. let e : call ≡ other = cc in subst (λ x. Rose (start.faults x) (now.faults x)) e went.fault;
  ended = λ other is. went.ended;
}

pub faulted_few : {T U : Type 0} (area : Area) (call : Call) (start now : DiskState)
    → MakesAtMost {T = U} 1 one_of start now (Err call)
    → MakesAtMost {T = T} (openings area) faulted start now (Err (StoreFault call))
faulted_few {T = T} {U = U} area call start now few = record {
  told = (few_failed {T = T} {U = U} 1 (openings area) call start now (omega arith) few).told;
}

-- where there was no memory
pub memory_few : {T : Type 0} (area : Area) (start : DiskState)
    → MakesAtMost {T = T} (openings area) faulted start start (Err Memory)
memory_few area start = record { told = λ m is. (m, is, omega arith) }

-- who read the record has read the store's
pub answered_read : {R : Type 0} (has_read : R → List ℕ → Type 0) (old new : R) (r : Result Outcome Call)
    → IfOk r (IsOutcomeBy has_read old new) → IfOk (opening_answer r) (λ both. HasReadContent has_read old new (content both.0))
answered_read has_read old new (Ok (Stored pager what)) is = is
answered_read has_read old new (Ok (Refused slot at)) is = tt
answered_read has_read old new (Err call) is = tt

module _ {U : Type 0} (fault_at : List ℕ → Option ℕ) (area : Area) (start a b : DiskState) (x : U) (r : Result Outcome Call)
    (read : Span start a start.image) (same : Unwritten start a) (settled : IsSettled a) (passed : HavePassed 1 start a)
    (went : Went itself start a (Ok x)) (opens : OpensStore fault_at area a b r) where
  pub answered_moment : Span start b (IsEntryOrLike area start)
  answered_moment = spans start a b (IsEntryOrLike area start)
      (widen start a start.image (IsEntryOrLike area start) (λ c left. inl left) read)
      (widen a b (IsLikeRead area a) (IsEntryOrLike area start) (λ c like. inr (like_before area start a same.seen c like)) opens.any_moment)

  pub answered_reads : IsLawful b → OnSeen (IsLikeRead area start) b
  answered_reads lawful s told = ⊎_elim
      (λ left. as_read area start s (sym same.seen ∙ settled s left))
      (λ like. like_before area start a same.seen s like)
      (opens.any_moment.last s (lawful.seen_now s told))

  all_went : Went itself start b r
  all_went = then_any x start a b start.image r read went opens.calls

  -- a store
  pub answered_opened : IfOk (opening_answer r) (λ both. IsOpened fault_at area start b both.0 both.1)
  answered_opened = by r opens.found
    where
      by : (r : Result Outcome Call) → IfOk r (IsOutcome fault_at area a b)
          → IfOk (opening_answer r) (λ both. IsOpened fault_at area start b both.0 both.1)
      by (Ok (Stored pager what)) is = record {
        area = is.area;
        read = λ s told. is.read s (same.seen ∙ told);
        text = is.text;
        found = is.found;
        at_rest = λ c left. let rests = is.at_rest c left in (rests.0, like_before area start a same.seen c rests.1);
        settled = is.settled;
        mark = λ s m text told rests. is.mark s m text (same.seen ∙ told) rests;
        first = is.first;
      }
      by (Ok (Refused slot at)) is = tt
      by (Err call) is = tt

  -- an area at rest
  untouched_passed : IsUntouched a b → HavePassed 1 start b
  untouched_passed untouched m told = passed m (sym untouched.passed ∙ told)

  pub answered_still : IsReadAtRest area start → IsLeft start b (opening_answer r)
  answered_still was =
      let untouched = opens.still (record {
        bytes = was.bytes;
        told = same.seen ∙ was.told;
        mark = was.mark;
        text = was.text;
        rests = was.rests;
      }) in
      record {
        unwritten = unwritten_twice start a b same untouched.unwritten;
        one_sync = by r untouched;
      }
    where
      by : (r : Result Outcome Call) → IsUntouched a b → OnOk (opening_answer r) (HavePassed 1 start b)
      by (Ok (Stored pager what)) untouched = untouched_passed untouched
      by (Ok (Refused slot at)) untouched = tt
      by (Err call) untouched = tt

  -- a refusal
  pub answered_refused : IfErr (opening_answer r) (IsRefused fault_at area start b)
  answered_refused = by r opens.found opens.calls all_went
    where
      by : (r : Result Outcome Call) → IfOk r (IsOutcome fault_at area a b) → Went itself a b r → Went itself start b r
          → IfErr (opening_answer r) (IsRefused fault_at area start b)
      by (Ok (Stored pager what)) is calls all = tt
      by (Ok (Refused slot at)) is calls all = record {
        damaged = λ slot' at' e.
            let one : slot ≡ slot' = let f : Damaged slot at ≡ Damaged slot' at' = e in cc in
            let two : at ≡ at' = let f : Damaged slot at ≡ Damaged slot' at' = e in cc in (
              unwritten_twice start a b same is.0.unwritten,
              all.quiet,
              untouched_passed is.0,
              λ s told. is.1 s (same.seen ∙ told) ∙ ap₂ damaged one two,
            );
        fault = λ call e. absurd (let f : Damaged slot at ≡ StoreFault call = e in cc);
        ended = λ call e. absurd (let f : Damaged slot at ≡ StoreFault call = e in cc);
      }
      by (Err call) is calls all = refused_by fault_at area start b call all

  pub answered_memory : (P : Type 0) → IfErr (opening_answer r) (λ e. e ≡ Memory → P)
  answered_memory P = by r
    where
      by : (r : Result Outcome Call) → IfErr (opening_answer r) (λ e. e ≡ Memory → P)
      by (Ok (Stored pager what)) = tt
      by (Ok (Refused slot at)) = λ e. absurd (let f : Damaged slot at ≡ Memory = e in cc)
      by (Err call) = λ e. absurd (let f : StoreFault call ≡ Memory = e in cc)

  pub answered_quiet : OnOk (opening_answer r) (IsQuiet start b)
  answered_quiet = by r all_went.quiet
    where
      by : (r : Result Outcome Call) → OnOk r (IsQuiet start b) → OnOk (opening_answer r) (IsQuiet start b)
      by (Ok (Stored pager what)) is = is
      by (Ok (Refused slot at)) is = tt
      by (Err call) is = tt

  pub answered_reads_few : ReadsAtMost 4 start a → ReadsAtMost (opening_reads area) start b
  answered_reads_few first = reads_twice 4 (area.most + 2 * lookings (layout_of area)) (opening_reads area) start a b (omega arith) first opens.reads

  pub answered_few : MakesAtMost 1 one_of start a (Ok x)
      → MakesAtMost (openings area) faulted start b (opening_answer r)
  answered_few first = by r (few_then 1 (settlings area) (openings area) x start a b r (omega arith) first opens.few)
    where
      by : (r : Result Outcome Call) → MakesAtMost (openings area) one_of start b r
          → MakesAtMost (openings area) faulted start b (opening_answer r)
      by (Ok (Stored pager what)) few = record { told = few.told }
      by (Ok (Refused slot at)) few = record { told = few.told }
      by (Err call) few = record { told = few.told }

  pub answered_ahead : OnOk (opening_answer r) (FailsLater start b)
  answered_ahead = by r all_went.ahead
    where
      by : (r : Result Outcome Call) → OnOk r (FailsLater start b) → OnOk (opening_answer r) (FailsLater start b)
      by (Ok (Stored pager what)) is = is
      by (Ok (Refused slot at)) is = tt
      by (Err call) is = tt

  pub answered_fate : start.fate ≡ all_pass
      → IfErr (opening_answer r) (λ e. (call : Call) → e ≢ StoreFault call) × (b.fate ≡ all_pass)
  answered_fate all = (by r (all_went.fate all).0, (all_went.fate all).1)
    where
      by : (r : Result Outcome Call) → is_ok r ≡ true → IfErr (opening_answer r) (λ e. (call : Call) → e ≢ StoreFault call)
      by (Ok (Stored pager what)) ok = tt
      by (Ok (Refused slot at)) ok = λ call e. let f : Damaged slot at ≡ StoreFault call = e in cc
      by (Err call) ok = absurd (let f : false ≡ true = ok in cc)

-- The calls of a put, in the words of callers.
use Rattle.std.proofs.Common.{◌≡◌, ℕ, ◌+◌, ◌<◌, List, Some, Result, Ok, Err, length, length-take-le, take, sym, ◌∙◌, ap, subst, arith}
use Rattle.dr_disk.specs.declared.call.Call.{Call}
use Rattle.dr_disk.specs.State.{Always, DiskState}
use Rattle.dr_disk.specs.Spans.{HavePassed, Span}
use Rattle.dr_disk.specs.Called.{Called, itself}
use Rattle.dr_disk.proofs.Calling.{failed_as, passed_as}
use Rattle.pages.specs.declared.layout.Layout.{Layout}
use Rattle.pages.specs.Around.{ReadsAround}
use Rattle.pages.specs.Commits.{IsPlan, TakesPlace, next_shot}
use Rattle.pages.specs.Runs.{CameNext, RunsCalls}
use Rattle.pages.specs.Snapshots.{Snapshot}
use Rattle.pages.specs.Stops.{put_call, puts}
use Rattle.pages.specs.Writing.{AreToWrite, piece_at}
use Rattle.record_pages.specs.Pages.{pages_in}
use Rattle.record_pages.specs.Tables.{record_names}
use Rattle.slot_store.specs.declared.errors.StoreFault.{StoreFault}
use Rattle.slot_store.specs.declared.pager.Pager.{Pager}
use Rattle.slot_store.specs.Areas.{Fits, layout_of}
use Rattle.slot_store.specs.Layout.{table_for}
use Rattle.slot_store.specs.Putting.{HasPut, IsStaged, call_of}
use Rattle.slot_store.specs.Stops.{IsStopped, putting, writes_of}
use Rattle.slot_store.specs.Pager.{content, mark}
use Rattle.slot_store.specs.Store.{IsOldOrNew, ReadsOutsideArea}
use Rattle.slot_store.proofs.Puts.HasPlan.{fresh}
use Rattle.slot_store.proofs.Puts.PlanFacts.{plans}
use Rattle.slot_store.proofs.Puts.PutDone.{has_put, put_whole}
use Rattle.slot_store.proofs.Puts.Putting.{Setting, next_is, plan, shot_new, shot_old, to_write}
use Rattle.slot_store.proofs.Puts.Stopping.{put_stopped, put_writes}

-- ---- how many calls

pub called_err : {T U : Type 0} (n m : ℕ) (call : Call) (e : StoreFault) (a b : DiskState) → n ≡ m
    → call ≡ call_of e → Called {T = U} n itself a b (Err call)
    → Called {T = T} m call_of a b (Err e)
called_err {T = T} {U = U} n m call e a b same is called = record {
  passed = tt;
  few = λ l k was now. subst (λ x. k < l + x) same (called.few l k was now);
  went = failed_as {T = T} {U = U} itself call_of call e a b is called.went;
}

pub called_ok : {T U : Type 0} (n m : ℕ) (x : U) (y : T) (a b : DiskState) → n ≡ m
    → Called n itself a b (Ok x) → Called m call_of a b (Ok y)
called_ok n m x y a b same called = record {
  passed = subst (λ k. HavePassed k a b) same called.passed;
  few = tt;
  went = passed_as itself call_of y x a b called.went;
}

-- ---- by the arguments of the call

-- a put's call, of so many of these free numbers
pub record IsCall (old new : Pager) (text : List ℕ) (start : DiskState) (lay : Layout) (k : ℕ)
    (free places bytes body : List ℕ) : Type 0 where
  pub set : Setting old new text start
  pub lay_is : lay ≡ layout_of new.area
  pub k_is : k ≡ length new.draft.plan.places.items
  pub free_are : free ≡ new.draft.free.items
  pub places_are : places ≡ new.draft.plan.places.items
  pub bytes_are : bytes ≡ new.kept.bytes.items
  pub body_is : body ≡ new.draft.body.items

-- so many numbers are free
pub enough_free : (old new : Pager) (text : List ℕ) (k : ℕ) (free : List ℕ)
    → IsStaged old new text → Fits old.area text → k ≡ length new.draft.plan.places.items
    → free ≡ new.draft.free.items → k ≡ length (take k free)
enough_free old new text k free staged fits k_is free_are = sym (length-take-le k free
    (let e : length free ≡ length new.draft.free.items = ap (λ (l : List ℕ). length l) free_are in
    omega (arith, k_is, e, (plans old new text staged fits).enough)))

module _ {old new : Pager} {text : List ℕ} {start : DiskState} {lay : Layout} {k : ℕ}
    {free places bytes body : List ℕ}
    (call : IsCall old new text start lay k free places bytes body) where
  abbrev L : Layout
  L = layout_of old.area

  abbrev Before : Snapshot
  Before = shot_old old

  abbrev After : Snapshot
  After = shot_new new text

  same_layout : lay ≡ L
  same_layout = call.lay_is ∙ ap layout_of call.set.staged.next.area

  numbers_are : take k free ≡ fresh new
  numbers_are = ap (λ n. take n free) call.k_is
      ∙ ap (λ (l : List ℕ). take (length new.draft.plan.places.items) l) call.free_are

  body_laid : body ≡ table_for (mark new) text
  body_laid = call.body_is ∙ call.set.staged.body

  content_is : piece_at bytes places ≡ piece_at new.kept.bytes.items new.draft.plan.places.items
  content_is = ap (λ (bs : List ℕ). piece_at bs places) call.bytes_are
      ∙ ap (λ (ps : List ℕ). piece_at new.kept.bytes.items ps) call.places_are

  pub to_write_here : AreToWrite record_names lay (take k free) places bytes start
  to_write_here =
      subst (λ (x : Layout). AreToWrite record_names x (take k free) places bytes start)
      (sym same_layout)
      (subst (λ (ns : List ℕ). AreToWrite record_names L ns places bytes start) (sym numbers_are)
      (subst (λ (ps : List ℕ). AreToWrite record_names L (fresh new) ps bytes start)
      (sym call.places_are)
      (subst (λ (bs : List ℕ). AreToWrite record_names L (fresh new)
      new.draft.plan.places.items bs start) (sym call.bytes_are)
      (to_write call.set))))

  plan_here : IsPlan record_names lay old.second (take k free) (piece_at bytes places) body Before
      (pages_in text) start
  plan_here =
      subst (λ (x : Layout). IsPlan record_names x old.second (take k free) (piece_at bytes places)
      body Before (pages_in text) start) (sym same_layout)
      (subst (λ (ns : List ℕ). IsPlan record_names L old.second ns (piece_at bytes places) body
      Before (pages_in text) start) (sym numbers_are)
      (subst (λ (b : List ℕ). IsPlan record_names L old.second (fresh new) (piece_at bytes places)
      b Before (pages_in text) start) (sym body_laid)
      (subst (λ (at : ℕ → List ℕ). IsPlan record_names L old.second (fresh new) at
      (table_for (mark new) text) Before (pages_in text) start) (sym content_is)
      (plan call.set))))

  module _ {T : Type 0} (end : DiskState) (result : Result T Call)
      (takes : (before : Snapshot) (after : List (List ℕ))
      → IsPlan record_names lay old.second (take k free) (piece_at bytes places) body before after
      start
      → TakesPlace record_names lay (take k free) before (next_shot before body after) start end
      result) where
    took_place : TakesPlace record_names L (fresh new) Before After start end result
    took_place =
        subst (λ (x : Layout). TakesPlace record_names x (fresh new) Before After start end result)
        same_layout
        (subst (λ (ns : List ℕ). TakesPlace record_names lay ns Before After start end result)
        numbers_are
        (subst (λ (s : Snapshot). TakesPlace record_names lay (take k free) Before s start end
        result) (ap (λ (b : List ℕ). next_shot Before b (pages_in text)) body_laid
        ∙ next_is call.set)
        (takes Before (pages_in text) plan_here)))

    pub whole_here : Span start end (IsOldOrNew start old.area (content old) (Some text))
    whole_here = put_whole call.set end took_place.any_moment

  pub done_here : {T : Type 0} (end : DiskState) (x : T)
      → ((before : Snapshot) (after : List (List ℕ))
      → IsPlan record_names lay old.second (take k free) (piece_at bytes places) body before after
      start
      → TakesPlace record_names lay (take k free) before (next_shot before body after) start end
      (Ok x))
      → Always (HasPut old new text start) end
  done_here end x takes c left = has_put call.set c ((took_place end (Ok x) takes).done c left)

  pub stopped_here : {T : Type 0} (end : DiskState) (failed : Call)
      → ((before : Snapshot) (after : List (List ℕ))
      → IsPlan record_names lay old.second (take k free) (piece_at bytes places) body before after
      start
      → TakesPlace {T = T} record_names lay (take k free) before (next_shot before body after) start
      end (Err failed))
      → IsStopped old.area (content old) (Some text) start end
  stopped_here {T = T} end failed takes = put_stopped call.set end
      (took_place {T = T} end (Err failed) takes).stopped

  pub reads_here : (end : DiskState) → ReadsAround lay start end
      → ReadsOutsideArea old.area start end
  reads_here end reads = subst (λ (x : Layout). ReadsAround x start end) same_layout reads

  writes_here : length (take k free) ≡ writes_of (content old) (Some text)
  writes_here = ap (λ (ns : List ℕ). length ns) numbers_are ∙ put_writes call.set

  counts_here : puts (length (take k free)) ≡ putting (content old) (Some text)
  counts_here = ap puts writes_here

  pub came_here : (end : DiskState) (failed : Call)
      → CameNext (put_call (length (take k free))) start end failed
      → CameNext (put_call (writes_of (content old) (Some text))) start end failed
  came_here end failed = subst (λ n. CameNext (put_call n) start end failed) writes_here

  pub passed_here : {T U : Type 0} (end : DiskState) (x : U) (y : T)
      → RunsCalls lay (puts (length (take k free))) start end (Ok x)
      → Called (putting (content old) (Some text)) call_of start end (Ok y)
  passed_here end x y runs = called_ok (puts (length (take k free)))
      (putting (content old) (Some text)) x y start end counts_here runs.calls

  pub failed_here : {T U : Type 0} (end : DiskState) (failed : Call) (e : StoreFault)
      → RunsCalls {T = U} lay (puts (length (take k free))) start end (Err failed)
      → failed ≡ call_of e
      → Called {T = T} (putting (content old) (Some text)) call_of start end (Err e)
  failed_here {T = T} {U = U} end failed e runs same = called_err {T = T} {U = U}
      (puts (length (take k free))) (putting (content old) (Some text)) failed e start end
      counts_here same runs.calls

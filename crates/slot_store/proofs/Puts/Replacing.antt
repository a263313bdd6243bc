-- A put, and then a retire.
use Rattle.std.proofs.Common.{◌≡◌, inr, ℕ, ◌+◌, List, Result, Some, length, sym, ◌∙◌, ap, subst}
use Rattle.std.specs.Prelude.{is_some}
use Rattle.dr_disk.specs.State.{Always, DiskState, IsLawful}
use Rattle.dr_disk.specs.Spans.{HavePassed, Span}
use Rattle.dr_disk.specs.Called.{Called}
use Rattle.pages.proofs.Around.{reads_both as around_reads}
use Rattle.dr_disk.proofs.Steps.{spans, widen}
use Rattle.slot_store.specs.Areas.{Fits, layout_of}
use Rattle.slot_store.specs.declared.errors.StoreFault.{StoreFault}
use Rattle.slot_store.specs.declared.pager.Pager.{Pager}
use Rattle.slot_store.specs.Putting.{HasPut, HasReplaced, HasRested, IsStaged, KeepsRecord, call_of, retire_calls}
use Rattle.slot_store.specs.Reading.{IsUndamaged}
use Rattle.slot_store.specs.Records.{stored_record}
use Rattle.slot_store.specs.Stops.{IsStopped, calls_of, putting, retiring, wipes_of}
use Rattle.slot_store.specs.Pager.{content, has_replaced, store_seen}
use Rattle.slot_store.specs.Store.{IsOldOrNew, KeepsOutsideArea, ReadsOutsideArea}
use Rattle.slot_store.proofs.Outside.{keeps_twice}
use Rattle.slot_store.proofs.Puts.PlanFacts.{plans}
use Rattle.slot_store.proofs.Standing.{rests_seen}
use Rattle.slot_store.proofs.Puts.Stopping.{stopped_late}

module _ (old put : Pager) (text : List ℕ) (staged : IsStaged old put text)
    (start mid : DiskState) where
  abbrev Either : List ℕ → Type 0
  Either = IsOldOrNew start old.area (content old) (Some text)

  reads_same : (end : DiskState) → ReadsOutsideArea put.area mid end
      → ReadsOutsideArea old.area mid end
  reads_same end = subst (λ a. ReadsOutsideArea a mid end) staged.next.area

  pub reads_both : (end : DiskState) → ReadsOutsideArea old.area start mid
      → ReadsOutsideArea put.area mid end → ReadsOutsideArea old.area start end
  reads_both end first next = around_reads (layout_of old.area) start mid end first
      (reads_same end next)

  -- how many calls the retire makes
  pub retire_count : Fits old.area text
      → retire_calls put ≡ retiring (is_some (content old)) (wipes_of (content old) (Some text))
  unfolding retire_calls has_replaced
  retire_count fits =
      ap (λ r. retiring r (length put.draft.plan.dropped.items)) staged.replaced
      ∙ ap (λ n. retiring (is_some (content old)) n) (plans old put text staged fits).wipes

  pub counted : {T : Type 0} (now : DiskState) (result : Result T StoreFault) → Fits old.area text
      → Called (putting (content old) (Some text) + retire_calls put) call_of start now result
      → Called (calls_of (content old) (Some text)) call_of start now result
  unfolding calls_of
  counted now result fits called = subst (λ n. Called n call_of start now result)
      (ap (λ n. putting (content old) (Some text) + n) (retire_count fits)) called

  module _ (done : Always (HasPut old put text start) mid) where
    outside : Always (KeepsOutsideArea old.area start) mid
    outside c left = (done c left).2

    area_kept : (c : List ℕ) → KeepsRecord put mid c → KeepsOutsideArea old.area start c
    area_kept c kept = keeps_twice old.area start mid outside c
        (subst (λ a. KeepsOutsideArea a mid c) staged.next.area kept.1)

    is_new : (c : List ℕ) → KeepsRecord put mid c → stored_record old.area c ≡ Some text
    is_new c kept = ap (λ a. stored_record a c) (sym staged.next.area) ∙ kept.0 ∙ staged.holds

    either : (c : List ℕ) → KeepsRecord put mid c → Either c
    either c kept = record {
      either = inr (is_new c kept);
      undamaged = subst (λ a. IsUndamaged a c) staged.next.area kept.2;
      frame = area_kept c kept;
    }

    pub replace_whole : (end : DiskState) → Span start mid Either → Span mid end (KeepsRecord put mid)
        → Span start end Either
    replace_whole end first next = spans start mid end Either first
        (widen mid end (KeepsRecord put mid) Either either next)

    pub replace_stopped : (end : DiskState) → IsLawful end → Span mid end (KeepsRecord put mid)
        → HavePassed (putting (content old) (Some text)) start mid
        → IsStopped old.area (content old) (Some text) start end
    replace_stopped end lawful span passed = stopped_late old.area (content old) (Some text) start
        mid end lawful
        (λ c left. ap (λ a. stored_record a c) (sym staged.next.area) ∙ (done c left).1)
        (KeepsRecord put mid) span is_new passed

    pub replace_done : (new : Pager) (end : DiskState) → new ≡ put
        → Always (HasRested put new mid) end → Always (HasReplaced (store_seen old) (store_seen new) text start) end
    replace_done new end same rested c left =
        let rest = rested c left in (
          rests_seen new c rest.0,
          rest.1 ∙ ap content same ∙ staged.holds,
          keeps_twice old.area start mid outside c
              (subst (λ a. KeepsOutsideArea a mid c) staged.next.area rest.2),
        )

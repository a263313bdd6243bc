-- A record that replaced another, on the disk of a client.
use Rattle.std.proofs.Common.{List, Option, Some, ap, ap₂, arith, refl, subst, sym, ℕ, ◌+◌, ◌-◌, ◌<◌, ◌∙◌, ◌≡◌}
use Rattle.dr_base.specs.Causes.{Rose}
use Rattle.dr_disk.specs.Spans.{FailsLater, HasFailedAsTold, HavePassed, IsQuiet, Span}
use Rattle.dr_disk.specs.State.{Always, DiskState}
use Rattle.dr_disk.specs.declared.call.Call.{Call}
use Rattle.dr_disk.proofs.Steps.{widen}
use Rattle.session_model.specs.Clients.{Client}
use Rattle.session_record.specs.Record.{record_text}
use Rattle.slot_store.specs.Records.{stored_record}
use Rattle.slot_store.specs.Stops.{IsStopped, call_after, calls_of}
use Rattle.slot_store.specs.Store.{IsOldOrNew, KeepsOutsideArea, ReadsOutsideArea, Rests, SlotStore, content}
use Rattle.slot_store.specs.Areas.{Area}
use Rattle.client.specs.Cells.{IsOldOrNewInCell, IsStoppedInCell, client_cell}
use Rattle.client.specs.Clients.{ClientNow, IsReady, client_area}
use Rattle.client.specs.Keepings.{client_keeping}
use Rattle.client.specs.Outcomes.{IsKeptBy, IsLost, IsReplacing, replacing_calls}

-- what the store says of its area, as what is said of the place
to_cell : (start : DiskState) (o n : Option (List ℕ)) (c : List ℕ)
    → IsOldOrNew start client_area o n c → IsOldOrNewInCell client_cell start o n c
to_cell start o n c s = record { either = s.either; undamaged = s.undamaged; frame = s.frame }

module _ (before after : Client) (old : SlotStore) (text : List ℕ) (start now : DiskState) (ready : IsReady before old start)
    (written : text ≡ record_text after) where
  replacing : Span start now (IsOldOrNew start old.area (content old) (Some text)) → IsReplacing before after start now
  replacing span =
      widen start now (IsOldOrNew start client_area (Some (record_text before)) (Some (record_text after)))
      (IsOldOrNewInCell client_cell start (Some (record_text before)) (Some (record_text after)))
      (to_cell start (Some (record_text before)) (Some (record_text after)))
      (subst (λ (a : Area). Span start now (IsOldOrNew start a (Some (record_text before)) (Some (record_text after)))) ready.area
      (subst (λ o. Span start now (IsOldOrNew start old.area o (Some (record_text after)))) ready.holds
      (subst (λ t. Span start now (IsOldOrNew start old.area (content old) (Some t))) written span)))

  -- of the records of the two
  calls_are : calls_of (content old) (Some text) ≡ replacing_calls before after
  calls_are = ap₂ calls_of ready.holds (ap Some written)

  to_stopped : IsStopped client_area (Some (record_text before))
      (Some (record_text after)) start now
      → IsStoppedInCell client_cell (Some (record_text before)) (Some (record_text after)) start now
  to_stopped s = record { crash = s.crash; read = s.read }

  reads_in : ReadsOutsideArea old.area start now → ReadsOutsideArea client_area start now
  reads_in reads = subst (λ (a : Area). ReadsOutsideArea a start now) ready.area reads

  pub kept : (was is : ClientNow) (new : SlotStore) → is.store ≡ new → is.kept ≡ after
      → Span start now (IsOldOrNew start old.area (content old) (Some text))
      → Always (λ c. Rests new c × (stored_record new.area c ≡ Some text) × KeepsOutsideArea old.area start c) now
      → ReadsOutsideArea old.area start now → content new ≡ Some text → new.area ≡ old.area
      → HavePassed (calls_of (content old) (Some text)) start now → FailsLater start now
      → IsQuiet start now → IsKeptBy client_keeping before after was is start now
  kept was is new stored keeps span rest reads holds same passed ahead quiet = record {
    ready =
        subst (λ (s : SlotStore). IsReady is.kept s now) (sym stored)
        (subst (λ (x : Client). IsReady x new now) (sym keeps) (record {
          area = same ∙ ready.area;
          within = omega (arith, ready.within, span.size);
          holds = holds ∙ ap Some written;
          rests = λ c left. (rest c left).0;
        }));
    stays = refl;
    any_moment = replacing span;
    reads = reads_in reads;
    passed = subst (λ n. HavePassed n start now) calls_are passed;
    ahead = ahead;
    quiet = quiet;
  }

  pub lost : (call : Call) → Span start now (IsOldOrNew start old.area (content old) (Some text))
      → ReadsOutsideArea old.area start now → IsStopped old.area (content old) (Some text) start now
      → ((l m : ℕ) → start.passed ≡ Some l → now.passed ≡ Some m → m < l + calls_of (content old) (Some text))
      → ((l m : ℕ) → start.passed ≡ Some l → now.passed ≡ Some m
      → call ≡ call_after (content old) (Some text) (m - l))
      → HasFailedAsTold start now → Rose (start.faults call) (now.faults call)
      → IsLost before after call start now
  lost call span reads stopped few came ended rose = record {
    any_moment = replacing span;
    reads = reads_in reads;
    stopped = to_stopped
        (subst (λ (a : Area). IsStopped a (Some (record_text before)) (Some (record_text after)) start now) ready.area
        (subst (λ o. IsStopped old.area o (Some (record_text after)) start now) ready.holds
        (subst (λ t. IsStopped old.area (content old) (Some t) start now) written stopped)));
    few = λ l m was is. subst (λ n. m < l + n) calls_are (few l m was is);
    kind = λ l m was is. came l m was is
        ∙ ap₂ (λ o t. call_after o t (m - l)) ready.holds (ap Some written);
    ended = ended;
    rose = rose;
  }

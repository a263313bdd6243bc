use Rattle.std.proofs.Common.{Ok, Err, Some, take, refl, sym, subst, ◌∙◌, ap}
use Rattle.dr_disk.specs.Called.{Called}
use Rattle.dr_disk.specs.Spans.{Span}
use Rattle.dr_disk.specs.State.{Always}
use Rattle.dr_disk.proofs.Calling.{failed_at_first, failed_later, passed_both}
use Rattle.slot_store.specs.Areas.{HasRecordMemory, HasText}
use Rattle.slot_store.specs.Pager.{content, store_seen}
use Rattle.slot_store.specs.Putting.{HasReplaced, IsNext, call_of, retire_calls}
use Rattle.pages.specs.Runs.{CameNext}
use Rattle.slot_store.specs.Stops.{IsStopped, call_after, calls_of, putting}
use Rattle.slot_store.specs.Store.{IsOldOrNew, ReadsOutsideArea, Rests, SlotStore}
use Rattle.slot_store.proofs.Puts.NextCalls.{came_in_put, came_in_retire}
use Rattle.slot_store.proofs.Puts.Replacing.{counted, reads_both, replace_done, replace_stopped, replace_whole}
use Rattle.paged_records.proofs.Texts.{held_fits}
use Rattle.slot_store.specs.Areas.{bounds_of}
use Rattle.slot_store.proofs.Standing.{laid_as_seen}
use Rattle.slot_store.proofs.store.SlotStore.replace.Goals as goal

pub put-requires-clause-text : goal.put-requires-clause-text
put-requires-clause-text g c =
    subst (λ (s : SlotStore). HasText s.area c.args.text.now c.args.len) (sym c.self.view_is) c.requires.text

pub put-requires-clause-at_rest : goal.put-requires-clause-at_rest
put-requires-clause-at_rest g c = λ d left. laid_as_seen c.self.inside.pager d
    (subst (λ (s : SlotStore). Rests s d) (sym c.self.view_is) (c.requires.at_rest d left))

pub returns-in-Err : goal.returns-in-Err
returns-in-Err g c =
    let old = c.self.inside.pager in
    let put = c.put.new.self in
    let text = take c.args.len c.args.text.now.items in
    let start = g.D.Disk.state c.args.disk.now in
    let mid = g.D.Disk.state c.put.new.disk in
    let fits = held_fits (bounds_of old.area) c.args.text.now c.args.len
    (subst (λ (s : SlotStore). HasText s.area c.args.text.now c.args.len) (sym c.self.view_is) c.requires.text) in
    record {
      replaces = record {
        any_moment = subst (λ (s : SlotStore). Span start mid (IsOldOrNew start s.area s.content (Some text))) c.self.view_is
            c.put.ensures.replaces.any_moment;
        reads = subst (λ (s : SlotStore). ReadsOutsideArea s.area start mid) c.self.view_is c.put.ensures.replaces.reads;
        stopped = subst (λ (s : SlotStore). IsStopped s.area s.content (Some text) start mid) c.self.view_is c.in-Err.ensures.replaces.stopped;
      };
      done = tt;
      holds = tt;
      next = subst (λ (s : SlotStore). IsNext s (store_seen put) text) c.self.view_is c.put.ensures.staged.next;
      calls = subst (λ (s : SlotStore). Called (calls_of s.content (Some text)) call_of start mid (Err c.in-Err.fault)) c.self.view_is
          (counted old put text c.put.ensures.staged start mid mid _ fits
          (failed_at_first {T = Unit} {U = Unit} (putting (content old) (Some text)) (retire_calls put) call_of call_of
          _ _ _ _ refl c.in-Err.ensures.calls));
      kind = subst (λ (s : SlotStore). CameNext (call_after s.content (Some text)) start mid c.in-Err.fault.call) c.self.view_is
          (came_in_put old put text start mid c.in-Err.fault.call c.put.ensures.replaces.any_moment.passes
          c.in-Err.ensures.calls.few c.in-Err.ensures.kind);
      room = subst (λ (s : SlotStore). HasRecordMemory s.area c.put.new.text) c.self.view_is c.put.ensures.room;
    }

pub returns-in-Err-retire : goal.returns-in-Err-retire
returns-in-Err-retire g c =
    let old = c.self.inside.pager in
    let put = c.put.new.self in
    let text = take c.args.len c.args.text.now.items in
    let start = g.D.Disk.state c.args.disk.now in
    let mid = g.D.Disk.state c.put.new.disk in
    let end = g.D.Disk.state c.retire.new.disk in
    let staged = c.put.ensures.staged in
    let done = c.in-Ok.ensures.done in
    let fits = held_fits (bounds_of old.area) c.args.text.now c.args.len
    (subst (λ (s : SlotStore). HasText s.area c.args.text.now c.args.len) (sym c.self.view_is) c.requires.text) in
    record {
      replaces = record {
        any_moment = subst (λ (s : SlotStore). Span start end (IsOldOrNew start s.area s.content (Some text))) c.self.view_is
            (replace_whole old put text staged start mid done end c.put.ensures.replaces.any_moment c.retire.ensures.any_moment);
        reads = subst (λ (s : SlotStore). ReadsOutsideArea s.area start end) c.self.view_is
            (reads_both old put text staged start mid end c.put.ensures.replaces.reads c.retire.ensures.reads);
        stopped = subst (λ (s : SlotStore). IsStopped s.area s.content (Some text) start end) c.self.view_is
            (replace_stopped old put text staged start mid done end (g.met.D.Disk.lawful c.retire.new.disk)
            c.retire.ensures.any_moment c.in-Ok.ensures.calls.passed);
      };
      done = tt;
      holds = tt;
      next = subst (λ (s : SlotStore). IsNext s (store_seen c.retire.new.self) text) c.self.view_is
          (subst (λ p. IsNext (store_seen old) (store_seen p) text) (sym c.retire.ensures.same) staged.next);
      calls = subst (λ (s : SlotStore). Called (calls_of s.content (Some text)) call_of start end (Err c.in-Err-retire.fault)) c.self.view_is
          (counted old put text staged start mid end _ fits
          (failed_later {T = Unit} {U = Unit} {V = Unit} (putting (content old) (Some text)) (retire_calls put) call_of call_of call_of
          _ _ _ _ _ _ _ _ refl c.put.ensures.replaces.any_moment c.in-Ok.ensures.calls c.retire.ensures.any_moment
          c.in-Err-retire.ensures.calls));
      kind = subst (λ (s : SlotStore). CameNext (call_after s.content (Some text)) start end c.in-Err-retire.fault.call) c.self.view_is
          (came_in_retire old put text start mid c.in-Err-retire.fault.call end staged fits c.in-Ok.ensures.calls.passed
          c.retire.ensures.any_moment.passes c.in-Err-retire.ensures.calls.few c.in-Err-retire.ensures.kind);
      room = subst (λ (s : SlotStore). HasRecordMemory s.area c.put.new.text) c.self.view_is c.put.ensures.room;
    }

pub returns : goal.returns
returns g c =
    let old = c.self.inside.pager in
    let put = c.put.new.self in
    let text = take c.args.len c.args.text.now.items in
    let start = g.D.Disk.state c.args.disk.now in
    let mid = g.D.Disk.state c.put.new.disk in
    let end = g.D.Disk.state c.retire.new.disk in
    let staged = c.put.ensures.staged in
    let done = c.in-Ok.ensures.done in
    let fits = held_fits (bounds_of old.area) c.args.text.now c.args.len
    (subst (λ (s : SlotStore). HasText s.area c.args.text.now c.args.len) (sym c.self.view_is) c.requires.text) in
    record {
      replaces = record {
        any_moment = subst (λ (s : SlotStore). Span start end (IsOldOrNew start s.area s.content (Some text))) c.self.view_is
            (replace_whole old put text staged start mid done end c.put.ensures.replaces.any_moment c.retire.ensures.any_moment);
        reads = subst (λ (s : SlotStore). ReadsOutsideArea s.area start end) c.self.view_is
            (reads_both old put text staged start mid end c.put.ensures.replaces.reads c.retire.ensures.reads);
        stopped = tt;
      };
      done = subst (λ (s : SlotStore). Always (HasReplaced s (store_seen c.retire.new.self) text start) end) c.self.view_is
          (replace_done old put text staged start mid done c.retire.new.self end c.retire.ensures.same c.in-Ok-retire.ensures.at_rest);
      holds = ap content c.retire.ensures.same ∙ staged.holds;
      next = subst (λ (s : SlotStore). IsNext s (store_seen c.retire.new.self) text) c.self.view_is
          (subst (λ p. IsNext (store_seen old) (store_seen p) text) (sym c.retire.ensures.same) staged.next);
      calls = subst (λ (s : SlotStore). Called (calls_of s.content (Some text)) call_of start end (Ok tt)) c.self.view_is
          (counted old put text staged start mid end _ fits
          (passed_both (putting (content old) (Some text)) (retire_calls put) call_of call_of call_of _ _ _ _ _ _
          c.in-Ok.ensures.calls c.in-Ok-retire.ensures.calls));
      kind = tt;
      room = subst (λ (s : SlotStore). HasRecordMemory s.area c.put.new.text) c.self.view_is c.put.ensures.room;
    }

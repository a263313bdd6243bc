use Rattle.std.proofs.Common.{◌≡◌, ◌<◌, Some, None, Ok, Err, Result, ap, arith, length, refl, rules, subst, sym, take, true, ◌∙◌}
use Rattle.std.specs.Prelude.{OnOk, is_ok, slice_get}
use Rattle.std.proofs.lemmas.Bool.{eqb-false, eqb-true}
use Rattle.std.proofs.lemmas.Option.{slice_get-get_or}
use Rattle.slot_store.specs.Store.{SlotStore, content}
use Rattle.slot_store.specs.Kept.{content_or_empty}
use Rattle.dr_disk.proofs.Steps.{stays}
use Rattle.relay_server.specs.Filling.{IsFilling}
use Rattle.relay_server.proofs.FilledAreas.{Put, none_there, place_ready, put_filled, put_moments, stands_on}
use Rattle.relay_server.proofs.LoadedBoxes.{some_there}
use Rattle.relay_server.proofs.OneStore.{there_is}
use Rattle.relay_server.proofs.filling.fill_area.Goals as goal

pub returns-then-not-is_empty-clause-fills : goal.returns-then-not-is_empty-clause-fills
returns-then-not-is_empty-clause-fills g c =
    let store = c.index-stores-place.result in
    let inside : c.args.place < length c.args.stores.now = omega (arith, c.requires.filled.count) in
    let here : slice_get c.args.stores.now c.args.place ≡ Some store = slice_get-get_or c.args.stores.now c.args.place store inside ∙ ap (λ (s : SlotStore). Some s) (sym c.index-stores-place.is) in
    let more = eqb-false (length c.content.result.now) 0 (sym c.is_empty.ensures ∙ (search rules)) in
    record {
      filled = stands_on c.args.place c.args.relay.now c.args.stores.now (g.D.Disk.state c.args.disk.now) store c.content.result.now c.requires.filled here
          (some_there (content store) c.content.result.now (c.content.ensures ∙ ap (λ (s : SlotStore). content_or_empty (content s)) (sym c.index-stores-place.is)) more);
      any_moment = stays (g.D.Disk.state c.args.disk.now) (IsFilling c.args.relay.now (g.D.Disk.state c.args.disk.now));
      fault = tt;
      quiet = λ call. refl;
    }

pub replace_at-requires-clause-ready : goal.replace_at-requires-clause-ready
replace_at-requires-clause-ready g c = λ store there.
    place_ready c.args.place c.args.relay.now c.args.stores.now (g.D.Disk.state c.args.disk.now) _ c.write_text-len.result
    c.requires.filled c.requires.inside c.write_text-len.ensures.room
    (omega (arith, c.write_text-len.ensures.room, c.write_text-len.ensures.len)) store there

on_ok : {A E : Type 0} (r : Result A E) (P : Type 0) → (is_ok r ≡ true → P) → OnOk r P
on_ok (Ok a) P gives = gives refl
on_ok (Err e) P gives = tt

pub returns-clause-fills : goal.returns-clause-fills
returns-clause-fills g c =
    let store = c.index-stores-place.result in
    let inside : c.args.place < length c.args.stores.now = omega (arith, c.requires.filled.count) in
    let here : slice_get c.args.stores.now c.args.place ≡ Some store = slice_get-get_or c.args.stores.now c.args.place store inside ∙ ap (λ (s : SlotStore). Some s) (sym c.index-stores-place.is) in
    let box = there_is c.args.relay.now c.args.place c.requires.inside in
    let empty = eqb-true (length c.content.result.now) 0 (sym c.is_empty.ensures ∙ (search rules)) in
    let none : content store ≡ None = none_there c.args.place c.args.place box.0 (content store) (c.requires.filled.each c.args.place store box.0 here box.1) (ap length (ap (λ (s : SlotStore). content_or_empty (content s)) c.index-stores-place.is ∙ sym c.content.ensures) ∙ empty) in
    let put : Put c.args.place c.args.relay.now c.args.stores.now c.replace_at.new.stores (take c.write_text-len.result c.write_text-len.new.text.items) (g.D.Disk.state c.args.disk.now) (g.D.Disk.state c.replace_at.new.disk) (is_ok c.replace_at.result) = record {
      filled = c.requires.filled;
      inside = c.requires.inside;
      none = λ other there. let e : Some store ≡ Some other = sym here ∙ there in let f : store ≡ other = cc in subst (λ (s : SlotStore). content s ≡ None) f none;
      stores_count = c.replace_at.ensures.count;
      written = c.write_text-len.ensures.text;
      is_record = c.write_text-len.ensures.record;
      others = c.replace_at.ensures.others;
      there = c.replace_at.ensures.there;
      local = c.locality.ensures;
      resting = c.resting.ensures.record_of;
    } in
    record {
      filled = on_ok c.replace_at.result _ (put_filled c.args.place c.args.relay.now c.args.stores.now c.replace_at.new.stores (take c.write_text-len.result c.write_text-len.new.text.items) (g.D.Disk.state c.args.disk.now) (g.D.Disk.state c.replace_at.new.disk) (is_ok c.replace_at.result) put);
      any_moment = put_moments c.args.place c.args.relay.now c.args.stores.now c.replace_at.new.stores (take c.write_text-len.result c.write_text-len.new.text.items) (g.D.Disk.state c.args.disk.now) (g.D.Disk.state c.replace_at.new.disk) (is_ok c.replace_at.result) put;
      fault = c.replace_at.ensures.fault;
      quiet = c.replace_at.ensures.quiet;
    }

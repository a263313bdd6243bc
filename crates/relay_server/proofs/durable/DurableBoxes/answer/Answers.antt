use Rattle.std.proofs.Common.{inl, ◌≡◌, List, take, drop, length, refl, sym, ◌∙◌, ap, subst, rules}
use Rattle.std.specs.Prelude.{is_ok}
use Rattle.dr_disk.specs.Called.{itself}
use Rattle.dr_disk.proofs.Steps.{stays}
use Rattle.std.proofs.lemmas.List.{with_items_is}
use Rattle.relay_wire.specs.Requests.{read_request}
use Rattle.relay_core.specs.Boxes.{Box, answers_read}
use Rattle.slot_store.specs.Store.{SlotStore}
use Rattle.relay_server.specs.Durable.{IsServerReady, ServerNow, StandsForEitherBoxes}
use Rattle.relay_server.specs.Places.{IsSameBehind}
use Rattle.relay_server.proofs.StorePlaces.{called_err, called_ok}
use Rattle.relay_server.proofs.Replacing.{Known, changed_calls, known_moments, known_now, known_ready, no_calls, ready_stands}
use Rattle.relay_server.proofs.durable.DurableBoxes.answer.Goals as goal

pub returns-in-Err : goal.returns-in-Err
returns-in-Err g c =
    let frame = read_request (drop 2 c.args.frame.now.bytes.now) in
    let boxes = c.self.inside.relay in
    let known : Known c.args.self.now boxes c.answer_frame-answered.new.relay (answers_read boxes frame) c.self.inside.stores.items c.deref_mut.result.now c.replace_at.new.stores
    c.in-Some.place (take c.write_text-len.result c.write_text-len.new.text.items) (g.D.Disk.state c.args.disk.now) (g.D.Disk.state c.replace_at.new.disk) (is_ok c.replace_at.result) = record {
      ready = c.requires.ready;
      seen = c.self.view_is;
      lent = c.deref_mut.ensures.value;
      change = c.changes.ensures boxes frame;
      next_is = c.answer_frame-answered.ensures.next;
      place_is = sym c.answer_frame-answered.ensures.changed ∙ c.in-Some.is;
      stores_count = c.replace_at.ensures.count;
      written = c.write_text-len.ensures.record;
      others = c.replace_at.ensures.others;
      there = c.replace_at.ensures.there;
      local = c.locality.ensures;
      resting = c.resting.ensures;
    } in
    record {
      next = c.answer_frame-answered.ensures.next ∙ ap (λ (server : ServerNow). (answers_read server.boxes frame).next) c.self.view_is;
      leaves = record {
        any_moment = known_moments c.args.self.now boxes c.answer_frame-answered.new.relay (answers_read boxes frame) c.self.inside.stores.items c.deref_mut.result.now c.replace_at.new.stores
            c.in-Some.place (take c.write_text-len.result c.write_text-len.new.text.items) (g.D.Disk.state c.args.disk.now) (g.D.Disk.state c.replace_at.new.disk) (is_ok c.replace_at.result) known;
        at_return = known_now c.args.self.now boxes c.answer_frame-answered.new.relay (answers_read boxes frame) c.self.inside.stores.items c.deref_mut.result.now c.replace_at.new.stores
            c.in-Some.place (take c.write_text-len.result c.write_text-len.new.text.items) (g.D.Disk.state c.args.disk.now) (g.D.Disk.state c.replace_at.new.disk) (is_ok c.replace_at.result) known;
        ready = tt;
        fault = c.in-Err.ensures.fault;
        quiet = tt;
      };
      calls = changed_calls c.args.self.now _ boxes c.self.inside.stores.items c.deref_mut.result.now (λ (bs : List Box). (answers_read bs frame).changed) c.in-Some.place (take c.write_text-len.result c.write_text-len.new.text.items)
          (g.D.Disk.state c.args.disk.now) (g.D.Disk.state c.replace_at.new.disk) _ c.self.view_is c.deref_mut.ensures.value known.place_is c.write_text-len.ensures.text
          (λ store there. called_err _ itself (g.D.Disk.state c.args.disk.now) (g.D.Disk.state c.replace_at.new.disk) c.in-Err.call (c.in-Err.ensures.calls store there));
      reply = search rules;
    }

pub returns-in_default-replace_at : goal.returns-in_default-replace_at
returns-in_default-replace_at g c =
    let frame = read_request (drop 2 c.args.frame.now.bytes.now) in
    let boxes = c.self.inside.relay in
    let known : Known c.args.self.now boxes c.answer_frame-answered.new.relay (answers_read boxes frame) c.self.inside.stores.items c.deref_mut.result.now c.replace_at.new.stores
    c.in-Some.place (take c.write_text-len.result c.write_text-len.new.text.items) (g.D.Disk.state c.args.disk.now) (g.D.Disk.state c.replace_at.new.disk) (is_ok c.replace_at.result) = record {
      ready = c.requires.ready;
      seen = c.self.view_is;
      lent = c.deref_mut.ensures.value;
      change = c.changes.ensures boxes frame;
      next_is = c.answer_frame-answered.ensures.next;
      place_is = sym c.answer_frame-answered.ensures.changed ∙ c.in-Some.is;
      stores_count = c.replace_at.ensures.count;
      written = c.write_text-len.ensures.record;
      others = c.replace_at.ensures.others;
      there = c.replace_at.ensures.there;
      local = c.locality.ensures;
      resting = c.resting.ensures;
    } in
    let same : length c.replace_at.new.stores ≡ c.self.inside.stores.len = c.replace_at.ensures.count ∙ c.deref_mut.ensures.len in
    record {
      next = c.answer_frame-answered.ensures.next ∙ ap (λ (server : ServerNow). (answers_read server.boxes frame).next) c.self.view_is;
      leaves = record {
        any_moment = known_moments c.args.self.now boxes c.answer_frame-answered.new.relay (answers_read boxes frame) c.self.inside.stores.items c.deref_mut.result.now c.replace_at.new.stores
            c.in-Some.place (take c.write_text-len.result c.write_text-len.new.text.items) (g.D.Disk.state c.args.disk.now) (g.D.Disk.state c.replace_at.new.disk) (is_ok c.replace_at.result) known;
        at_return = known_now c.args.self.now boxes c.answer_frame-answered.new.relay (answers_read boxes frame) c.self.inside.stores.items c.deref_mut.result.now c.replace_at.new.stores
            c.in-Some.place (take c.write_text-len.result c.write_text-len.new.text.items) (g.D.Disk.state c.args.disk.now) (g.D.Disk.state c.replace_at.new.disk) (is_ok c.replace_at.result) known;
        ready = subst (λ (xs : List SlotStore). IsServerReady (record { boxes = c.answer_frame-answered.new.relay; stores = xs }) (g.D.Disk.state c.replace_at.new.disk)) (sym (with_items_is c.self.inside.stores c.replace_at.new.stores same))
            (known_ready c.args.self.now boxes c.answer_frame-answered.new.relay (answers_read boxes frame) c.self.inside.stores.items c.deref_mut.result.now c.replace_at.new.stores
            c.in-Some.place (take c.write_text-len.result c.write_text-len.new.text.items) (g.D.Disk.state c.args.disk.now) (g.D.Disk.state c.replace_at.new.disk) (is_ok c.replace_at.result) known (ap is_ok c.in_default-replace_at.is));
        fault = tt;
        quiet = c.in_default-replace_at.ensures.quiet;
      };
      calls = changed_calls c.args.self.now _ boxes c.self.inside.stores.items c.deref_mut.result.now (λ (bs : List Box). (answers_read bs frame).changed) c.in-Some.place (take c.write_text-len.result c.write_text-len.new.text.items)
          (g.D.Disk.state c.args.disk.now) (g.D.Disk.state c.replace_at.new.disk) _ c.self.view_is c.deref_mut.ensures.value known.place_is c.write_text-len.ensures.text
          (λ store there. called_ok _ itself (g.D.Disk.state c.args.disk.now) (g.D.Disk.state c.replace_at.new.disk) (c.in_default-replace_at.ensures.calls store there));
      reply = search rules;
    }

pub returns-in_default : goal.returns-in_default
returns-in_default g c =
    let disk = g.D.Disk.state c.args.disk.now in
    let frame = read_request (drop 2 c.args.frame.now.bytes.now) in
    let same : record { boxes = c.answer_frame-answered.new.relay; stores = c.self.inside.stores.items } ≡ c.args.self.now =
    ap (λ (bs : List Box). record { boxes = bs; stores = c.self.inside.stores.items })
    (c.answer_frame-answered.ensures.next ∙ (c.changes.ensures c.self.inside.relay frame).none (sym c.answer_frame-answered.ensures.changed ∙ c.in_default.is)) ∙ c.self.view_is in
    record {
      next = c.answer_frame-answered.ensures.next ∙ ap (λ (server : ServerNow). (answers_read server.boxes frame).next) c.self.view_is;
      leaves = record {
        any_moment = stays disk (λ image. StandsForEitherBoxes c.args.self.now.boxes c.answer_frame-answered.new.relay image × IsSameBehind (length c.args.self.now.boxes) disk image);
        at_return = λ image left. inl (ready_stands c.args.self.now disk c.requires.ready c.resting.ensures image left);
        ready = subst (λ (s : ServerNow). IsServerReady s disk) (sym same) c.requires.ready;
        fault = tt;
        quiet = λ call. refl;
      };
      calls = no_calls c.args.self.now _ c.self.inside.relay c.self.inside.stores.items (λ (bs : List Box). (answers_read bs frame).changed) disk _ c.self.view_is
          (sym c.answer_frame-answered.ensures.changed ∙ c.in_default.is);
      reply = search rules;
    }

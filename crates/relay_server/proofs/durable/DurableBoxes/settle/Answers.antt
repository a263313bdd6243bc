use Rattle.std.proofs.Common.{List, length, subst, sym, ◌≡◌, ◌∙◌}
use Rattle.std.specs.Prelude.{OnOk}
use Rattle.std.proofs.lemmas.List.{with_items_is}
use Rattle.slot_store.specs.Store.{SlotStore}
use Rattle.dr_disk.specs.Spans.{Span}
use Rattle.relay_server.specs.Durable.{ServerNow}
use Rattle.relay_server.specs.Filling.{IsFilling}
use Rattle.relay_server.specs.Looking.{HasSettled}
use Rattle.relay_server.proofs.Settled.{settled_then}
use Rattle.relay_server.proofs.durable.DurableBoxes.settle.Goals as goal

pub returns : goal.returns
returns g c =
    let start = g.D.Disk.state c.args.disk.now in
    let now = g.D.Disk.state c.fill_areas.new.disk in
    let fills = c.fill_areas.ensures.fills in
    let same : length c.fill_areas.new.stores ≡ c.self.inside.stores.len = c.fill_areas.auto.stores ∙ c.deref_mut.ensures.len in
    record {
      settled = subst (λ (xs : List SlotStore). OnOk c.fill_areas.result (HasSettled c.args.self.now (record { boxes = c.self.inside.relay; stores = xs }) start now))
          (sym (with_items_is c.self.inside.stores c.fill_areas.new.stores same))
          (settled_then c.args.self.now c.self.inside.relay c.self.inside.stores.items c.fill_areas.new.stores start now c.self.view_is c.fill_areas.result fills.filled fills.quiet);
      any_moment = subst (λ (server : ServerNow). Span start now (IsFilling server.boxes start)) c.self.view_is fills.any_moment;
      fault = fills.fault;
    }

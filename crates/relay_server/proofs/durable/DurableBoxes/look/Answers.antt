use Rattle.std.proofs.Common.{arith, List, subst, length, refl}
use Rattle.std.proofs.lemmas.Grind.{common_steps}
use Rattle.relay_core.specs.Boxes.{Box}
use Rattle.slot_store.specs.Store.{SlotStore}
use Rattle.relay_server.specs.Filling.{AreLoaded, AreUnloaded}
use Rattle.relay_server.proofs.OpenedAreas.{unlooked, unopened}
use Rattle.relay_server.proofs.OpenedBoxes.{looked_then, unloaded}
use Rattle.relay_server.proofs.durable.DurableBoxes.look.Goals as goal

pub returns-in_default : goal.returns-in_default
returns-in_default g c = record { looked = tt; unopened = λ call. refl; looks = unlooked (length c.args.specs.now) (g.D.Disk.state c.args.disk.now) }

pub returns-in_default-record_memory : goal.returns-in_default-record_memory
returns-in_default-record_memory g c = record { looked = tt; unopened = λ call. refl; looks = unlooked (length c.args.specs.now) (g.D.Disk.state c.args.disk.now) }

pub returns-in-Err : goal.returns-in-Err
returns-in-Err g c = record {
  looked = tt;
  unopened = unopened c.args.specs.now (g.D.Disk.state c.args.disk.now) (g.D.Disk.state c.open_areas.new.disk) c.in-Err.error
      c.in-Err.ensures.refused;
  looks = c.open_areas.ensures.looks;
}

pub returns-in-Err-load_boxes : goal.returns-in-Err-load_boxes
returns-in-Err-load_boxes g c = record {
  looked = tt;
  unopened = unloaded c.args.specs.now (g.D.Disk.state c.args.disk.now) (g.D.Disk.state c.open_areas.new.disk) c.in-Ok-open_areas.stores.items
      c.in-Ok-open_areas.ensures.opened c.in-Err-load_boxes.error
      (subst (λ (bs : List Box). AreUnloaded bs c.in-Ok-open_areas.stores.items c.in-Err-load_boxes.error) c.in-Ok.ensures
      (subst (λ (xs : List SlotStore). AreUnloaded c.in-Ok.relay xs c.in-Err-load_boxes.error) c.deref.ensures.value c.in-Err-load_boxes.ensures.other));
  looks = c.open_areas.ensures.looks;
}

pub returns : goal.returns
returns g c =
    let loaded = subst (λ (bs : List Box). AreLoaded (length bs) bs c.load_boxes.new.relay c.in-Ok-open_areas.stores.items) c.in-Ok.ensures
    (subst (λ (xs : List SlotStore). AreLoaded (length c.in-Ok.relay) c.in-Ok.relay c.load_boxes.new.relay xs) c.deref.ensures.value c.in-Ok-load_boxes.ensures.loaded) in
    record {
      looked = looked_then c.args.specs.now (g.D.Disk.state c.args.disk.now) (g.D.Disk.state c.open_areas.new.disk) c.in-Ok-open_areas.stores.items
          c.in-Ok-open_areas.ensures.opened c.load_boxes.new.relay loaded c.requires;
      unopened = tt;
      looks = c.open_areas.ensures.looks;
    }

pub load_boxes-requires-clause-few : goal.load_boxes-requires-clause-few
load_boxes-requires-clause-few g c = grind (arith, common_steps)

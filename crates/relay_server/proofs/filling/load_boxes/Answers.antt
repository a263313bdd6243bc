use Rattle.std.proofs.Common.{◌≡◌, ◌<◌, Some, ap, arith, length, sym, ◌∙◌}
use Rattle.std.specs.Prelude.{slice_get}
use Rattle.std.proofs.lemmas.Option.{slice_get-get_or}
use Rattle.relay_core.specs.declared.loading.Loaded.TheVariants.{OtherKeys, OtherName}
use Rattle.slot_store.specs.Store.{SlotStore}
use Rattle.relay_server.proofs.LoadedBoxes.{loaded_on, none_loaded, others_first}
use Rattle.relay_server.proofs.filling.load_boxes.Goals as goal

pub boxes-init : goal.boxes-init
boxes-init c = none_loaded c.args.relay.now c.args.stores.now

pub returns-in-OtherName-clause-other : goal.returns-in-OtherName-clause-other
returns-in-OtherName-clause-other c =
    let store = c.index-stores-k.result in
    let inside : c.boxes.k < length c.args.stores.now = omega arith in
    let here : slice_get c.args.stores.now c.boxes.k ≡ Some store = slice_get-get_or c.args.stores.now c.boxes.k store inside ∙ ap (λ (s : SlotStore). Some s) (sym c.index-stores-k.is) in
    others_first OtherName c.boxes.k c.args.relay.now c.boxes.relay c.args.stores.now store c.boxes.invariant (omega arith) here c.in-OtherName.ensures.so

pub returns-in-OtherKeys-clause-other : goal.returns-in-OtherKeys-clause-other
returns-in-OtherKeys-clause-other c =
    let store = c.index-stores-k.result in
    let inside : c.boxes.k < length c.args.stores.now = omega arith in
    let here : slice_get c.args.stores.now c.boxes.k ≡ Some store = slice_get-get_or c.args.stores.now c.boxes.k store inside ∙ ap (λ (s : SlotStore). Some s) (sym c.index-stores-k.is) in
    others_first OtherKeys c.boxes.k c.args.relay.now c.boxes.relay c.args.stores.now store c.boxes.invariant (omega arith) here c.in-OtherKeys.ensures.so

pub boxes-preserved : goal.boxes-preserved
boxes-preserved c =
    let store = c.index-stores-k.result in
    let inside : c.boxes.k < length c.args.stores.now = omega arith in
    let here : slice_get c.args.stores.now c.boxes.k ≡ Some store = slice_get-get_or c.args.stores.now c.boxes.k store inside ∙ ap (λ (s : SlotStore). Some s) (sym c.index-stores-k.is) in
    loaded_on c.boxes.k c.args.relay.now c.boxes.relay c.load_box.new.relay c.args.stores.now store c.boxes.invariant here c.in-Taken.ensures.so

use Rattle.std.proofs.Common.{◌≡◌, ℕ, ◌<◌, List, Bool, true, false, length, get_or, sym, ap, ◌∙◌, arith}
use Rattle.std.specs.Prelude.{not}
use Rattle.std.proofs.lemmas.List.{get_or_default, get_or_read}
use Rattle.std.proofs.lemmas.List.Filters.{FiltersInPlace-more_no, FiltersInPlace-more_swap}
use Rattle.std.proofs.lemmas.List.Sorted.{All-permutation, IsPermutation-trans}
use Rattle.boxes.specs.Items.{Item, is_item_of}
use Rattle.boxes.specs.Rooms.{item_in, no_item}
use Rattle.boxes.proofs.leaving.keep_others.Goals as goal
use Rattle.boxes.proofs.leaving.keep_others.Goals.{then-stays, else-stays}

pub offset_bounds-rooms-order : goal.offset_bounds-rooms-order
offset_bounds-rooms-order g c =
    let lt = All-permutation (λ (number : ℕ). number < length c.args.rooms.now) c.args.order.now c.held.order c.held.invariant.same c.requires.below c.held.i 0 (omega arith) in
    omega arith

pub bounds-rooms-order : goal.bounds-rooms-order
bounds-rooms-order g c =
    All-permutation (λ (number : ℕ). number < length c.args.rooms.now) c.args.order.now c.held.order c.held.invariant.same c.requires.below c.held.i 0 (omega arith)

-- the item that was asked is the one in the room of that number
asked : (rooms : List Item) (id number : ℕ) (item : Item) (t b : Bool) → number < length rooms → item ≡ get_or rooms number item → t ≡ is_item_of id item
    → t ≡ b → not (is_item_of id (item_in rooms number)) ≡ not b
asked rooms id number item t b lt is told said =
    ap (λ (i : Item). not (is_item_of id i)) (sym (get_or_read rooms number item lt is no_item)) ∙ ap (λ u. not u) (sym told ∙ said)

pub held-preserved : goal.held-preserved
held-preserved g c =
    let order = c.held.order in
    let number = get_or order c.held.i 0 in
    let item = c.index-rooms-order.result in
    let within : c.held.i < length order = omega arith in
    let inside : number < length c.args.rooms.now =
    All-permutation (λ (number : ℕ). number < length c.args.rooms.now) c.args.order.now order c.held.invariant.same c.requires.below c.held.i 0 within in
    elim c.if-stays.branch [
      | then-stays w ↦
          let stays = asked c.args.rooms.now c.args.id number item c.is_item_of-stays.result false inside c.index-rooms-order.is c.is_item_of-stays.ensures w.if-stays.true in
          rw (w.order-is, w.kept-is) (record {
            filters = FiltersInPlace-more_swap c.held.invariant.filters within stays (get_or_default order c.held.i 0 number within) w.swap.ensures.by_index;
            same = IsPermutation-trans c.args.order.now order w.swap.new.self c.held.invariant.same w.swap.ensures.permutation;
          })
      | else-stays w ↦
          let goes = asked c.args.rooms.now c.args.id number item c.is_item_of-stays.result true inside c.index-rooms-order.is c.is_item_of-stays.ensures w.if-stays.false in
          rw (w.order-is, w.kept-is) (record {
            filters = FiltersInPlace-more_no c.held.invariant.filters within goes (get_or_default order c.held.i 0 number within);
            same = c.held.invariant.same;
          })
    ]

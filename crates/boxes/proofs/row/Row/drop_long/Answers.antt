use Rattle.std.proofs.Common.{◌≡◌, ◌≢◌, ℕ, ◌*◌, ◌<◌, ◌≤◌, All, List, Vec, filter, length, subst, sym, take, ap, arith}
use Rattle.std.specs.Prelude.{Result, not}
use Rattle.std.specs.List.Sorted.{IsPermutation}
use Rattle.std.specs.Vec.{with_items}
use Rattle.std.proofs.lemmas.List.{with_items_is}
use Rattle.std.proofs.lemmas.Nat.{mul-le}
use Rattle.boxes.specs.Changes.{DropsAll}
use Rattle.boxes.specs.Items.{Item, is_item_of}
use Rattle.boxes.specs.Rooms.{AreRooms, item_in, standing}
use Rattle.boxes.specs.declared.errors.NoLong.{NoLong}
use Rattle.boxes.proofs.Reordered.{none_went, reordered, some_went}
use Rattle.boxes.proofs.Rooms.{length-order, order_below}
use Rattle.boxes.proofs.row.Row.drop_long.Goals as goal

-- what fits many times fits once
one_fits : (many size bound : ℕ) → 1 ≤ many → many * size < bound → size < bound
one_fits many size bound some fits = omega (arith, mul-le 1 size many size some (omega arith), fits)

below : (rooms : List Item) (order lent : List ℕ) (seen : List Item) → lent ≡ order → seen ≡ rooms
    → All (λ number. number < length rooms) order → All (λ number. number < length seen) lent
below rooms order lent seen same is each =
    subst (λ (list : List ℕ). All (λ number. number < length seen) list) (sym same)
    (subst (λ (list : List Item). All (λ number. number < length list) order) (sym is) each)

pub keep_others-kept-requires : goal.keep_others-kept-requires
keep_others-kept-requires g c =
    let inside = c.self.inside in (
      one_fits inside.rooms.cap _ _ (omega (arith, c.if-self-eq0.false, c.self.invariant.first, inside.rooms.ok.0)) c.self.ranges.0.1.0,
      (
        omega (arith, length-order c.self.invariant, c.self.invariant.first, ap length c.as_mut_slice.ensures.value),
        below inside.rooms.items inside.order.items c.as_mut_slice.result.now c.as_slice.result.now c.as_mut_slice.ensures.value c.as_slice.ensures.value
            (order_below c.self.invariant),
      ),
    )

-- the items of an order whose slice was changed
back_items : {Z : Type 0} (order : Vec ℕ Z) (lent back : List ℕ) → lent ≡ order.items → length back ≡ length lent → (with_items order back).items ≡ back
back_items order lent back is same = with_items_is order back (omega (arith, ap length is, order.ok.0))

moved_from : (order lent back : List ℕ) → lent ≡ order → IsPermutation lent back → IsPermutation order back
moved_from order lent back is moved = subst (λ (list : List ℕ). IsPermutation list back) is moved

front_of : (rooms seen : List Item) (order lent back : List ℕ) (id held kept : ℕ) → lent ≡ order → seen ≡ rooms
    → take kept back ≡ filter (λ number. not (is_item_of id (item_in seen number))) (take held lent)
    → take kept back ≡ filter (λ number. not (is_item_of id (item_in rooms number))) (take held order)
front_of rooms seen order lent back id held kept same is front =
    subst (λ (list : List ℕ). take kept back ≡ filter (λ number. not (is_item_of id (item_in rooms number))) (take held list)) same
    (subst (λ (list : List Item). take kept back ≡ filter (λ number. not (is_item_of id (item_in list number))) (take held lent)) is front)

module _ {limit room : ℕ} {rooms : List Item} {held : ℕ} {Z : Type 0} (order : Vec ℕ Z) (is : AreRooms limit room rooms held order.items)
    (lent back : List ℕ) (value : lent ≡ order.items) (same : length back ≡ length lent) (moved : IsPermutation lent back) (kept : ℕ) (few : kept ≤ held) where
  rooms_then : AreRooms limit room rooms kept (with_items order back).items
  rooms_then =
      subst (λ (list : List ℕ). AreRooms limit room rooms kept list) (sym (back_items order lent back value same))
      (reordered is back kept (moved_from order.items lent back value moved) few)

  -- what goes of a list that the rooms show
  module _ (seen : List Item) (shown : seen ≡ rooms) (id : ℕ) (list : List Item) (view : standing rooms held order.items ≡ list)
      (front : take kept back ≡ filter (λ number. not (is_item_of id (item_in seen number))) (take held lent)) where
    told : (r : Result (Unit {0}) NoLong) → DropsAll (is_item_of id) (standing rooms held order.items) (standing rooms kept back) r
        → DropsAll (is_item_of id) list (standing rooms kept (with_items order back).items) r
    told r drops =
        subst (λ (items : List ℕ). DropsAll (is_item_of id) list (standing rooms kept items) r) (sym (back_items order lent back value same))
        (subst (λ (old : List Item). DropsAll (is_item_of id) old (standing rooms kept back) r) view drops)

    none : kept ≡ held → DropsAll (is_item_of id) list (standing rooms kept (with_items order back).items) (Result.Err (record {}))
    none all =
        told _ (none_went is (is_item_of id) back kept (moved_from order.items lent back value moved) few
        (front_of rooms seen order.items lent back id held kept value shown front) all)

    some : kept ≢ held → DropsAll (is_item_of id) list (standing rooms kept (with_items order back).items) (Result.Ok tt)
    some other =
        told _ (some_went is (is_item_of id) back kept (moved_from order.items lent back value moved) few
        (front_of rooms seen order.items lent back id held kept value shown front) other)

pub invariant_of-self : goal.invariant_of-self
invariant_of-self g c =
    rooms_then c.self.inside.order c.self.invariant c.as_mut_slice.result.now c.keep_others-kept.new.order c.as_mut_slice.ensures.value
    c.keep_others-kept.auto.order c.keep_others-kept.ensures.same c.self.inside.held (omega arith)

pub invariant_of-self-2 : goal.invariant_of-self-2
invariant_of-self-2 g c =
    rooms_then c.self.inside.order c.self.invariant c.as_mut_slice.result.now c.keep_others-kept.new.order c.as_mut_slice.ensures.value
    c.keep_others-kept.auto.order c.keep_others-kept.ensures.same c.keep_others-kept.result c.keep_others-kept.ensures.fewer

pub returns-then-kept-self : goal.returns-then-kept-self
returns-then-kept-self g c =
    let kept = c.keep_others-kept in
    let all : kept.result ≡ c.self.inside.held = omega arith in
    subst (λ n. DropsAll (is_item_of c.args.id) c.args.self.now (standing c.self.inside.rooms.items n (with_items c.self.inside.order kept.new.order).items) (Result.Err (record {}))) all
    (none c.self.inside.order c.self.invariant c.as_mut_slice.result.now kept.new.order c.as_mut_slice.ensures.value
    kept.auto.order kept.ensures.same kept.result kept.ensures.fewer c.as_slice.result.now c.as_slice.ensures.value c.args.id c.args.self.now c.self.view_is
    kept.ensures.kept all)

pub returns : goal.returns
returns g c =
    let kept = c.keep_others-kept in
    some c.self.inside.order c.self.invariant c.as_mut_slice.result.now kept.new.order c.as_mut_slice.ensures.value
    kept.auto.order kept.ensures.same kept.result kept.ensures.fewer c.as_slice.result.now c.as_slice.ensures.value c.args.id c.args.self.now c.self.view_is
    kept.ensures.kept c.if-kept-self.false

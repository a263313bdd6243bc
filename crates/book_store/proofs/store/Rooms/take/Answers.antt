use Rattle.std.proofs.Common.{◌≡◌, ◌-◌, false, replicate, subst, arith}
use Rattle.paged_records.specs.Bounded.{Bounds}
use Rattle.paged_records.specs.Memory.{HasPlanRoom}
use Rattle.book_store.specs.declared.layout.TheConstants.{BOOK_ROWS, BOOK_TABLE}
use Rattle.book_store.proofs.store.Rooms.take.Goals as goal

pub invariant_of-result : goal.invariant_of-result
invariant_of-result c =
    let clear : c.in_ok-vec.field-0.items ≡ replicate BOOK_ROWS false = c.in_ok-vec.ensures.items_if_clones_equal (λ y is. is) in
    let zeros : c.in_ok-vec-2.field-0.items ≡ replicate (BOOK_TABLE - 1) 0 = c.in_ok-vec-2.ensures.items_if_clones_equal (λ y is. is) in record {
      clear = clear;
      rooms = (
        subst (λ (b : Bounds). HasPlanRoom b c.in_ok-take_draft.field-0) c.row_bounds.ensures c.in_ok-take_draft.ensures.room,
        omega (arith, c.in_ok-with_capacity.ensures.capacity),
      );
      gathered = omega (arith, c.in_ok-with_capacity-2.ensures.capacity);
      zero = zeros;
    }

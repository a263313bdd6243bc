use Rattle.std.proofs.Common.{arith}
use Rattle.book_store.proofs.scratch.Scratch.take.Goals as goal

pub returns : goal.returns
returns c = record {
  first_long = omega (arith, c.in_ok-vec.ensures.len, c.in_ok-vec.field-0.ok.0);
  second_long = omega (arith, c.in_ok-vec-2.ensures.len, c.in_ok-vec-2.field-0.ok.0);
  room_long = omega (arith, c.in_ok-vec-3.ensures.len, c.in_ok-vec-3.field-0.ok.0);
  marks = c.in_ok-vec-4.ensures.items_if_clones_equal (λ y is. is);
}

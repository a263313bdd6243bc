-- the numbers so far are taken down
use Rattle.std.proofs.Common.{◌≡◌, ◌≤◌, ◌+◌, ◌++◌, length, take, vec_capacity}
use Rattle.book_store.specs.Rows.{shifted}
use Rattle.book_store.proofs.record.append_shifted.Given as goal

abbrev pub invariant-numbers : goal.invariant-numbers
invariant-numbers l = record {
  shifted : l.out.items ≡ l.fn.out.items ++ shifted l.row (take l.i l.numbers);
  long : length l.out.items ≡ length l.fn.out.items + l.i;
  room : vec_capacity l.fn.out ≤ vec_capacity l.out;
}

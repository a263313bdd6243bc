-- so many rows have none yet
use Rattle.std.proofs.Common.{◌≡◌, ◌≤◌, None, replicate, vec_capacity}
use Rattle.book_store.proofs.rooms.fill_readers.Given as goal

abbrev pub invariant-rows : goal.invariant-rows
invariant-rows g l = record {
  items : l.readers.items ≡ replicate l.counter None;
  room : vec_capacity l.fn.readers ≤ vec_capacity l.readers;
}

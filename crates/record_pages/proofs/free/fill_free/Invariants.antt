use Rattle.std.proofs.Common.{◌≡◌, ◌-◌, ◌≤◌, length, vec_capacity}
use Rattle.record_pages.specs.Plans.{free_from}
use Rattle.record_pages.proofs.free.fill_free.Given as goal

abbrev pub invariant-numbers : goal.invariant-numbers
invariant-numbers l = record {
  filled : l.free.items ≡ free_from l.numbers (l.number-counter - l.least) l.least;
  few : length l.free.items ≤ l.number-counter - l.least;
  room : vec_capacity l.fn.free ≤ vec_capacity l.free;
}

use Rattle.std.proofs.Common.{◌≡◌, ◌+◌, ◌-◌, ◌*◌, ◌≤◌, [], drop, vec_capacity}
use Rattle.record_pages.specs.Tables.{entry_fault, numbers_in, record_names}
use Rattle.record_pages.proofs.judging.read_numbers.Given as goal

abbrev pub invariant-entries : goal.invariant-entries
invariant-entries l = record {
  read : l.numbers.items ≡ numbers_in l.at (drop 5 l.body);
  fault : entry_fault l.least l.pages [] 6 (record_names l.body) ≡ entry_fault l.least l.pages l.numbers.items (6 + 2 * l.at) (numbers_in (l.count - l.at) (drop (5 + 2 * l.at) l.body));
  room : l.count ≤ vec_capacity l.numbers;
  capacity : vec_capacity l.fn.numbers ≤ vec_capacity l.numbers;
}

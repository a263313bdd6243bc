use Rattle.std.proofs.Common.{◌≡◌, length, Ok}
use Rattle.grammar.specs.Reader.{items}
use Rattle.session_record.specs.Awaiting.{last_waiting, waiting_item}
use Rattle.session_record.proofs.awaiting.read_each.Given as goal

abbrev pub invariant-positions : goal.invariant-positions
invariant-positions l = record {
  read : items (waiting_item l.heading.side l.heading.epoch l.sent) l.counter l.initial.cursor.at l.initial.cursor.rest ≡ Ok (record { value = l.list; at = l.cursor.at; rest = l.cursor.rest });
  last : l.last ≡ last_waiting l.list;
  long : length l.list ≡ l.counter;
}

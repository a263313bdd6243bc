use Rattle.std.proofs.Common.{◌≡◌, length, Ok}
use Rattle.grammar.specs.Reader.{items}
use Rattle.session_record.specs.Lists.{kept_item, last_position}
use Rattle.session_record.proofs.kept.read_each.Given as goal

abbrev pub invariant-keys : goal.invariant-keys
invariant-keys l = record {
  read : items (kept_item l.heading.side l.heading.epoch l.reach) l.counter l.initial.cursor.at l.initial.cursor.rest ≡ Ok (record { value = l.list.items; at = l.cursor.at; rest = l.cursor.rest });
  last : l.last ≡ last_position l.list.items;
  long : length l.list.items ≡ l.counter;
}

use Rattle.std.proofs.Common.{◌≡◌, length, Ok}
use Rattle.grammar.specs.Reader.{items}
use Rattle.session_record.specs.Lists.{entry_field}
use Rattle.session_record.proofs.inbox.read_entries.Given as goal

abbrev pub invariant-entries : goal.invariant-entries
invariant-entries l = record {
  read : items (λ _. entry_field l.heading.version l.heading.side l.heading.epoch) l.counter l.initial.cursor.at l.initial.cursor.rest ≡ Ok (record { value = l.inbox; at = l.cursor.at; rest = l.cursor.rest });
  long : length l.inbox ≡ l.counter;
}

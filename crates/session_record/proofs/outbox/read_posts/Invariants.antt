use Rattle.std.proofs.Common.{◌≡◌, length, Ok}
use Rattle.grammar.specs.Reader.{items}
use Rattle.session_record.specs.Lists.{post_field}
use Rattle.session_record.proofs.outbox.read_posts.Given as goal

abbrev pub invariant-posts : goal.invariant-posts
invariant-posts g l = record {
  read : items (λ _. post_field g.K.Kem.mechanism l.heading.version l.heading.session l.heading.side l.heading.epoch) l.counter l.initial.cursor.at l.initial.cursor.rest ≡ Ok (record { value = l.outbox; at = l.cursor.at; rest = l.cursor.rest });
  long : length l.outbox ≡ l.counter;
}

use Rattle.std.proofs.Common.{◌≡◌, ◌+◌, ◌∷◌, ◌++◌, [], List, length, ap, arith, length-append, ℕ, sym, ◌∙◌}
use Rattle.std.proofs.lemmas.List.{length_push}
use Rattle.boxes.specs.Entries.{entry_with}
use Rattle.grammar.specs.Printer.{print_items}
use Rattle.grammar.proofs.Printing.{print_items-push}
use Rattle.dr_base.proofs.Putting.{then_puts}
use Rattle.session_record.specs.Lists.{entry_text}
use Rattle.session_record.specs.Versions.{newest}
use Rattle.session_record.proofs.inbox.put_more.Goals as goal

pub put_entries-at_last-requires-clause-room : goal.put_entries-at_last-requires-clause-room
put_entries-at_last-requires-clause-room c =
    let entry = entry_with c.args.position c.args.kind c.args.text.now in
    let size = ap (λ (l : List ℕ). length l) (print_items-push (entry_text newest) c.args.inbox.now entry) in
    omega (arith, size, length-append (print_items (entry_text newest) c.args.inbox.now) (entry_text newest entry), c.requires.room, c.put_u8-at_first.ensures.next_is)

pub put_entry-requires-clause-room : goal.put_entry-requires-clause-room
put_entry-requires-clause-room c =
    let entry = entry_with c.args.position c.args.kind c.args.text.now in
    let size = ap (λ (l : List ℕ). length l) (print_items-push (entry_text newest) c.args.inbox.now entry) in
    omega (arith, size, length-append (print_items (entry_text newest) c.args.inbox.now) (entry_text newest entry), c.requires.room, c.put_u8-at_first.ensures.next_is, c.put_entries-at_last.ensures.next_is)

pub returns : goal.returns
returns c =
    let entry = entry_with c.args.position c.args.kind c.args.text.now in
    let count : c.len.result + 1 ≡ length (c.args.inbox.now ++ entry_with c.args.position c.args.kind c.args.text.now ∷ []) =
    ap (λ n. n + 1) c.len.ensures.value ∙ sym (length_push c.args.inbox.now entry) in
    rw (print_items-push (entry_text newest) c.args.inbox.now entry)
    (then_puts (rw count at c.put_u8-at_first.ensures) (then_puts c.put_entries-at_last.ensures c.put_entry.ensures))

use Rattle.std.proofs.Common.{◌≡◌, ◌+◌, ◌∷◌, ◌++◌, [], List, ℕ, ap, arith, length, length-append}
use Rattle.std.specs.Int.{w8}
use Rattle.boxes.specs.Entries.{entry_with}
use Rattle.grammar.specs.Printer.{print_counted, print_items}
use Rattle.grammar.proofs.Printing.{print_items-push}
use Rattle.session_record.specs.declared.limits.TheConstants.{ENTRY_SIZE}
use Rattle.session_record.specs.Lists.{entry_text}
use Rattle.session_record.specs.Versions.{newest}
use Rattle.session_record.proofs.lengths.inbox_len.Goals as goal

pub returns-in-Received : goal.returns-in-Received
returns-in-Received c =
    let inbox = c.args.inbox.now in
    let entry = entry_with c.in-Received.position c.in-Received.kind c.in-Received.text.now in
    let size = ap (λ (l : List ℕ). length l) (print_items-push (entry_text newest) inbox entry) in
    let long : 1 + c.entries_len.result + ENTRY_SIZE + length c.in-Received.text.now ≡ length (print_counted w8 (entry_text newest) (inbox ++ entry ∷ [])) =
    omega (arith, c.entries_len.ensures.len, size, length-append (print_items (entry_text newest) inbox) (entry_text newest entry)) in
    rw c.in-Received.is long

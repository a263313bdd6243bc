-- the texts so far were counted
use Rattle.std.proofs.Common.{◌≡◌, ◌≤◌, ◌*◌, take, length}
use Rattle.grammar.specs.Printer.{print_items}
use Rattle.session_record.specs.declared.limits.TheConstants.{ENTRY_LIMIT}
use Rattle.session_record.specs.Changes.{other_text}
use Rattle.session_record.proofs.others.others_len.Given as goal

abbrev pub invariant-entries : goal.invariant-entries
invariant-entries l = (l.sum ≡ length (print_items (other_text l.id) (take l.i l.inbox))) × (l.sum ≤ ENTRY_LIMIT * l.i)

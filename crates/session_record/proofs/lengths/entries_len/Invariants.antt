-- the texts so far were counted
use Rattle.std.proofs.Common.{◌≡◌, ◌≤◌, ◌*◌, take, drop, length}
use Rattle.grammar.specs.Printer.{print_items}
use Rattle.session_record.specs.declared.limits.TheConstants.{ENTRY_LIMIT}
use Rattle.session_record.specs.Lists.{entry_text}
use Rattle.session_record.specs.Versions.{newest}
use Rattle.session_record.proofs.lengths.entries_len.Given as goal

abbrev pub invariant-entries : goal.invariant-entries
invariant-entries l = (l.sum ≡ length (print_items (entry_text newest) (take l.i (drop l.from l.inbox)))) × (l.sum ≤ ENTRY_LIMIT * l.i)

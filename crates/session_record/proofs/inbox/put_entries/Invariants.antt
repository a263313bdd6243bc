-- the texts so far were put
use Rattle.std.proofs.Common.{take, drop}
use Rattle.dr_base.specs.Buffer.{Puts}
use Rattle.grammar.specs.Printer.{print_items}
use Rattle.session_record.specs.Lists.{entry_text}
use Rattle.session_record.specs.Versions.{newest}
use Rattle.session_record.proofs.inbox.put_entries.Given as goal

abbrev pub invariant-entries : goal.invariant-entries
invariant-entries l = Puts l.initial.out l.out l.at (print_items (entry_text newest) (take l.i (drop l.from l.inbox))) l.next

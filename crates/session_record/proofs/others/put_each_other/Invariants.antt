-- the texts so far were put
use Rattle.std.proofs.Common.{take}
use Rattle.dr_base.specs.Buffer.{Puts}
use Rattle.grammar.specs.Printer.{print_items}
use Rattle.session_record.specs.Changes.{other_text}
use Rattle.session_record.proofs.others.put_each_other.Given as goal

abbrev pub invariant-entries : goal.invariant-entries
invariant-entries l = Puts l.initial.out l.out l.at (print_items (other_text l.id) (take l.i l.inbox)) l.next

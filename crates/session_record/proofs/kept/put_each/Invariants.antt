-- the keys so far were put
use Rattle.std.proofs.Common.{take}
use Rattle.dr_base.specs.Buffer.{Puts}
use Rattle.grammar.specs.Printer.{print_items}
use Rattle.session_record.specs.Lists.{kept_text}
use Rattle.session_record.proofs.kept.put_each.Given as goal

abbrev pub invariant-keys : goal.invariant-keys
invariant-keys l = Puts l.initial.out l.out l.at (print_items kept_text (take l.i l.keys)) l.next

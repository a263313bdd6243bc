-- the positions so far were put
use Rattle.std.proofs.Common.{take}
use Rattle.bodies.specs.Receipts.{position_bytes}
use Rattle.dr_base.specs.Buffer.{Puts}
use Rattle.grammar.specs.Printer.{print_items}
use Rattle.session_record.proofs.awaiting.put_each.Given as goal

abbrev pub invariant-positions : goal.invariant-positions
invariant-positions l = Puts l.initial.out l.out l.at (print_items position_bytes (take l.i l.positions)) l.next

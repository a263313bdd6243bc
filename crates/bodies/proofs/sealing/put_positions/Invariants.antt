-- the positions so far were put
use Rattle.std.proofs.Common.{take}
use Rattle.dr_base.specs.Buffer.{Puts}
use Rattle.grammar.specs.Printer.{print_items}
use Rattle.bodies.specs.Receipts.{position_bytes}
use Rattle.bodies.proofs.sealing.put_positions.Given as goal

abbrev pub invariant-listed : goal.invariant-listed
invariant-listed l = Puts l.initial.out l.out l.at (print_items position_bytes (take l.i l.list)) l.next

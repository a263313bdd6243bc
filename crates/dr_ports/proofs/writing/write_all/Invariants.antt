use Rattle.std.proofs.Common.{length, ◌-◌, ◌≡◌, ◌≤◌, take}
use Rattle.dr_ports.specs.Ports.{appended}
use Rattle.dr_ports.proofs.writing.write_all.Given as goal

abbrev pub invariant-pieces : goal.invariant-pieces
invariant-pieces g l = record {
  within : l.done ≤ length l.bytes;
  content : (g.O.Sink.at l.out).taken ≡ appended (g.O.Sink.at l.initial.out).taken (take l.done l.bytes);
  quiet : (g.O.Sink.at l.out).faults ≡ (g.O.Sink.at l.initial.out).faults;
}

abbrev pub decreases-pieces : goal.decreases-pieces
decreases-pieces g l = length l.initial.bytes - l.done

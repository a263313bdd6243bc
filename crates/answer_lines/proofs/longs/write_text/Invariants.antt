use Rattle.std.proofs.Common.{length, ◌-◌, ◌≡◌, ◌≤◌, take}
use Rattle.std.specs.Prelude.{flat_map}
use Rattle.answer_lines.specs.Texts.{escaped}
use Rattle.dr_ports.specs.Ports.{appended}
use Rattle.answer_lines.proofs.longs.write_text.Given as goal

abbrev pub invariant-pieces : goal.invariant-pieces
invariant-pieces g l = record {
  within : l.done ≤ length l.text;
  written : (g.O.Sink.at l.out).taken ≡ appended (g.O.Sink.at l.initial.out).taken (flat_map escaped (take l.done l.text));
  quiet : (g.O.Sink.at l.out).faults ≡ (g.O.Sink.at l.initial.out).faults;
}

abbrev pub decreases-pieces : goal.decreases-pieces
decreases-pieces g l = length l.initial.text - l.done

use Rattle.std.proofs.Common.{length, ◌-◌, ◌≡◌, ◌≤◌, take}
use Rattle.dr_ports.specs.declared.pipe.Part.TheVariants.{Flow, Gate}
use Rattle.dr_ports.specs.Wires.{Took}
use Rattle.relay_pipe.proofs.pulling.send_all.Given as goal

abbrev pub invariant-pieces : goal.invariant-pieces
invariant-pieces g l = record {
  within : l.done ≤ length l.bytes;
  content : Took (take l.done l.bytes) (g.P.Pipe.port l.initial.pipe) (g.P.Pipe.port l.pipe);
  quiet : (g.P.Pipe.port l.pipe).faults Flow ≡ (g.P.Pipe.port l.initial.pipe).faults Flow;
  gate : (g.P.Pipe.port l.pipe).faults Gate ≡ (g.P.Pipe.port l.initial.pipe).faults Gate;
  same : g.P.Pipe.behind l.pipe ≡ g.P.Pipe.behind l.initial.pipe;
}

abbrev pub decreases-pieces : goal.decreases-pieces
decreases-pieces g l = length l.initial.bytes - l.done

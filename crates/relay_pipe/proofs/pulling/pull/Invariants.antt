use Rattle.std.proofs.Common.{◌≡◌, ◌-◌, length, ◌+◌, ◌<◌, ◌^◌}
use Rattle.relay_wire.specs.declared.limits.TheConstants.{FRAME_LIMIT}
use Rattle.dr_ports.specs.declared.pipe.Part.TheVariants.{Flow, Gate}
use Rattle.relay_pipe.specs.Pulling.{Pulled}
use Rattle.relay_pipe.proofs.pulling.pull.Given as goal

abbrev pub invariant-bytes : goal.invariant-bytes
invariant-bytes g l = record {
  pulled : Pulled l.fn.reader l.reader (g.P.Pipe.port l.fn.pipe) (g.P.Pipe.port l.pipe);
  ends : l.reader.place + FRAME_LIMIT < 2 ^ 64;
  quiet : (g.P.Pipe.port l.pipe).faults Flow ≡ (g.P.Pipe.port l.fn.pipe).faults Flow;
  gate : (g.P.Pipe.port l.pipe).faults Gate ≡ (g.P.Pipe.port l.fn.pipe).faults Gate;
  same : g.P.Pipe.behind l.pipe ≡ g.P.Pipe.behind l.fn.pipe;
}

abbrev pub decreases-bytes : goal.decreases-bytes
decreases-bytes g l = FRAME_LIMIT - length l.reader.bytes

use Rattle.std.proofs.Common.{◌≡◌, ◌≤◌, ◌*◌, length, []}
use Rattle.relay_core.specs.declared.limits.TheConstants.{EXCHANGE_LIMIT}
use Rattle.relay_wire.specs.declared.limits.TheConstants.{FRAME_LIMIT}
use Rattle.dr_ports.specs.declared.pipe.Part.TheVariants.{Flow, Gate}
use Rattle.dr_disk.specs.Spans.{IsQuiet}
use Rattle.relay_server.specs.Durable.{IsServerReady}
use Rattle.relay_server.specs.FrameByFrame.{AreAnswered}
use Rattle.relay_server.specs.Serving.{ServedSoFar}
use Rattle.relay_server.proofs.durable.DurableBoxes.serve.Given as goal

abbrev pub invariant-rounds : goal.invariant-rounds
invariant-rounds g l = record {
  so : ServedSoFar EXCHANGE_LIMIT l.fn.self l.self.boxes (g.P.Pipe.port l.fn.pipe) (g.P.Pipe.port l.pipe) (g.D.Disk.state l.fn.disk) (g.D.Disk.state l.disk) l.answered;
  answered : AreAnswered g.D.Disk.state g.P.Pipe.port l.fn.self.boxes l.fn.disk l.fn.pipe so.frames l.self.boxes l.disk l.pipe;
  ready : IsServerReady l.self (g.D.Disk.state l.disk);
  fresh : l.reader.bytes ≡ [];
  places : l.reader.place ≤ l.answered * FRAME_LIMIT;
  room : FRAME_LIMIT ≤ length l.out;
  flow : (g.P.Pipe.port l.pipe).faults Flow ≡ (g.P.Pipe.port l.fn.pipe).faults Flow;
  gate : (g.P.Pipe.port l.pipe).faults Gate ≡ (g.P.Pipe.port l.fn.pipe).faults Gate;
  quiet : IsQuiet (g.D.Disk.state l.fn.disk) (g.D.Disk.state l.disk);
}

-- the connections so far were served, and their lines written
use Rattle.relay_command.specs.InTurn.{CameInTurn}
use Rattle.relay_command.specs.Serving.{entry_standing}
use Rattle.relay_command.proofs.Rounds.{SoFar}
use Rattle.relay_command.proofs.serving.serve_all.Given as goal

abbrev pub invariant-connections : goal.invariant-connections
invariant-connections g l =
    SoFar
    (λ xs. CameInTurn g.A.Disk.state g.L.Pipe.port (entry_standing l.fn.server.boxes (g.L.Pipe.port l.fn.door)) l.fn.disk xs l.disk)
    (entry_standing l.fn.server.boxes (g.L.Pipe.port l.fn.door)) l.port l.i l.server (g.A.Disk.state l.fn.disk) (g.A.Disk.state l.disk) (g.L.Pipe.port l.fn.door) (g.L.Pipe.port l.door)
    (g.O.Sink.at l.fn.out) (g.O.Sink.at l.out)

use Rattle.std.proofs.Common.{Result, subst, sym, ◌∙◌}
use Rattle.relay_command.specs.declared.connecting.Connected.{Connected}
use Rattle.relay_command.specs.declared.connecting.Fault.{Fault}
use Rattle.relay_command.specs.Turns.{Turns}
use Rattle.relay_command.specs.InTurn.{WasServed}
use Rattle.relay_command.specs.Serving.{entry_standing}
use Rattle.relay_command.proofs.InTurn.{own_order}
use Rattle.relay_command.proofs.Turning.{turn_broken, turn_ended}
use Rattle.relay_command.proofs.connecting.serve_next.Goals as goal

pub returns-in-Ok-served : goal.returns-in-Ok-served
returns-in-Ok-served g c =
    turn_ended (WasServed g.A.Disk.state g.L.Pipe.port (entry_standing c.args.server.now.boxes (g.L.Pipe.port c.args.door.now)) c.args.disk.now c.serve-served.new.disk) c.args.server.now c.serve-served.new.self (g.A.Disk.state c.args.disk.now) (g.A.Disk.state c.serve-served.new.disk) (g.L.Pipe.port c.args.door.now) (g.L.Pipe.port c.accept.new.self)
    (g.L.Pipe.port c.serve-served.new.pipe) (g.L.Pipe.port c.shut.new.self) c.in-Ok.ensures.next c.in-Ok.ensures.flow (c.serve-served.ensures.counts.gate ∙ c.in-Ok.ensures.cause.passed)
    c.shut.ensures.told c.shut.ensures.flow c.shut.ensures.gate (g.met.L.Pipe.ahead c.serve-served.new.pipe) c.in-Ok-served.field-0 c.in-Ok-served.ensures.served
    (λ x same exchanges. own_order g.A.Disk.state g.L.Pipe.port c.args.disk.now c.serve-served.new.disk c.accept.new.self c.serve-served.new.pipe c.args.server.now c.serve-served.new.self _ c.in-Ok-served.ensures x (g.L.Pipe.port c.args.door.now) c.in-Ok.ensures.next same exchanges)
    c.in-Ok-served.ensures.counts.flow

pub returns-in-Err-served : goal.returns-in-Err-served
returns-in-Err-served g c =
    subst
    (λ (r : Result Connected Fault). Turns (WasServed g.A.Disk.state g.L.Pipe.port (entry_standing c.args.server.now.boxes (g.L.Pipe.port c.args.door.now)) c.args.disk.now c.serve-served.new.disk) c.args.server.now c.serve-served.new.self (g.A.Disk.state c.args.disk.now) (g.A.Disk.state c.serve-served.new.disk) (g.L.Pipe.port c.args.door.now) (g.L.Pipe.port c.shut.new.self) r)
    (sym c.broken.ensures)
    (turn_broken (WasServed g.A.Disk.state g.L.Pipe.port (entry_standing c.args.server.now.boxes (g.L.Pipe.port c.args.door.now)) c.args.disk.now c.serve-served.new.disk) c.args.server.now c.serve-served.new.self (g.A.Disk.state c.args.disk.now) (g.A.Disk.state c.serve-served.new.disk) (g.L.Pipe.port c.args.door.now) (g.L.Pipe.port c.accept.new.self)
    (g.L.Pipe.port c.serve-served.new.pipe) (g.L.Pipe.port c.shut.new.self) c.in-Ok.ensures.next c.in-Ok.ensures.flow (c.serve-served.ensures.counts.gate ∙ c.in-Ok.ensures.cause.passed)
    c.shut.ensures.told c.shut.ensures.flow c.shut.ensures.gate (g.met.L.Pipe.ahead c.serve-served.new.pipe) c.in-Err-served.fault c.in-Err-served.ensures.served
    (λ x same exchanges. own_order g.A.Disk.state g.L.Pipe.port c.args.disk.now c.serve-served.new.disk c.accept.new.self c.serve-served.new.pipe c.args.server.now c.serve-served.new.self _ c.in-Err-served.ensures x (g.L.Pipe.port c.args.door.now) c.in-Ok.ensures.next same exchanges)
    c.serve-served.ensures.counts.later)

use Rattle.std.proofs.Common.{List, [], ℕ, ◌+◌, ap, arith, subst, ◌∙◌}
use Rattle.dr_ports.specs.Ports.{appended}
use Rattle.dr_ports.specs.Writing.{TookBeginning}
use Rattle.endings.specs.Ends.{Ends}
use Rattle.endings.specs.declared.ending.Ending.{Ending}
use Rattle.relay_command.specs.InTurn.{CameInTurn, WasServed, left_alone, none_came}
use Rattle.relay_command.specs.Serving.{entry_standing}
use Rattle.relay_command.specs.Turns.{line_of}
use Rattle.relay_command.proofs.Begun.{none_yet, unwritten}
use Rattle.relay_command.proofs.InTurn.{one_in_turn}
use Rattle.relay_command.proofs.Rounds.{all_served, cut_then, faulty, here, one_more}
use Rattle.relay_command.proofs.serving.serve_all.Goals as goal

pub returns-in-Err-clause-runs : goal.returns-in-Err-clause-runs
returns-in-Err-clause-runs g c =
    unwritten (λ xs. CameInTurn g.A.Disk.state g.L.Pipe.port (entry_standing c.args.server.now.boxes (g.L.Pipe.port c.args.door.now)) c.args.disk.now xs c.args.disk.now) none_came c.args.port c.args.count c.args.server.now (g.A.Disk.state c.args.disk.now) (g.L.Pipe.port c.args.door.now) (g.O.Sink.at c.args.out.now) c.requires (g.O.Sink.at c.write_all.new.out)
    (subst (λ (l : List ℕ). TookBeginning (g.O.Sink.at c.args.out.now).taken (g.O.Sink.at c.write_all.new.out).taken l) (c.as_bytes.ensures ∙ c.port_line.ensures) c.in-Err.ensures.part)
    c.in-Err.ensures.cause.failed

pub connections-init : goal.connections-init
connections-init g c =
    none_yet (λ xs. CameInTurn g.A.Disk.state g.L.Pipe.port (entry_standing c.args.server.now.boxes (g.L.Pipe.port c.args.door.now)) c.args.disk.now xs c.args.disk.now) none_came c.args.port c.args.count c.args.server.now (g.A.Disk.state c.args.disk.now) (g.L.Pipe.port c.args.door.now) (g.O.Sink.at c.args.out.now) c.requires (g.O.Sink.at c.write_all.new.out)
    (c.in-Ok.ensures.whole ∙ ap (appended (g.O.Sink.at c.args.out.now).taken) (c.as_bytes.ensures ∙ c.port_line.ensures)) c.in-Ok.ensures.cause.passed

pub returns-in-Err-serve_next-clause-runs : goal.returns-in-Err-serve_next-clause-runs
returns-in-Err-serve_next-clause-runs g c =
    faulty (λ xs. CameInTurn g.A.Disk.state g.L.Pipe.port (entry_standing c.args.server.now.boxes (g.L.Pipe.port c.args.door.now)) c.args.disk.now xs c.connections.disk) _ c.args.port c.connections.i c.connections.server (g.A.Disk.state c.args.disk.now) (g.A.Disk.state c.connections.disk) (g.L.Pipe.port c.args.door.now) (g.L.Pipe.port c.connections.door)
    (g.O.Sink.at c.args.out.now) (g.O.Sink.at c.connections.out) c.connections.invariant
    (WasServed g.A.Disk.state g.L.Pipe.port (entry_standing c.connections.server.boxes (g.L.Pipe.port c.connections.door)) c.connections.disk c.serve_next.new.disk) (λ xs. CameInTurn g.A.Disk.state g.L.Pipe.port (entry_standing c.args.server.now.boxes (g.L.Pipe.port c.args.door.now)) c.args.disk.now xs c.serve_next.new.disk)
    (λ x came was. one_in_turn g.A.Disk.state g.L.Pipe.port (entry_standing c.args.server.now.boxes (g.L.Pipe.port c.args.door.now)) c.args.disk.now c.connections.disk c.serve_next.new.disk c.connections.invariant.xs x c.connections.server (g.L.Pipe.port c.connections.door) came
    (here (λ xs. CameInTurn g.A.Disk.state g.L.Pipe.port (entry_standing c.args.server.now.boxes (g.L.Pipe.port c.args.door.now)) c.args.disk.now xs c.connections.disk) _ c.args.port c.connections.i c.connections.server (g.A.Disk.state c.args.disk.now) (g.A.Disk.state c.connections.disk) (g.L.Pipe.port c.args.door.now) (g.L.Pipe.port c.connections.door)
    (g.O.Sink.at c.args.out.now) (g.O.Sink.at c.connections.out) c.connections.invariant) c.connections.invariant.ready was) c.serve_next.new.server
    (g.A.Disk.state c.serve_next.new.disk) (g.L.Pipe.port c.serve_next.new.door) (left_alone c.connections.invariant.xs c.connections.disk c.serve_next.new.disk) c.args.count (omega arith) c.in-Err-serve_next.fault c.in-Err-serve_next.ensures c.finish.result.code
    (g.O.Sink.at c.finish.new.out)
    (subst
    (λ (e : Ending). Ends e [] (g.O.Sink.at c.connections.out) (g.O.Sink.at c.finish.new.out) c.finish.result.code)
    c.ending_of.ensures c.finish.ensures.ends)

pub returns-in-Err-write_all-clause-runs : goal.returns-in-Err-write_all-clause-runs
returns-in-Err-write_all-clause-runs g c =
    cut_then (λ xs. CameInTurn g.A.Disk.state g.L.Pipe.port (entry_standing c.args.server.now.boxes (g.L.Pipe.port c.args.door.now)) c.args.disk.now xs c.connections.disk) _ c.args.port c.connections.i c.connections.server (g.A.Disk.state c.args.disk.now) (g.A.Disk.state c.connections.disk) (g.L.Pipe.port c.args.door.now) (g.L.Pipe.port c.connections.door)
    (g.O.Sink.at c.args.out.now) (g.O.Sink.at c.connections.out) c.connections.invariant
    (WasServed g.A.Disk.state g.L.Pipe.port (entry_standing c.connections.server.boxes (g.L.Pipe.port c.connections.door)) c.connections.disk c.serve_next.new.disk) (λ xs. CameInTurn g.A.Disk.state g.L.Pipe.port (entry_standing c.args.server.now.boxes (g.L.Pipe.port c.args.door.now)) c.args.disk.now xs c.serve_next.new.disk)
    (λ x came was. one_in_turn g.A.Disk.state g.L.Pipe.port (entry_standing c.args.server.now.boxes (g.L.Pipe.port c.args.door.now)) c.args.disk.now c.connections.disk c.serve_next.new.disk c.connections.invariant.xs x c.connections.server (g.L.Pipe.port c.connections.door) came
    (here (λ xs. CameInTurn g.A.Disk.state g.L.Pipe.port (entry_standing c.args.server.now.boxes (g.L.Pipe.port c.args.door.now)) c.args.disk.now xs c.connections.disk) _ c.args.port c.connections.i c.connections.server (g.A.Disk.state c.args.disk.now) (g.A.Disk.state c.connections.disk) (g.L.Pipe.port c.args.door.now) (g.L.Pipe.port c.connections.door)
    (g.O.Sink.at c.args.out.now) (g.O.Sink.at c.connections.out) c.connections.invariant) c.connections.invariant.ready was) c.serve_next.new.server
    (g.A.Disk.state c.serve_next.new.disk) (g.L.Pipe.port c.serve_next.new.door) c.in-Ok-serve_next.connected c.in-Ok-serve_next.ensures c.args.count (omega arith)
    (g.O.Sink.at c.write_all-in-connections.new.out)
    (subst (λ (l : List ℕ). TookBeginning (g.O.Sink.at c.connections.out).taken (g.O.Sink.at c.write_all-in-connections.new.out).taken l)
    (c.as_bytes-in-connections.ensures ∙ c.connection_line.ensures ∙ ap (λ (k : ℕ). line_of (k + 1) c.in-Ok-serve_next.connected) c.from.ensures) c.in-Err-write_all.ensures.part)
    c.in-Err-write_all.ensures.cause.failed

pub connections-preserved : goal.connections-preserved
connections-preserved g c =
    one_more (λ xs. CameInTurn g.A.Disk.state g.L.Pipe.port (entry_standing c.args.server.now.boxes (g.L.Pipe.port c.args.door.now)) c.args.disk.now xs c.connections.disk) _ c.args.port c.connections.i c.connections.server (g.A.Disk.state c.args.disk.now) (g.A.Disk.state c.connections.disk) (g.L.Pipe.port c.args.door.now) (g.L.Pipe.port c.connections.door)
    (g.O.Sink.at c.args.out.now) (g.O.Sink.at c.connections.out) c.connections.invariant
    (WasServed g.A.Disk.state g.L.Pipe.port (entry_standing c.connections.server.boxes (g.L.Pipe.port c.connections.door)) c.connections.disk c.serve_next.new.disk) (λ xs. CameInTurn g.A.Disk.state g.L.Pipe.port (entry_standing c.args.server.now.boxes (g.L.Pipe.port c.args.door.now)) c.args.disk.now xs c.serve_next.new.disk)
    (λ x came was. one_in_turn g.A.Disk.state g.L.Pipe.port (entry_standing c.args.server.now.boxes (g.L.Pipe.port c.args.door.now)) c.args.disk.now c.connections.disk c.serve_next.new.disk c.connections.invariant.xs x c.connections.server (g.L.Pipe.port c.connections.door) came
    (here (λ xs. CameInTurn g.A.Disk.state g.L.Pipe.port (entry_standing c.args.server.now.boxes (g.L.Pipe.port c.args.door.now)) c.args.disk.now xs c.connections.disk) _ c.args.port c.connections.i c.connections.server (g.A.Disk.state c.args.disk.now) (g.A.Disk.state c.connections.disk) (g.L.Pipe.port c.args.door.now) (g.L.Pipe.port c.connections.door)
    (g.O.Sink.at c.args.out.now) (g.O.Sink.at c.connections.out) c.connections.invariant) c.connections.invariant.ready was) c.serve_next.new.server
    (g.A.Disk.state c.serve_next.new.disk) (g.L.Pipe.port c.serve_next.new.door) c.in-Ok-serve_next.connected c.in-Ok-serve_next.ensures
    (g.O.Sink.at c.write_all-in-connections.new.out)
    (c.in-Ok-write_all.ensures.whole ∙ ap (appended (g.O.Sink.at c.connections.out).taken)
    (c.as_bytes-in-connections.ensures ∙ c.connection_line.ensures ∙ ap (λ (k : ℕ). line_of (k + 1) c.in-Ok-serve_next.connected) c.from.ensures))
    c.in-Ok-write_all.ensures.cause.passed

pub returns-clause-runs : goal.returns-clause-runs
returns-clause-runs g c =
    all_served (λ xs. CameInTurn g.A.Disk.state g.L.Pipe.port (entry_standing c.args.server.now.boxes (g.L.Pipe.port c.args.door.now)) c.args.disk.now xs c.connections.disk) _ c.args.port c.connections.i c.connections.server (g.A.Disk.state c.args.disk.now) (g.A.Disk.state c.connections.disk) (g.L.Pipe.port c.args.door.now) (g.L.Pipe.port c.connections.door)
    (g.O.Sink.at c.args.out.now) (g.O.Sink.at c.connections.out) c.connections.invariant c.args.count (omega arith)
    c.finish-2.result.code (g.O.Sink.at c.finish-2.new.out) c.finish-2.ensures.ends

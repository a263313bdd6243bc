use Rattle.std.proofs.Common.{[], refl}
use Rattle.endings.specs.declared.ending.Ending.TheVariants.{BadBox}
use Rattle.relay_command.specs.Relaying.{had_bad_box}
use Rattle.relay_command.proofs.Opened.{opened_runs, unheard_runs, unopened_runs, unsettled_runs}
use Rattle.relay_command.proofs.Relays.{disk_later, door_later, relay_quiet}
use Rattle.relay_command.proofs.relaying.relay.Goals as goal

pub returns-in-Err-clause-runs : goal.returns-in-Err-clause-runs
returns-in-Err-clause-runs g c = record {
  ending = BadBox c.in-Err.number;
  lines = [];
  came = had_bad_box c.in-Err.number c.in-Err.ensures.bad refl refl;
  ends = c.finish.ensures.ends;
}

pub returns-in-Err-look-clause-runs : goal.returns-in-Err-look-clause-runs
returns-in-Err-look-clause-runs g c =
    unopened_runs g.A.Disk.state g.L.Pipe.port _ c.args.port c.args.count c.in-Ok.ensures.names c.args.disk.now c.look.new.disk c.args.door.now (g.O.Sink.at c.args.out.now) (g.O.Sink.at c.finish-in-Err-look.new.out) c.finish-in-Err-look.result.code c.in-Err-look.ending c.in-Err-look.ensures c.finish-in-Err-look.ensures.ends

pub returns-in-Err-listen-clause-runs : goal.returns-in-Err-listen-clause-runs
returns-in-Err-listen-clause-runs g c =
    unheard_runs g.A.Disk.state g.L.Pipe.port _ c.args.port c.args.count c.in-Ok.ensures.names c.args.disk.now c.look.new.disk c.args.door.now (g.O.Sink.at c.args.out.now) (g.O.Sink.at c.finish-in-Err-listen.new.out) c.finish-in-Err-listen.result.code c.in-Ok-look.looked c.in-Ok-look.ensures c.listen.new.self
    (record { told = c.in-Err-listen.ensures.err; flow = c.in-Err-listen.ensures.flow; rose = (c.in-Err-listen.ensures.cause.later, c.in-Err-listen.ensures.cause.failed) }) c.finish-in-Err-listen.ensures.ends

pub returns-in-Err-settle-clause-runs : goal.returns-in-Err-settle-clause-runs
returns-in-Err-settle-clause-runs g c =
    unsettled_runs g.A.Disk.state g.L.Pipe.port _ c.args.port c.args.count c.in-Ok.ensures.names c.args.disk.now c.look.new.disk c.args.door.now (g.O.Sink.at c.args.out.now) (g.O.Sink.at c.finish-in-Err-settle.new.out) c.finish-in-Err-settle.result.code c.in-Ok-look.looked c.in-Ok-look.ensures c.settle.new.disk c.listen.new.self
    (record { told = c.in-Ok-listen.ensures.at; flow = c.in-Ok-listen.ensures.flow; gate = c.in-Ok-listen.ensures.cause.passed }) c.settle.ensures.any_moment c.in-Err-settle.field-0 c.in-Err-settle.ensures.fault c.finish-in-Err-settle.ensures.ends

pub returns-in-Ok-settle-clause-runs : goal.returns-in-Ok-settle-clause-runs
returns-in-Ok-settle-clause-runs g c =
    opened_runs g.A.Disk.state g.L.Pipe.port _ c.args.port c.args.count c.in-Ok.ensures.names c.args.disk.now c.look.new.disk c.args.door.now (g.O.Sink.at c.args.out.now) (g.O.Sink.at c.serve_all.new.out) c.serve_all.result.code c.in-Ok-look.looked c.in-Ok-look.ensures c.settle.new.disk c.listen.new.self
    (record { told = c.in-Ok-listen.ensures.at; flow = c.in-Ok-listen.ensures.flow; gate = c.in-Ok-listen.ensures.cause.passed }) c.settle.ensures.any_moment c.in-Ok-settle.server c.in-Ok-settle.ensures.settled c.serve_all.new.disk c.serve_all.new.door c.serve_all.ensures.runs

pub returns-in-Err-clause-quiet : goal.returns-in-Err-clause-quiet
returns-in-Err-clause-quiet g c = λ zero. relay_quiet g.A.Disk.state g.L.Pipe.port _ _ _ _ _ _ _ _ _ _ (returns-in-Err-clause-runs g c) zero

pub returns-in-Err-look-clause-quiet : goal.returns-in-Err-look-clause-quiet
returns-in-Err-look-clause-quiet g c = λ zero. relay_quiet g.A.Disk.state g.L.Pipe.port _ _ _ _ _ _ _ _ _ _ (returns-in-Err-look-clause-runs g c) zero

pub returns-in-Err-look-clause-counts : goal.returns-in-Err-look-clause-counts
returns-in-Err-look-clause-counts g c = λ call. disk_later g.A.Disk.state g.L.Pipe.port _ _ _ _ _ _ _ _ _ _ (returns-in-Err-look-clause-runs g c).came call

pub returns-in-Err-listen-clause-quiet : goal.returns-in-Err-listen-clause-quiet
returns-in-Err-listen-clause-quiet g c = λ zero. relay_quiet g.A.Disk.state g.L.Pipe.port _ _ _ _ _ _ _ _ _ _ (returns-in-Err-listen-clause-runs g c) zero

pub returns-in-Err-listen-clause-counts : goal.returns-in-Err-listen-clause-counts
returns-in-Err-listen-clause-counts g c = λ call. disk_later g.A.Disk.state g.L.Pipe.port _ _ _ _ _ _ _ _ _ _ (returns-in-Err-listen-clause-runs g c).came call

pub returns-in-Err-settle-clause-quiet : goal.returns-in-Err-settle-clause-quiet
returns-in-Err-settle-clause-quiet g c = λ zero. relay_quiet g.A.Disk.state g.L.Pipe.port _ _ _ _ _ _ _ _ _ _ (returns-in-Err-settle-clause-runs g c) zero

pub returns-in-Err-settle-clause-counts : goal.returns-in-Err-settle-clause-counts
returns-in-Err-settle-clause-counts g c = λ call. disk_later g.A.Disk.state g.L.Pipe.port _ _ _ _ _ _ _ _ _ _ (returns-in-Err-settle-clause-runs g c).came call

pub returns-in-Ok-settle-clause-quiet : goal.returns-in-Ok-settle-clause-quiet
returns-in-Ok-settle-clause-quiet g c = λ zero. relay_quiet g.A.Disk.state g.L.Pipe.port _ _ _ _ _ _ _ _ _ _ (returns-in-Ok-settle-clause-runs g c) zero

pub returns-in-Ok-settle-clause-counts : goal.returns-in-Ok-settle-clause-counts
returns-in-Ok-settle-clause-counts g c = λ call. disk_later g.A.Disk.state g.L.Pipe.port _ _ _ _ _ _ _ _ _ _ (returns-in-Ok-settle-clause-runs g c).came call

pub returns-in-Err-listen-clause-door_counts : goal.returns-in-Err-listen-clause-door_counts
returns-in-Err-listen-clause-door_counts g c = λ part. door_later g.A.Disk.state g.L.Pipe.port _ _ _ _ _ _ _ _ _ _ (returns-in-Err-listen-clause-runs g c).came part

pub returns-in-Err-settle-clause-door_counts : goal.returns-in-Err-settle-clause-door_counts
returns-in-Err-settle-clause-door_counts g c = λ part. door_later g.A.Disk.state g.L.Pipe.port _ _ _ _ _ _ _ _ _ _ (returns-in-Err-settle-clause-runs g c).came part

pub returns-in-Ok-settle-clause-door_counts : goal.returns-in-Ok-settle-clause-door_counts
returns-in-Ok-settle-clause-door_counts g c = λ part. door_later g.A.Disk.state g.L.Pipe.port _ _ _ _ _ _ _ _ _ _ (returns-in-Ok-settle-clause-runs g c).came part

use Rattle.std.proofs.Common.{subst}
use Rattle.endings.specs.Ends.{Ends}
use Rattle.session_model.specs.Clients.{Client}
use Rattle.command_lines.specs.LongLines.{long_ending, long_lines}
use Rattle.session_commands.proofs.Told.{tells_opened, tells_unopened, tells_without_memory}
use Rattle.session_commands.proofs.longs.long.Goals as goal

pub returns-in_default : goal.returns-in_default
returns-in_default g c =
    tells_without_memory g.D.Disk.state g.K.Kem.mechanism (long_ending c.args.id) (long_lines c.args.id) c.args.disk.now
    (g.O.Sink.at c.args.out.now) (g.O.Sink.at c.finish.new.out) c.finish.result.code
    c.finish.ensures.ends c.finish.ensures.later

pub returns-in-Err : goal.returns-in-Err
returns-in-Err g c =
    tells_unopened g.D.Disk.state g.K.Kem.mechanism (long_ending c.args.id) (long_lines c.args.id) c.args.disk.now c.open.new.disk
    (g.O.Sink.at c.args.out.now) (g.O.Sink.at c.finish-in-Err.new.out) c.finish-in-Err.result.code
    c.in-Err.refusal c.in-Err.ensures.unopened c.open.ensures.any_moment c.open.ensures.reads c.in-Err.ensures.in_worlds
    c.unopened.result c.unopened.ensures c.finish-in-Err.ensures.ends c.finish-in-Err.ensures.later

pub returns : goal.returns
returns g c =
    tells_opened g.D.Disk.state g.K.Kem.mechanism (long_ending c.args.id) (long_lines c.args.id) c.args.disk.now c.open.new.disk
    (g.O.Sink.at c.args.out.now) (g.O.Sink.at c.close_long.new.out) c.close_long.result.code
    (g.met.D.Disk.lawful c.open.new.disk) c.in-Ok-open.client c.in-Ok-open.ensures.opened c.open.ensures.any_moment
    c.in-Ok-open.ensures.still c.in-Ok-open.ensures.in_worlds
    (subst (λ (kept : Client). Ends (long_ending c.args.id kept) (long_lines c.args.id kept) (g.O.Sink.at c.args.out.now)
    (g.O.Sink.at c.close_long.new.out) c.close_long.result.code)
    c.core.ensures c.close_long.ensures.ends)
    c.close_long.ensures.later

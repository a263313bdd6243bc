use Rattle.std.proofs.Common.{[]}
use Rattle.endings.specs.declared.ending.Ending.TheVariants.{NoSuchPart}
use Rattle.session_commands.proofs.Told.{tells_opened, tells_unopened}
use Rattle.session_commands.proofs.long_saying.tell_no_part.Goals as goal

pub returns-in-Err : goal.returns-in-Err
returns-in-Err g c =
    tells_unopened g.D.Disk.state g.K.Kem.mechanism (λ kept. NoSuchPart c.args.count) (λ kept. []) c.args.disk.now c.open.new.disk
    (g.O.Sink.at c.args.out.now) (g.O.Sink.at c.finish.new.out) c.finish.result.code
    c.in-Err.refusal c.in-Err.ensures.unopened c.open.ensures.any_moment c.open.ensures.reads c.in-Err.ensures.in_worlds
    c.unopened.result c.unopened.ensures c.finish.ensures.ends c.finish.ensures.later

pub returns-in-Ok : goal.returns-in-Ok
returns-in-Ok g c =
    tells_opened g.D.Disk.state g.K.Kem.mechanism (λ kept. NoSuchPart c.args.count) (λ kept. []) c.args.disk.now c.open.new.disk
    (g.O.Sink.at c.args.out.now) (g.O.Sink.at c.finish-in-Ok.new.out) c.finish-in-Ok.result.code
    (g.met.D.Disk.lawful c.open.new.disk) c.in-Ok._client c.in-Ok.ensures.opened c.open.ensures.any_moment c.in-Ok.ensures.still
    c.in-Ok.ensures.in_worlds c.finish-in-Ok.ensures.ends c.finish-in-Ok.ensures.later

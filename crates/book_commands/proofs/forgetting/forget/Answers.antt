use Rattle.std.proofs.Common.{[], arith}
use Rattle.endings.specs.declared.ending.Ending.TheVariants.{Done}
use Rattle.book_commands.specs.Forgetting.{forgot_line}
use Rattle.book_commands.proofs.Counted.{forget_counts}
use Rattle.book_commands.proofs.forgetting.forget.Goals as goal

pub returns-in-Err : goal.returns-in-Err
returns-in-Err g c =
    forget_counts g.D.Disk.state g.K.Kem.mechanism c.args.disk.now c.open_and_forget.new.disk c.args.name.now
    (g.O.Sink.at c.args.out.now) (g.O.Sink.at c.finish.new.out) c.finish.result.code
    (record { ending = c.in-Err.ending; lines = []; came = c.in-Err.ensures; ends = c.finish.ensures.ends }) c.finish.ensures.later

pub returns-in-Ok : goal.returns-in-Ok
returns-in-Ok g c =
    forget_counts g.D.Disk.state g.K.Kem.mechanism c.args.disk.now c.open_and_forget.new.disk c.args.name.now
    (g.O.Sink.at c.args.out.now) (g.O.Sink.at c.finish_written.new.out) c.finish_written.result.code
    (record {
      ending = Done;
      lines = forgot_line c.args.name.now;
      came = c.in-Ok.ensures;
      ends = c.finish_written.ensures.ends _ _ c.write_forgot-wrote.ensures;
    })
    (omega (arith, c.write_forgot-wrote.ensures.cause.later, c.finish_written.ensures.later))

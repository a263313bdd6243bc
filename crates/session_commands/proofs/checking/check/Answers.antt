use Rattle.std.proofs.Common.{[], arith, subst, sym}
use Rattle.endings.specs.declared.ending.Ending.TheVariants.{Done}
use Rattle.session_commands.specs.Checking.{Checked, report_lines, was_checked}
use Rattle.session_commands.proofs.Checks.{look_refused}
use Rattle.session_commands.proofs.Quiet.{check_counts}
use Rattle.session_commands.proofs.checking.check.Goals as goal

pub returns-in-Err : goal.returns-in-Err
returns-in-Err g c =
    check_counts g.D.Disk.state g.K.Kem.mechanism c.args.disk.now c.look.new.disk
    (g.O.Sink.at c.args.out.now) (g.O.Sink.at c.finish.new.out) c.finish.result.code
    (record {
      ending = c.unread.result;
      lines = [];
      came = record {
        checked = subst (λ e. Checked g.D.Disk.state g.K.Kem.mechanism c.args.disk.now c.look.new.disk e []) (sym c.unread.ensures)
            (look_refused g.D.Disk.state g.K.Kem.mechanism c.args.disk.now c.look.new.disk c.in-Err.error c.in-Err.ensures.memory
            c.in-Err.ensures.fault);
        unwritten = c.look.ensures.unwritten;
        passed = c.look.ensures.passed;
        any_moment = c.look.ensures.any_moment;
      };
      ends = c.finish.ensures.ends;
    }) c.finish.ensures.later

pub returns-in-Ok : goal.returns-in-Ok
returns-in-Ok g c =
    check_counts g.D.Disk.state g.K.Kem.mechanism c.args.disk.now c.look.new.disk
    (g.O.Sink.at c.args.out.now) (g.O.Sink.at c.finish_written.new.out) c.finish_written.result.code
    (record {
      ending = Done;
      lines = report_lines c.in-Ok.report;
      came = record {
        checked = was_checked c.in-Ok.report c.in-Ok.ensures.report c.in-Ok.ensures.quiet;
        unwritten = c.look.ensures.unwritten;
        passed = c.look.ensures.passed;
        any_moment = c.look.ensures.any_moment;
      };
      ends = c.finish_written.ensures.ends _ _ c.write_report-wrote.ensures;
    })
    (omega (arith, c.write_report-wrote.ensures.cause.later, c.finish_written.ensures.later))

use Rattle.std.proofs.Common.{[], ap, subst, sym, ◌∙◌}
use Rattle.endings.specs.declared.ending.Ending.TheVariants.{Done}
use Rattle.session_commands.specs.Beginning.{Begins}
use Rattle.command_lines.specs.Lines.{session_line}
use Rattle.session_commands.proofs.Beginnings.{begun_begins, unbegun_begins}
use Rattle.session_commands.proofs.beginning.begin_on.Goals as goal

pub returns-in-Err : goal.returns-in-Err
returns-in-Err g c =
    subst
    (λ e. Begins g.D.Disk.state g.K.Kem.mechanism c.args.begin.now c.args.disk.now c.begin.new.disk e [])
    (sym c.unbegun.ensures)
    (unbegun_begins g.D.Disk.state g.K.Kem.mechanism c.readings.ensures c.args.begin.now c.args.disk.now
    c.begin.new.disk c.begin.ensures.any_moment c.begin.ensures.reads c.in-Err.refusal c.in-Err.ensures.unbegun)

pub returns-in-Ok : goal.returns-in-Ok
returns-in-Ok g c =
    subst
    (λ line. Begins g.D.Disk.state g.K.Kem.mechanism c.args.begin.now c.args.disk.now c.begin.new.disk Done line)
    (sym (c.session_line.ensures.line ∙ ap session_line c.session.ensures))
    (begun_begins g.D.Disk.state g.K.Kem.mechanism c.readings.ensures c.args.begin.now c.args.disk.now
    c.begin.new.disk c.begin.ensures.any_moment c.begin.ensures.reads c.in-Ok.client c.in-Ok.ensures.begun
    c.in-Ok.ensures.in_worlds)

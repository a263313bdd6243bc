use Rattle.std.proofs.Common.{[], subst, sym}
use Rattle.command_lines.specs.Asking.{asked_drop}
use Rattle.command_lines.specs.Closing.{ending_by, lines_of_ending}
use Rattle.command_lines.specs.InWorlds.{RunsActAt}
use Rattle.book_commands.specs.Places.{name_place}
use Rattle.book_commands.proofs.Acted.{dropped}
use Rattle.book_commands.proofs.Opened.{unopened_acts}
use Rattle.dr_model.specs.Machines.Acts.{dropping}
use Rattle.session_model.specs.declared.answer.Answer.TheVariants.{Dropped}
use Rattle.book_commands.proofs.dropping.open_and_drop.Goals as goal

pub returns-in-Err : goal.returns-in-Err
returns-in-Err g c =
    let k = g.K.Kem.mechanism in
    let asked = asked_drop (dropping c.args.which) in
    subst (λ e. RunsActAt (name_place k c.args.name.now) g.D.Disk.state k asked c.args.disk.now c.open.new.disk e [])
    (sym c.unopened.ensures)
    (unopened_acts g.D.Disk.state k (c.record_law.ensures.written k) c.args.name.now c.args.disk.now c.open.new.disk
    c.open.ensures.any_moment c.open.ensures.reads c.in-Err.error
    (record { refused = c.in-Err.ensures.refused; memory = c.in-Err.ensures.memory }) asked tt)

pub returns-in-Ok : goal.returns-in-Ok
returns-in-Ok g c =
    let k = g.K.Kem.mechanism in
    let asked = asked_drop (dropping c.args.which) in
    subst (λ r. RunsActAt (name_place k c.args.name.now) g.D.Disk.state k asked c.args.disk.now c.drop_items-acted.new.disk
    (ending_by r) (lines_of_ending r)) (sym c.dropped_under.ensures)
    (dropped g.D.Disk.state k (c.record_law.ensures.written k) c.args.name.now c.args.disk.now c.open.new.disk
    c.drop_items-acted.new.disk (g.met.D.Disk.lawful c.drop_items-acted.new.disk) c.in-Ok.book c.drop_items-acted.new.self
    c.in-Ok.ensures.opened
    c.in-Ok.ensures.quiet c.open.ensures.any_moment c.open.ensures.reads
    (dropping c.args.which)
    (Dropped c.args.which) (λ w side. tt) c.drop_items-acted.result c.drop_items-acted.ensures.answers)

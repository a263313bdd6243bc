use Rattle.std.proofs.Common.{[], refl, subst, sym}
use Rattle.command_lines.specs.Asking.{asked_say}
use Rattle.command_lines.specs.Closing.{ending_by, lines_of_ending}
use Rattle.command_lines.specs.InWorlds.{RunsActAt}
use Rattle.book_commands.specs.Places.{name_place}
use Rattle.book_commands.proofs.Acted.{said}
use Rattle.book_commands.proofs.Opened.{unopened_acts}
use Rattle.book_commands.proofs.saying.say_text.Goals as goal

pub returns-in-Err : goal.returns-in-Err
returns-in-Err g c =
    let k = g.K.Kem.mechanism in
    let asked = asked_say g.W.Draws.at c.args.text.now c.args.draws.now c.args.draws.now in
    subst (λ e. RunsActAt (name_place k c.args.name.now) g.D.Disk.state k asked c.args.disk.now c.open.new.disk e [])
    (sym c.unopened.ensures)
    (unopened_acts g.D.Disk.state k (c.record_law.ensures.written k) c.args.name.now c.args.disk.now c.open.new.disk
    c.open.ensures.any_moment c.open.ensures.reads c.in-Err.error
    (record { refused = c.in-Err.ensures.refused; memory = c.in-Err.ensures.memory }) asked refl)

pub returns-in-Ok : goal.returns-in-Ok
returns-in-Ok g c =
    let k = g.K.Kem.mechanism in
    let asked = asked_say g.W.Draws.at c.args.text.now c.args.draws.now c.say-acted.new.draws in
    subst (λ r. RunsActAt (name_place k c.args.name.now) g.D.Disk.state k asked c.args.disk.now c.say-acted.new.disk
    (ending_by r) (lines_of_ending r)) (sym c.said_under.ensures)
    (said g.D.Disk.state k (c.record_law.ensures.written k) c.args.name.now c.args.disk.now c.open.new.disk
    c.say-acted.new.disk (g.met.D.Disk.lawful c.say-acted.new.disk) c.in-Ok.book c.say-acted.new.self c.in-Ok.ensures.opened
    c.in-Ok.ensures.quiet c.open.ensures.any_moment c.open.ensures.reads g.W.Draws.at c.args.text.now
    c.args.draws.now c.say-acted.new.draws c.say-acted.result c.say-acted.ensures.answers)

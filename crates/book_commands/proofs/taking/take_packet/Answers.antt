use Rattle.std.proofs.Common.{[], subst, sym}
use Rattle.command_lines.specs.Asking.{asked_take}
use Rattle.command_lines.specs.Closing.{ending_by, lines_of_ending}
use Rattle.command_lines.specs.InWorlds.{RunsActAt}
use Rattle.book_commands.specs.Places.{name_place}
use Rattle.book_commands.proofs.Acted.{took}
use Rattle.book_commands.proofs.Opened.{unopened_acts}
use Rattle.book_commands.proofs.taking.take_packet.Goals as goal

pub returns-in-Err : goal.returns-in-Err
returns-in-Err g c =
    let k = g.K.Kem.mechanism in
    let asked = asked_take k c.args.packet.now in
    subst (λ e. RunsActAt (name_place k c.args.name.now) g.D.Disk.state k asked c.args.disk.now c.open.new.disk e [])
    (sym c.unopened.ensures)
    (unopened_acts g.D.Disk.state k (c.record_law.ensures.written k) c.args.name.now c.args.disk.now c.open.new.disk
    c.open.ensures.any_moment c.open.ensures.reads c.in-Err.error
    (record { refused = c.in-Err.ensures.refused; memory = c.in-Err.ensures.memory }) asked tt)

pub returns-in-Ok : goal.returns-in-Ok
returns-in-Ok g c =
    let k = g.K.Kem.mechanism in
    let asked = asked_take k c.args.packet.now in
    subst (λ r. RunsActAt (name_place k c.args.name.now) g.D.Disk.state k asked c.args.disk.now c.take-acted.new.disk
    (ending_by r) (lines_of_ending r)) (sym c.taken_under.ensures)
    (took g.D.Disk.state k (c.record_law.ensures.written k) c.args.name.now c.args.disk.now c.open.new.disk
    c.take-acted.new.disk (g.met.D.Disk.lawful c.take-acted.new.disk) c.in-Ok.book c.take-acted.new.self c.in-Ok.ensures.opened
    c.in-Ok.ensures.quiet c.open.ensures.any_moment c.open.ensures.reads c.args.packet.now
    c.take-acted.result c.take-acted.ensures.answers)

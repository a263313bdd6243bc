use Rattle.std.proofs.Common.{refl, subst}
use Rattle.command_lines.specs.Asking.{asked_take}
use Rattle.command_lines.specs.Closing.{ending_by, lines_of_ending}
use Rattle.session_commands.specs.Acting.{RunsAct}
use Rattle.command_lines.specs.Runs.{had_no_packet, had_packet}
use Rattle.command_lines.proofs.Truly.{take_tells}
use Rattle.session_commands.specs.Disks.{client_place}
use Rattle.session_commands.proofs.taking.read_and_take.Goals as goal

pub returns-in-Err-clause-runs : goal.returns-in-Err-clause-runs
returns-in-Err-clause-runs g c = had_no_packet c.in-Err.ending c.in-Err.ensures.input refl

pub returns-in-Ok-clause-runs : goal.returns-in-Ok-clause-runs
returns-in-Ok-clause-runs g c =
    let runs =
    subst
    (λ packet. RunsAct g.D.Disk.state g.K.Kem.mechanism (asked_take g.K.Kem.mechanism packet) c.args.disk.now c.take_packet.new.disk (ending_by c.take_packet.result) (lines_of_ending c.take_packet.result))
    c.as_slice.ensures.value c.take_packet.ensures in
    had_packet c.in-Ok.packet.items (ending_by c.take_packet.result) (lines_of_ending c.take_packet.result) c.in-Ok.ensures.input
    runs
    (λ w side lawful reads unforged.
    take_tells (client_place g.K.Kem.mechanism) g.K.Kem.mechanism w side c.in-Ok.packet.items (g.D.Disk.state c.args.disk.now) (g.D.Disk.state c.take_packet.new.disk) lawful
    (ending_by c.take_packet.result) (lines_of_ending c.take_packet.result) (runs.in_worlds w side lawful reads unforged))

use Rattle.std.proofs.Common.{arith, refl}
use Rattle.std.proofs.lemmas.Grind.{common_steps}
use Rattle.dr_disk.proofs.Recordings.{new_recording}
use Rattle.dr_disk.proofs.recording.RecordingDisk.new.Goals as goal

pub returns : goal.returns
returns c =
    let platter = c.in_ok-new.ensures in
    let tape = c.in_ok-new-2.ensures in
    new_recording _ c.args.size c.args.calls c.args.bytes platter.bytes platter.durable platter.asked platter.marks refl refl refl refl refl tape.calls_room tape.bytes_room tape.calls

pub invariant_of-result : goal.invariant_of-result
invariant_of-result c = grind (arith, common_steps)

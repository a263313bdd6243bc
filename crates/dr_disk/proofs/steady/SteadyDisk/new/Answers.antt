use Rattle.dr_disk.proofs.Fresh.{blank}
use Rattle.dr_disk.proofs.steady.SteadyDisk.new.Goals as goal

pub returns : goal.returns
returns c =
    let made = c.in_ok-new.ensures in
    blank _ _ _ _ _ made.bytes made.durable made.asked made.marks

use Rattle.std.proofs.Common.{refl, arith}
use Rattle.dr_disk.specs.State.{all_pass}
use Rattle.dr_disk.proofs.Filled.{left_written}
use Rattle.dr_disk.proofs.Tears.{within_written}
use Rattle.dr_disk.proofs.steady.SteadyDiskDisk.write_at.Goals as goal

pub returns-clause-within : goal.returns-clause-within
returns-clause-within c =
    let platter = c.args.self.now.platter in
    within_written _ _ _ _ _ _ _ _ _ all_pass all_pass _ _ _ _ platter.one_mark_each c.write.ensures.marks c.write.ensures.durable c.args.bytes.now _ refl c.requires platter.agrees.size c.write.ensures.bytes

pub returns-clause-leaves : goal.returns-clause-leaves
returns-clause-leaves c =
    let platter = c.args.self.now.platter in
    left_written _ _ _ _ _ _ c.args.at c.args.bytes.now (omega (arith, platter.agrees.size)) platter.one_mark_each c.write.ensures.durable c.write.ensures.asked c.write.ensures.marks

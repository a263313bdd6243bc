use Rattle.std.proofs.Common.{subst, sym}
use Rattle.dr_disk.specs.Memory.{memory_state, no_faults}
use Rattle.dr_disk.specs.MemoryDisks.{IsBlank}
use Rattle.dr_disk.specs.Metered.{Metered}
use Rattle.dr_disk.proofs.Fresh.{blank}
use Rattle.dr_disk.proofs.memory.MemoryDisk.new.Goals as goal

pub returns : goal.returns
returns c =
    let made = c.in_ok-new.ensures in
    let platter = c.in_ok-new.field-0 in
    subst
    (λ (m : Metered). IsBlank c.args.size (memory_state platter.bytes.items platter.durable.items platter.asked.items
    platter.marks.items m.fate m.passed no_faults)) (sym c.new-2.ensures)
    (blank _ _ _ _ _ made.bytes made.durable made.asked made.marks)

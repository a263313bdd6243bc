use Rattle.std.proofs.Common.{subst, sym}
use Rattle.dr_disk.specs.Memory.{memory_state}
use Rattle.dr_disk.specs.MemoryDisks.{IsLeftBy, state_of}
use Rattle.dr_disk.specs.Metered.{Metered}
use Rattle.dr_disk.proofs.Fresh.{left_by_crash}
use Rattle.dr_disk.proofs.memory.MemoryDisk.crash.Goals as goal

pub returns-clause-left : goal.returns-clause-left
returns-clause-left c =
    let made = c.crash.ensures in
    let platter = c.crash.result in
    subst
    (λ (m : Metered). IsLeftBy c.args.mode (state_of c.args.self) (memory_state platter.bytes.items platter.durable.items
    platter.asked.items platter.marks.items m.fate m.passed
    (record { reads = c.args.self.reads; writes = c.args.self.writes; syncs = c.args.self.syncs; tried = c.args.self.tried }))) (sym c.lifted.ensures.value)
    (left_by_crash _ _ _ _ _ _ _ _ _ _ _ _ _ made.bytes made.durable made.asked made.marks)

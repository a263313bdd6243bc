-- a stop changes nothing of what a disk holds
use Rattle.std.proofs.Common.{subst, sym}
use Rattle.dr_disk.specs.MemoryDisks.{state_of}
use Rattle.dr_disk.specs.declared.memory.MemoryDisk.{MemoryDisk}
use Rattle.client.specs.Clients.{IsReady}
use Rattle.client_tests.proofs.stops.stop.Goals as goal

pub returns : goal.returns
returns c =
    let ready = c.requires in
    subst (λ (disk : MemoryDisk). IsReady c.before.before.args.client.now.kept c.before.before.args.client.now.store (state_of disk))
    (sym c.stop_after.ensures)
    (record { area = ready.area; within = ready.within; holds = ready.holds; rests = ready.rests })

-- What a disk in memory that never fails shows.
use Rattle.dr_disk.specs.declared.steady.SteadyDisk.{SteadyDisk}
use Rattle.dr_disk.specs.State.{DiskState, all_pass}
use Rattle.dr_disk.specs.Memory.{memory_state, no_faults}

abbrev pub steady_state_of : SteadyDisk → DiskState
steady_state_of disk = memory_state disk.platter.bytes.items disk.platter.durable.items disk.platter.asked.items
    disk.platter.marks.items all_pass disk.passed (record no_faults { tried = disk.tried })

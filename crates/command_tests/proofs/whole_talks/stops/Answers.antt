use Rattle.std.proofs.Common.{subst, sym}
use Rattle.dr_disk.specs.MemoryDisks.{state_of}
use Rattle.dr_disk.specs.declared.memory.MemoryDisk.{MemoryDisk}
use Rattle.session_commands.specs.WholeRuns.{LeavesAlone}
use Rattle.command_tests.proofs.whole_talks.stops.Goals as goal

pub returns : goal.returns
returns c =
    subst (λ (disk : MemoryDisk). LeavesAlone (state_of c.args.disk.now) (state_of disk))
    (sym c.stop_after.ensures) (λ image left. left)

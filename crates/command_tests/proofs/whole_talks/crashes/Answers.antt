use Rattle.dr_disk.specs.MemoryDisks.{state_of}
use Rattle.command_tests.proofs.Pieces.{left_alone, memory_is_lawful}
use Rattle.command_tests.proofs.whole_talks.crashes.Goals as goal

pub returns : goal.returns
returns c =
    left_alone c.args.mode (state_of c.args.disk) (state_of c.crash.result) (memory_is_lawful c.args.disk)
    c.crash.ensures.left

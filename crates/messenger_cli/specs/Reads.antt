-- What the program did with its source, by its ending.
use Rattle.std.specs.Prelude.{◌≡◌, ◌⊎◌, ℕ, ◌+◌, List, [], drop, Option, option_map, IfSome}
use Rattle.dr_ports.specs.Ports.{Rose}
use Rattle.dr_ports.specs.Reading.{GaveAtMost}
use Rattle.endings.specs.declared.ending.Ending.{Ending}
use Rattle.endings.specs.declared.ending.Ending.TheVariants.{Done, Usage, InputTooLong, BadLine, Refused, ReadFault, NoMemory}
use Rattle.messenger_cli.specs.declared.playing.TheConstants.{SCRIPT_LIMIT}

-- nothing is left, where that is told
abbrev pub IsDrained : Option (List ℕ) → Type 0
IsDrained left = IfSome left (λ bytes. bytes ≡ [])

-- What is left in the source, where that is told: nothing once a script was read; all after one byte past the limit;
-- all after what came before a read failed. Words that are no command leave all. For want of memory the script was
-- read or it wasn't.
abbrev pub LeavesSource : Ending → Option (List ℕ) → Option (List ℕ) → Type 0
LeavesSource Done old new = IsDrained new
LeavesSource Usage old new = new ≡ old
LeavesSource (InputTooLong limit) old new = new ≡ option_map (drop (SCRIPT_LIMIT + 1)) old
LeavesSource (BadLine number) old new = IsDrained new
LeavesSource (Refused refusal) old new = IsDrained new
LeavesSource ReadFault old new = GaveAtMost (SCRIPT_LIMIT + 1) old new
LeavesSource NoMemory old new = (new ≡ old) ⊎ IsDrained new
LeavesSource _ old new = ⊥

-- the source's count of faults: it rose where the ending says that a read failed, and else is as it was
abbrev pub CountsReads : Ending → ℕ → ℕ → Type 0
CountsReads Done before now = now ≡ before
CountsReads Usage before now = now ≡ before
CountsReads (InputTooLong limit) before now = now ≡ before
CountsReads (BadLine number) before now = now ≡ before
CountsReads (Refused refusal) before now = now ≡ before
CountsReads ReadFault before now = Rose before now
CountsReads NoMemory before now = now ≡ before
CountsReads _ before now = ⊥

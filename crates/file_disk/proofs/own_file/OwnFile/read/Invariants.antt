use Rattle.std.proofs.Common.{◌-◌, ◌≤◌, length}
use Rattle.file_disk.proofs.own_file.OwnFile.read.Given as goal

abbrev pub invariant-pieces : goal.invariant-pieces
invariant-pieces l = l.done ≤ length l.into

abbrev pub decreases-pieces : goal.decreases-pieces
decreases-pieces l = length l.into - l.done

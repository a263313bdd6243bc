use Rattle.std.proofs.Common.{◌-◌}
use Rattle.file_disk.proofs.own_file.OwnFile.lengthen.Given as goal

abbrev pub decreases-pieces : goal.decreases-pieces
decreases-pieces l = l.length - l.end

use Rattle.std.proofs.Common.{length}
use Rattle.scripts.proofs.Reading.{IsCounting}
use Rattle.scripts.proofs.script.count_lines.Given as goal

abbrev pub invariant-lines : goal.invariant-lines
invariant-lines l = IsCounting l.fn.from l.initial.text l.rest l.number

abbrev pub decreases-lines : goal.decreases-lines
decreases-lines l = length l.rest

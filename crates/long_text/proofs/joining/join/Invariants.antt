-- the bytes under the first numbers were put
use Rattle.std.proofs.Common.{◌≤◌, ◌*◌}
use Rattle.dr_base.specs.Buffer.{Puts}
use Rattle.boxes.specs.declared.limits.TheConstants.{PART_LIMIT}
use Rattle.long_text.specs.Longs.{joined}
use Rattle.long_text.specs.Pieces.{pieces}
use Rattle.long_text.proofs.joining.join.Given as goal

abbrev pub invariant-numbers : goal.invariant-numbers
invariant-numbers l = Puts l.initial.into l.into 0 (joined (pieces l.id l.inbox) l.i) l.at × (l.at ≤ PART_LIMIT * l.i)

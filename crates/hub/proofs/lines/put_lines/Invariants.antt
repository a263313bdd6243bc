use Rattle.std.proofs.Common.{length, ◌*◌, ◌+◌, ◌≡◌, ◌≤◌}
use Rattle.hub.specs.Lines.{fan_lines}
use Rattle.hub.specs.declared.lines.TheConstants.{FIRST_MOST, LINE_MOST}
use Rattle.hub.proofs.lines.put_lines.Given as goal

abbrev pub invariant-peers : goal.invariant-peers
invariant-peers g l =
    (l.lines.items ≡ fan_lines g.K.Kem.mechanism l.at l.left.acknowledged l.left.book.rows)
    × (length l.lines.items ≤ FIRST_MOST + LINE_MOST * l.at)

use Rattle.std.proofs.Common.{rules}
use Rattle.duet.proofs.sides.Duet.stopped.Goals as goal
use Rattle.duet.proofs.sides.Duet.stopped.Goals.{in-First, in-Second, in-First-side, in-Second-side}

pub returns : goal.returns
returns g c = elim c.match-side.branch [
  | in-First w ↦ elim c.match-side-2.branch [
    | in-First-side v ↦ search rules
    | in-Second-side v ↦ search rules
  ]
  | in-Second w ↦ elim c.match-side-2.branch [
    | in-First-side v ↦ search rules
    | in-Second-side v ↦ search rules
  ]
]

-- the positions of the keys so far
use Rattle.std.proofs.Common.{◌≡◌, map, take}
use Rattle.bodies.proofs.receipt.first_positions.Given as goal

abbrev pub invariant-keys : goal.invariant-keys
invariant-keys l = l.first.items ≡ map (λ kept. kept.position) (take l.i l.keys)

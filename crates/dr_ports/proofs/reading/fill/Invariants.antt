use Rattle.std.proofs.Common.{length, ◌-◌, ◌≡◌, ◌≤◌, take}
use Rattle.dr_ports.specs.Ports.{prepended}
use Rattle.dr_ports.proofs.reading.fill.Given as goal

abbrev pub invariant-pieces : goal.invariant-pieces
invariant-pieces g l = record {
  within : l.count ≤ length l.into;
  content : (g.S.Source.at l.initial.source).left ≡ prepended (take l.count l.into) (g.S.Source.at l.source).left;
  quiet : (g.S.Source.at l.source).faults ≡ (g.S.Source.at l.initial.source).faults;
}

abbrev pub decreases-pieces : goal.decreases-pieces
decreases-pieces g l = length l.initial.into - l.count

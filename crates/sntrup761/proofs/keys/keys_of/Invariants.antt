use Rattle.std.proofs.Common.{◌+◌, ◌-◌, ◌≤◌}
use Rattle.sntrup761.specs.Draws.{drawn_g, drawn_f}
use Rattle.sntrup761.proofs.Tries.{AreWithout}
use Rattle.sntrup761.proofs.keys.keys_of.Given as goal

abbrev pub invariant-loop-for_g : goal.invariant-loop-for_g
invariant-loop-for_g l = record {
  few_g : l.for_g ≤ 16;
  few_f : l.for_f ≤ 4;
  without_g : AreWithout 1 (drawn_g l.seed) l.for_g;
  without_f : AreWithout 2295 (drawn_f l.seed) l.for_f;
}

abbrev pub decreases-loop-for_g : goal.decreases-loop-for_g
decreases-loop-for_g l = (16 - l.for_g) + (4 - l.for_f)

use Rattle.std.proofs.Common.{◌≡◌, ◌+◌, ◌*◌, ◌≤◌, ◌++◌, take, drop}
use Rattle.ntru_codec.specs.Levels.{pair_length, next_limits}
use Rattle.ntru_codec.proofs.levels.shrink.Given as goal

-- what the pairs so far give, with what the others give, is what the whole list gives
abbrev pub invariant-loop-i : goal.invariant-loop-i
invariant-loop-i l = record {
  few : l.bytes ≤ 2 * l.i;
  counted : l.bytes + pair_length (drop (2 * l.i) l.limits) ≡ pair_length l.limits;
  made : take l.i l.next ++ next_limits (drop (2 * l.i) l.limits) ≡ next_limits l.limits;
}

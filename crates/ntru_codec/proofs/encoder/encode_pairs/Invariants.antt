use Rattle.std.proofs.Common.{◌≡◌, ◌+◌, ◌*◌, ◌++◌, take, drop}
use Rattle.ntru_codec.specs.Levels.{pair_bytes, pair_length, next_values}
use Rattle.ntru_codec.proofs.encoder.encode_pairs.Given as goal

-- what the pairs so far give, with what the others give, is what the whole list gives
abbrev pub invariant-loop-i : goal.invariant-loop-i
invariant-loop-i l = record {
  counted : l.at + pair_length (drop (2 * l.i) l.limits) ≡ pair_length l.limits;
  written : take l.at l.out ++ pair_bytes (drop (2 * l.i) l.values) (drop (2 * l.i) l.limits) ≡ pair_bytes l.values l.limits;
  kept : drop l.at l.out ≡ drop l.at l.initial.out;
  made : take l.i l.next ++ next_values (drop (2 * l.i) l.values) (drop (2 * l.i) l.limits) ≡ next_values l.values l.limits;
}

use Rattle.std.proofs.Common.{◌≡◌, ◌+◌, ◌*◌, ◌++◌, take, drop}
use Rattle.ntru_codec.specs.Levels.{pair_length, pair_values}
use Rattle.ntru_codec.proofs.decoder.decode_pairs.Given as goal

-- the pairs so far, with those of the other bytes, are those of all bytes
abbrev pub invariant-loop-i : goal.invariant-loop-i
invariant-loop-i l = record {
  counted : l.at + pair_length (drop (2 * l.i) l.limits) ≡ pair_length l.limits;
  made : take (2 * l.i) l.out ++ pair_values (drop l.at l.bytes) (drop (2 * l.i) l.limits) (drop l.i l.next) ≡ pair_values l.bytes l.limits l.next;
}

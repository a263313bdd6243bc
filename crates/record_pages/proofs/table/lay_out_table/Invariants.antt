use Rattle.std.proofs.Common.{◌≡◌, ◌+◌, ◌*◌, ◌∷◌, ◌++◌, length, take}
use Rattle.std.specs.Int.{w32, to_be_bytes}
use Rattle.record_pages.specs.Tables.{printed}
use Rattle.record_pages.proofs.table.lay_out_table.Given as goal

abbrev pub invariant-numbers : goal.invariant-numbers
invariant-numbers l = record {
  place : l.at ≡ 5 + 2 * l.i;
  long : length l.body ≡ length l.fn.body;
  front : take l.at l.body ≡ l.turn ∷ (to_be_bytes w32 l.len ++ printed (take l.i l.numbers));
}

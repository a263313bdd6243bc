use Rattle.std.proofs.Common.{◌≡◌, ◌+◌, ◌*◌, ◌≤◌, ◌++◌, length, take}
use Rattle.std.specs.Prelude.{flat_map}
use Rattle.answer_lines.specs.Texts.{escaped}
use Rattle.answer_lines.proofs.texts.put_text.Given as goal

abbrev pub invariant-bytes : goal.invariant-bytes
invariant-bytes l = record {
  put : l.line.items ≡ l.initial.line.items ++ flat_map escaped (take l.byte-index l.text);
  len : length l.line.items ≤ length l.initial.line.items + 4 * l.byte-index;
}

-- Long texts in lines, and why there is none.
use Rattle.std.specs.Prelude.{ℕ, List, ◌++◌, flat_map, codes, decimal}
use Rattle.long_text.specs.declared.refusal.LongRefusal.{LongRefusal}
use Rattle.long_text.specs.declared.refusal.LongRefusal.TheVariants.{Clash, NoLong, Parts}
use Rattle.answer_lines.specs.Answers.{position_text}
use Rattle.answer_lines.specs.Texts.{escaped}

-- what stands before a long text, after a head
unfoldable pub long_head : List ℕ → ℕ → List ℕ
long_head head id = head ++ codes "long " ++ decimal id ++ codes " \""

-- the line of the long text of an id, after a head
abbrev pub long_line : List ℕ → ℕ → List ℕ → List ℕ
long_line head id text = long_head head id ++ (flat_map escaped text ++ codes "\"\n")

-- why an inbox has no long text: its name and values
unfoldable pub long_refusal_text : LongRefusal → List ℕ
long_refusal_text NoLong = codes "NoLong"
long_refusal_text (Clash first second) = codes "Clash " ++ position_text first ++ codes " " ++ position_text second
long_refusal_text (Parts have n) = codes "Parts " ++ decimal have ++ codes " " ++ decimal n

-- What a command shows of the long text of an id that an inbox has: its line, or how the command
-- ends without it. And the line of a part that was said.
use Rattle.std.specs.Prelude.{Err, List, Ok, Result, [], codes, ℕ, ◌++◌}
use Rattle.answer_lines.specs.Answers.{position_text}
use Rattle.answer_lines.specs.Longs.{long_line}
use Rattle.answer_lines.specs.Texts.{part_number_text}
use Rattle.dr_base.specs.declared.position.Position.{Position}
use Rattle.endings.specs.declared.ending.Ending.{Ending}
use Rattle.endings.specs.declared.ending.Ending.TheVariants.{Done, Unjoined}
use Rattle.long_text.specs.Longs.{long_of}
use Rattle.long_text.specs.declared.refusal.LongRefusal.{LongRefusal}
use Rattle.session_model.specs.Clients.{Client}

abbrev pub ending_joined : Result (List ℕ) LongRefusal → Ending
ending_joined (Ok text) = Done
ending_joined (Err refusal) = Unjoined refusal

abbrev pub lines_joined : ℕ → Result (List ℕ) LongRefusal → List ℕ
lines_joined id (Ok text) = long_line [] id text
lines_joined id (Err refusal) = []

abbrev pub long_ending : ℕ → Client → Ending
long_ending id kept = ending_joined (long_of id kept.inbox)

abbrev pub long_lines : ℕ → Client → List ℕ
long_lines id kept = lines_joined id (long_of id kept.inbox)

-- the line of a part that was said, by its number and the count of parts
unfoldable pub said_part_line : Position → ℕ → ℕ → List ℕ
said_part_line position number count =
    codes "said " ++ position_text position ++ part_number_text number count ++ codes "\n"

-- The lines of a trace: one for each event, and after a look one for each text that it shows.
use Rattle.std.specs.Prelude.{Bool, Err, Ok, Result, false, true, ℕ, List, [], ◌++◌, flat_map, codes}
use Rattle.dr_base.specs.declared.position.Position.{Position}
use Rattle.dr_base.specs.declared.position.Side.{Side}
use Rattle.dr_disk.specs.declared.call.Call.{Call}
use Rattle.dr_disk.specs.declared.call.Call.TheVariants.{Read, Sync, Write}
use Rattle.boxes.specs.Entries.{Entry}
use Rattle.session_model.specs.declared.answer.Answer.{Answer}
use Rattle.session_model.specs.declared.answer.Answer.TheVariants.{Seeded}
use Rattle.dr_model.specs.Machines.Steps.{Shown, Step, places, texts}
use Rattle.dr_model.specs.Machines.Events.{Event}
use Rattle.answer_lines.specs.Answers.{answer_text}
use Rattle.answer_lines.specs.Longs.{long_line, long_refusal_text}
use Rattle.answer_lines.specs.Texts.{content_line, place_line}
use Rattle.long_text.specs.Longs.{long_of}
use Rattle.long_text.specs.declared.refusal.LongRefusal.{LongRefusal}
use Rattle.scripts.specs.Sides.{acting_side, side_text}

-- the line of a side's event with its answer; a seed has none
unfoldable pub reply_line : Side → Answer → List ℕ
reply_line side Seeded = []
reply_line side answer = side_text side ++ answer_text answer ++ codes "\n"

-- the line of what stands in a side's inbox
abbrev pub entry_line : Side → Entry → List ℕ
entry_line side item = content_line (side_text side) item

-- the line of an own text of a side that waits for a receipt
abbrev pub waiting_line : Side → Position → List ℕ
waiting_line side p = place_line (side_text side) p

-- the lines of what an event of a side shows
abbrev pub shown_lines : Side → Shown → List ℕ
shown_lines side (texts entries) = flat_map (entry_line side) entries
shown_lines side (places waiting) = flat_map (waiting_line side) waiting

-- what an event is answered with, in lines
unfoldable pub reply_of : {S : Type 0} → Event → Step S → List ℕ
reply_of event step =
    reply_line (acting_side event) step.answer ++ shown_lines (acting_side event) step.shown

-- ---- a long text

-- why there is none
unfoldable pub unjoined_line : Side → LongRefusal → List ℕ
unjoined_line side refusal =
    side_text side ++ codes "refused " ++ long_refusal_text refusal ++ codes "\n"

-- the line of the long text of an id that a side shows, or of why it has none
abbrev pub joined_line : Side → ℕ → Result (List ℕ) LongRefusal → List ℕ
joined_line side id (Ok text) = long_line (side_text side) id text
joined_line side id (Err refusal) = unjoined_line side refusal

-- of what stands in its inbox
abbrev pub shown_long : Side → ℕ → List Entry → List ℕ
shown_long side id inbox = joined_line side id (long_of id inbox)

-- ---- a call on a side's disk that fails

abbrev pub call_name : Call → List ℕ
call_name Read = codes "read"
call_name Write = codes "write"
call_name Sync = codes "sync"

-- one of this kind failed; before this line, and now
unfoldable pub failed_line : Side → Call → List ℕ
failed_line side call = side_text side ++ codes "fault " ++ call_name call ++ codes "\n"

unfoldable pub closed_line : Side → Call → List ℕ
closed_line side call = side_text side ++ codes "closed " ++ call_name call ++ codes "\n"

-- what an opening is answered with: whether the client was closed
unfoldable pub open_line : Side → Bool → List ℕ
open_line side true = side_text side ++ codes "ready\n"
open_line side false = side_text side ++ codes "nothing\n"

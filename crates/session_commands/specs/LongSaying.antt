-- What the command that says a long text comes to: a row of whole runs, one for each part.
use Rattle.std.specs.Prelude.{List, [], map, ℕ, ◌+◌, ◌++◌, ◌-◌, ◌<◌, ◌∷◌, ◌≡◌, ◌≤◌, ◌⊎◌}
use Rattle.std.specs.List.{range_with_len}
use Rattle.boxes.specs.Parts.{Part}
use Rattle.dr_base.specs.Causes.{Rose}
use Rattle.dr_base.specs.declared.position.Position.{Position}
use Rattle.dr_disk.specs.State.{DiskState}
use Rattle.dr_ports.specs.States.{DrawsState, SourceState}
use Rattle.endings.specs.declared.ending.Ending.{Ending}
use Rattle.endings.specs.declared.ending.Ending.TheVariants.{Done, NoSuchPart, NotHex}
use Rattle.kem_laws.specs.Mechanism.{Mechanism}
use Rattle.long_text.specs.Cuts.{count_of, part_at}
use Rattle.long_text.specs.declared.limits.TheConstants.{LONG_LIMIT}
use Rattle.session_model.specs.Contents.{part_content}
use Rattle.session_model.specs.declared.answer.Answer.TheVariants.{Said}
use Rattle.command_lines.specs.Asking.{asked_content}
use Rattle.command_lines.specs.Closing.{printed_answer}
use Rattle.command_lines.specs.Inputs.{IsInput, IsNoInput, whole_text}
use Rattle.command_lines.specs.LongLines.{said_part_line}
use Rattle.session_commands.specs.Acting.{RunsAct}
use Rattle.session_commands.specs.Showing.{RunsTell}

-- the parts of a text under an id, from a number on
abbrev pub parts_from : ℕ → List ℕ → ℕ → List Part
parts_from id text number =
    map (part_at id text) (range_with_len number (count_of text + 1 - number))

-- a part is said, with the draws before and after it
abbrev pub SaysPart : {X W : Type 0} → (X → DiskState) → (W → DrawsState) → Mechanism → Part
    → X → X → W → W → Ending → List ℕ → Type 0
SaysPart state draws k part start now source left =
    RunsAct state k (asked_content draws (part_content part) source left) start now

-- Parts are said one after the other, each by a whole run of its own that begins with what the one
-- before it left. The next one is said exactly where this one was, and its line was written. The
-- last two numbers are the writes that had failed before and after.
pub data SaysParts {X W : Type 0} (state : X → DiskState) (draws : W → DrawsState) (k : Mechanism)
    (before after : ℕ) : List Part → X → X → W → W → Ending → List ℕ → Type 0 where
  -- none is left
  all_said : (start now : X) (source left : W) → now ≡ start → left ≡ source
      → SaysParts state draws k before after [] start now source left Done []
  -- it was said, and its line was written; then the rest
  one_said : (part : Part) (rest : List Part) (start mid now : X) (source between left : W)
      (position : Position) (ending : Ending) (lines : List ℕ)
      → SaysPart state draws k part start mid source between Done
      (printed_answer (Said position))
      → SaysParts state draws k before after rest mid now between left ending lines
      → SaysParts state draws k before after (part ∷ rest) start now source left ending
      (said_part_line position part.number part.count ++ lines)
  -- it wasn't, and the command ends as its run does
  none_said : (part : Part) (rest : List Part) (start now : X) (source left : W) (ending : Ending)
      → SaysPart state draws k part start now source left ending []
      → SaysParts state draws k before after (part ∷ rest) start now source left ending []
  -- it was said, and a write of its line failed
  was_unwritten : (part : Part) (rest : List Part) (start now : X) (source left : W)
      (position : Position)
      → SaysPart state draws k part start now source left Done
      (printed_answer (Said position))
      → Rose before after
      → SaysParts state draws k before after (part ∷ rest) start now source left Done
      (said_part_line position part.number part.count)

-- The text has no part of the number: the client is opened, and that is told. Or its parts are
-- said, from that number on.
pub data SaysFrom {X W : Type 0} (state : X → DiskState) (draws : W → DrawsState) (k : Mechanism)
    (id number : ℕ) (text : List ℕ) (start now : X) (source left : W) (before after : ℕ)
    : Ending → List ℕ → Type 0 where
  has_no_part : (ending : Ending) (lines : List ℕ)
      → (number ≡ 0) ⊎ (count_of text < number) → left ≡ source
      → RunsTell state k (λ kept. NoSuchPart (count_of text)) (λ kept. []) start now ending lines
      → SaysFrom state draws k id number text start now source left before after ending lines
  has_part : (ending : Ending) (lines : List ℕ) → 1 ≤ number → number ≤ count_of text
      → SaysParts state draws k before after (parts_from id text number) start now source left
      ending lines
      → SaysFrom state draws k id number text start now source left before after ending lines

-- The source holds no long text, and all else is left alone; or its parts are said.
pub data RunsSayLong {X W : Type 0} (state : X → DiskState) (draws : W → DrawsState)
    (k : Mechanism) (id number : ℕ) (from to : SourceState) (start now : X) (source left : W)
    (before after : ℕ) : Ending → List ℕ → Type 0 where
  had_no_text : (ending : Ending) → IsNoInput LONG_LIMIT whole_text NotHex from to ending
      → now ≡ start → left ≡ source
      → RunsSayLong state draws k id number from to start now source left before after ending []
  had_text : (text : List ℕ) (ending : Ending) (lines : List ℕ)
      → IsInput LONG_LIMIT whole_text from to text
      → SaysFrom state draws k id number text start now source left before after ending lines
      → RunsSayLong state draws k id number from to start now source left before after ending lines

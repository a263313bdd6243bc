-- What the types of the code stand for.
use Rattle.std.specs.Prelude.{ℕ, List, [], Option, Some, None}
use Rattle.dr_base.specs.declared.position.Side.{Side}
use Rattle.boxes.specs.Parts.{Part as LongPart}
use Rattle.session_model.specs.Contents.{Content, part_content, text_content}
use Rattle.session_model.specs.declared.answer.Amount.{Amount}
use Rattle.dr_model.specs.Machines.Events.{Event, PacketSource, SideCall, does, drops, drops_long, of_bytes, of_flip, of_number, of_position, says, seeds, shows_awaiting, shows_inbox, shows_state, takes}
use Rattle.scripts.specs.Heads.{Headed}
use Rattle.scripts.specs.Script.{lines_of}
use Rattle.scripts.specs.Words.{hex_read}
use Rattle.scripts.specs.declared.call.Call.{Call}
use Rattle.scripts.specs.declared.call.Call.TheVariants.{Drop, DropLong, Say, Take}
use Rattle.scripts.specs.declared.call.Source.{Source}
use Rattle.scripts.specs.declared.call.Source.TheVariants.{At, Nth, Flipped, Bytes}
use Rattle.scripts.specs.declared.head.Head.{Head}
use Rattle.scripts.specs.declared.line.Line.{Line}
use Rattle.scripts.specs.declared.line.Line.TheVariants.{Seed, Does, Inbox, Awaiting, State}
use Rattle.scripts.specs.declared.said.Said.{Said}
use Rattle.scripts.specs.declared.said.Said.TheVariants.{Part, Text}
use Rattle.scripts.specs.declared.said.SaidPart.{SaidPart}

-- bytes that were written in hex, none where the digits aren't such
abbrev pub or_empty : Option (List ℕ) → List ℕ
or_empty None = []
or_empty (Some bytes) = bytes

abbrev pub bytes_of_hex : List ℕ → List ℕ
bytes_of_hex digits = or_empty (hex_read digits)

-- a packet that a line says
abbrev pub source_of : Source → PacketSource
source_of (At p) = of_position p
source_of (Nth nth) = of_number nth
source_of (Flipped p bit) = of_flip p bit
source_of (Bytes hex) = of_bytes (bytes_of_hex hex.now)

-- what a line lets a side say: a part of a long text, or any content
abbrev pub part_said : SaidPart → LongPart
part_said part = record {
  id = part.id;
  number = part.number;
  count = part.count;
  bytes = part.bytes.now;
}

abbrev pub content_said : Said → Content
content_said (Text text) = text_content text.now
content_said (Part part) = part_content (part_said part)

-- a call as a line says it
abbrev pub CallOfLine : Type 0
CallOfLine = Call Said Source Amount

abbrev pub call_seen : CallOfLine → SideCall
call_seen (Say said) = says (content_said said)
call_seen (Take source) = takes (source_of source)
call_seen (Drop items amount) = drops items amount
call_seen (DropLong id) = drops_long id

-- a call of a side
abbrev pub call_event : Side → CallOfLine → Event
call_event side call = does side (call_seen call)

-- what a line says without a stop
abbrev pub event_of : Line → Event
event_of (Seed seed) = seeds seed
event_of (Does side call) = call_event side call
event_of (Inbox side) = shows_inbox side
event_of (Awaiting side) = shows_awaiting side
event_of (State side) = shows_state side

-- the lines before the deeds
abbrev pub head_fields : Head → Headed
head_fields head = record {
  formats = record { first = head.first; second = head.second };
  guarded = head.guarded;
  number = head.number;
  lines = lines_of head.rest.now;
}

-- The lines of a script, printed: the deeds that a line can say, and one line that says each.
use Rattle.std.specs.Prelude.{⊤, ◌⊎◌, ◌==◌, if◌then◌else◌, true, ℕ, ◌^◌, ◌<◌, ◌≤◌, ◌≡◌, List, [], ◌∷◌, ◌++◌, length, codes, decimal, flat_map, Option, Some, None}
use Rattle.hex.specs.Hex.{IsBytes, encode_lower}
use Rattle.boxes.specs.Parts.{IsPart, Part, part_read}
use Rattle.boxes.specs.declared.kinds.TheConstants.{PART_KIND}
use Rattle.dr_base.specs.declared.position.Position.{Position}
use Rattle.dr_disk.specs.declared.call.Mode.{Mode}
use Rattle.dr_disk.specs.declared.call.Mode.TheVariants.{Fill, New, Old}
use Rattle.session_model.specs.Contents.{Content, part_content, text_content}
use Rattle.session_model.specs.declared.answer.Amount.{Amount}
use Rattle.session_model.specs.declared.answer.Amount.TheVariants.{All, Exactly}
use Rattle.dr_model.specs.Machines.Events.{Event, PacketSource, SideCall, cuts, does, drops, drops_long, of_bytes, of_flip, of_number, of_position, says, seeds, shows_awaiting, shows_inbox, shows_state, takes}
use Rattle.answer_lines.specs.Answers.{drop_word, position_text}
use Rattle.scripts.specs.Deeds.{Deed, acts, fails, joins, reopens, stops, syncs}
use Rattle.scripts.specs.Sides.{side_text}
use Rattle.scripts.specs.Words.{may_stop}
use Rattle.scripts.specs.declared.hexed.TheConstants.{HEX_LIMIT}

-- `all`, or a number
unfoldable pub amount_text : Amount → List ℕ
amount_text All = codes "all"
amount_text (Exactly n) = decimal n

-- a packet that a side takes
unfoldable pub source_text : PacketSource → List ℕ
source_text (of_position p) = codes "take " ++ position_text p
source_text (of_number nth) = codes "take #" ++ decimal nth
source_text (of_flip p bit) = codes "flip " ++ position_text p ++ codes " " ++ decimal bit
source_text (of_bytes bytes) = codes "bytes " ++ encode_lower bytes

-- a part of a long text
unfoldable pub part_said_text : Part → List ℕ
part_said_text part =
    codes "part " ++ (decimal part.id ++ codes " " ++ (decimal part.number ++ codes " "
    ++ (decimal part.count ++ codes " " ++ part.bytes)))

-- a text, or the part that its bytes are read as
abbrev pub said_text : List ℕ → Option Part → List ℕ
said_text bytes None = codes "say " ++ bytes
said_text bytes (Some part) = part_said_text part

-- the part that is said, if it is one
abbrev pub part_in : Content → Option Part
part_in content = if content.kind == PART_KIND then part_read content.bytes else None

-- what a side is called to do
unfoldable pub call_text : SideCall → List ℕ
call_text (says content) = said_text content.bytes (part_in content)
call_text (takes source) = source_text source
call_text (drops items amount) = drop_word items ++ amount_text amount
call_text (drops_long id) = codes "done-long " ++ decimal id

-- the line that says an event: a seed is no side's, and no line says that an event is cut off
unfoldable pub event_text : Event → List ℕ
event_text (seeds seed) = codes "seed " ++ encode_lower seed
event_text (does side call) = side_text side ++ call_text call
event_text (shows_inbox side) = side_text side ++ codes "inbox"
event_text (shows_awaiting side) = side_text side ++ codes "awaiting"
event_text (shows_state side) = side_text side ++ codes "state"
event_text (cuts took event) = []

-- how a disk crashes
unfoldable pub mode_text : Mode → List ℕ
mode_text Old = codes "old"
mode_text New = codes "new"
mode_text (Fill byte) = encode_lower (byte ∷ [])

-- a call in which the disk stops
unfoldable pub stop_text : ℕ → Mode → List ℕ → List ℕ
stop_text n mode words =
    codes "stop " ++ (decimal n ++ codes " " ++ (mode_text mode ++ codes " " ++ words))

-- a call in which the disk fails once
unfoldable pub fail_text : ℕ → List ℕ → List ℕ
fail_text n words = codes "fail " ++ (decimal n ++ codes " " ++ words)

-- a sync, or one that loses a reply
unfoldable pub sync_text : Option ℕ → List ℕ
sync_text None = codes "sync"
sync_text (Some lost) = codes "lose " ++ decimal lost

-- a look at the long text of an id
unfoldable pub join_text : ℕ → List ℕ
join_text id = codes "long " ++ decimal id

-- the line that says a deed
unfoldable pub line_text : Deed → List ℕ
line_text (acts event) = event_text event
line_text (stops n mode side call) = side_text side ++ stop_text n mode (call_text call)
line_text (fails n side call) = side_text side ++ fail_text n (call_text call)
line_text (reopens side) = side_text side ++ codes "open"
line_text (syncs side lost) = side_text side ++ sync_text lost
line_text (joins side id) = side_text side ++ join_text id

-- numbers below 2^32
abbrev pub IsNumbered : Position → Type 0
IsNumbered p = (p.epoch < 2 ^ 32) × (p.index < 2 ^ 32)

abbrev pub IsAmount : Amount → Type 0
IsAmount All = ⊤
IsAmount (Exactly n) = n < 2 ^ 32

-- what a line can say: numbers are below 2^32, a seed has 32 bytes, and given bytes are at most
-- HEX_LIMIT
abbrev pub IsSayableSource : PacketSource → Type 0
IsSayableSource (of_position p) = IsNumbered p
IsSayableSource (of_number nth) = nth < 2 ^ 32
IsSayableSource (of_flip p bit) = IsNumbered p × (bit < 2 ^ 32)
IsSayableSource (of_bytes bytes) = (length bytes ≤ HEX_LIMIT) × IsBytes bytes

-- a lawful part, whose id is below 2^32
abbrev pub IsPartSaid : Content → Part → Type 0
IsPartSaid content part = (content ≡ part_content part) × IsPart part × (part.id < 2 ^ 32)

-- a text, or such a part
abbrev pub IsSayableContent : Content → Type 0
IsSayableContent content =
    (content ≡ text_content content.bytes) ⊎ ((part : Part) × IsPartSaid content part)

abbrev pub IsSayableCall : SideCall → Type 0
IsSayableCall (says content) = IsSayableContent content
IsSayableCall (takes source) = IsSayableSource source
IsSayableCall (drops items amount) = IsAmount amount
IsSayableCall (drops_long id) = id < 2 ^ 32

-- whether an event is cut off, no line says
abbrev pub IsSayableEvent : Event → Type 0
IsSayableEvent (seeds seed) = (length seed ≡ 32) × IsBytes seed
IsSayableEvent (does side call) = IsSayableCall call
IsSayableEvent (shows_inbox side) = ⊤
IsSayableEvent (shows_awaiting side) = ⊤
IsSayableEvent (shows_state side) = ⊤
IsSayableEvent (cuts took event) = ⊥

-- a byte that a crash leaves is one
abbrev pub IsMode : Mode → Type 0
IsMode (Fill byte) = IsBytes (byte ∷ [])
IsMode _ = ⊤

-- what is counted has a number from 1, below 2^32 too
abbrev pub CountsFromOne : ℕ → Type 0
CountsFromOne n = (1 ≤ n) × (n < 2 ^ 32)

abbrev pub IsReply : Option ℕ → Type 0
IsReply None = ⊤
IsReply (Some lost) = CountsFromOne lost

-- a deed that a line can say: a disk stops or fails in a call
abbrev pub IsSayable : Deed → Type 0
IsSayable (acts event) = IsSayableEvent event
IsSayable (stops n mode side call) =
    (n < 2 ^ 32) × IsMode mode × (may_stop call ≡ true) × IsSayableCall call
IsSayable (fails n side call) = CountsFromOne n × (may_stop call ≡ true) × IsSayableCall call
IsSayable (reopens side) = ⊤
IsSayable (syncs side lost) = IsReply lost
IsSayable (joins side id) = id < 2 ^ 32

-- deeds in lines
abbrev pub script_text : List Deed → List ℕ
script_text deeds = flat_map (λ deed. line_text deed ++ codes "\n") deeds

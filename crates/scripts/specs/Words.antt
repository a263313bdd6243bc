-- What a line of a script says.
use Rattle.std.specs.Prelude.{ℕ, ◌/◌, ◌==◌, Bool, true, false, nat_le, List, [], length, nat_eq, slice_index, Option, Some, None, option_map, codes, if◌then◌else◌}
use Rattle.std.specs.Cmp.Lexicographic.{pointwise}
use Rattle.std.specs.Option.{option_and_then, option_or}
use Rattle.std.specs.Result.{result_ok}
use Rattle.hex.specs.Hex.{decode_sized}
unfoldable pub use Rattle.script_parts.specs.Parts.{after_prefix, halves_of}
use Rattle.boxes.specs.declared.kinds.TheConstants.{TEXT_KIND}
use Rattle.dr_disk.specs.declared.call.Mode.{Mode}
use Rattle.dr_disk.specs.declared.call.Mode.TheVariants.{Fill, New, Old}
use Rattle.dr_base.specs.declared.position.Position.{Position}
use Rattle.dr_base.specs.declared.position.Side.{Side}
use Rattle.dr_base.specs.declared.position.Side.TheVariants.{First, Second}
use Rattle.session_model.specs.Contents.{text_content}
use Rattle.session_model.specs.declared.answer.Amount.{Amount}
use Rattle.session_model.specs.declared.answer.Amount.TheVariants.{All, Exactly}
use Rattle.session_model.specs.declared.answer.Items.{Items}
use Rattle.session_model.specs.declared.answer.Items.TheVariants.{Packets, Texts}
use Rattle.dr_model.specs.Machines.Events.{Event, PacketSource, SideCall, does, drops, drops_long, of_bytes, of_flip, of_number, of_position, says, seeds, shows_awaiting, shows_inbox, shows_state, takes}
use Rattle.answer_lines.specs.Answers.{drop_word}
use Rattle.scripts.specs.Deeds.{Deed, acts, fails, joins, reopens, stops, syncs}
use Rattle.scripts.specs.Longs.{drop_long_words, join_words, part_words}
use Rattle.scripts.specs.Number.{script_number_read}
use Rattle.scripts.specs.declared.hexed.TheConstants.{DIGIT_LIMIT}

-- the line is this text
abbrev pub is_text : List ℕ → List ℕ → Bool
is_text text line = pointwise nat_eq line text

-- `all`, or a number
unfoldable pub amount_words : List ℕ → Option Amount
amount_words text = if is_text (codes "all") text then Some All else option_map Exactly (script_number_read text)

-- two numbers, an epoch and an index
abbrev pub numbers_read : List ℕ × List ℕ → Option Position
numbers_read halves = option_and_then (λ epoch. option_map (λ index. record { epoch = epoch; index = index }) (script_number_read halves.1)) (script_number_read halves.0)

-- an epoch, a point and an index
unfoldable pub position_read : List ℕ → Option Position
position_read text = option_and_then numbers_read (halves_of 46 text)

-- bytes in hex, in at most DIGIT_LIMIT digits
unfoldable pub hex_read : List ℕ → Option (List ℕ)
hex_read text = if nat_le (length text) DIGIT_LIMIT then result_ok (decode_sized text (length text / 2)) else None

-- `seed` and 64 hex digits
unfoldable pub seed_read : List ℕ → Option Event
seed_read line = option_map seeds (option_and_then (λ digits. result_ok (decode_sized digits 32)) (after_prefix (codes "seed ") line))

-- what stands after a word and a space; nothing where the word stands alone
abbrev pub text_after : List ℕ → List ℕ → Option (List ℕ)
text_after word words =
    if is_text word words then Some []
    else option_and_then (after_prefix (codes " ")) (after_prefix word words)

-- `say` and a text
unfoldable pub say_words : List ℕ → Option SideCall
say_words words = option_map (λ text. says (text_content text)) (text_after (codes "say") words)

-- `#` and a number, or a position
abbrev pub packet_read : List ℕ → Option PacketSource
packet_read text =
    option_or
    (option_map of_number (option_and_then script_number_read (after_prefix (codes "#") text)))
    (option_map of_position (position_read text))

-- `take` and a packet
unfoldable pub take_words : List ℕ → Option PacketSource
take_words words = option_and_then packet_read (after_prefix (codes "take ") words)

-- a position, a space, and the number of a bit
abbrev pub flip_read : List ℕ × List ℕ → Option PacketSource
flip_read halves =
    option_and_then (λ p. option_map (of_flip p) (script_number_read halves.1))
    (position_read halves.0)

-- `flip`, a position, and the number of a bit
unfoldable pub flip_words : List ℕ → Option PacketSource
flip_words words =
    option_and_then flip_read (option_and_then (halves_of 32) (after_prefix (codes "flip ") words))

-- `bytes` and bytes in hex
unfoldable pub bytes_words : List ℕ → Option PacketSource
bytes_words words =
    option_map of_bytes (option_and_then hex_read (text_after (codes "bytes") words))

-- a packet that a side takes
abbrev pub source_words : List ℕ → Option PacketSource
source_words words = option_or (take_words words) (option_or (flip_words words) (bytes_words words))

-- the word of these items, and an amount
unfoldable pub drop_words : Items → List ℕ → Option SideCall
drop_words items words =
    option_map (drops items) (option_and_then amount_words (after_prefix (drop_word items) words))

-- what a side is called to do: a text, a part of a long one, a packet, `sent` or `done` and an
-- amount, or the parts of a long text leave
unfoldable pub called_words : List ℕ → Option SideCall
called_words words =
    option_or (say_words words) (option_or (part_words words)
    (option_or (option_map takes (source_words words)) (option_or (drop_words Packets words)
    (option_or (drop_words Texts words) (drop_long_words words)))))

-- `inbox`, `awaiting` or `state`
unfoldable pub look_words : Side → List ℕ → Option Event
look_words side words =
    if is_text (codes "inbox") words then Some (shows_inbox side)
    else (if is_text (codes "awaiting") words then Some (shows_awaiting side)
    else (if is_text (codes "state") words then Some (shows_state side) else None))

-- what stands after a side: a call, or a look at it
unfoldable pub side_words : Side → List ℕ → Option Event
side_words side words =
    option_or (option_map (does side) (called_words words)) (look_words side words)

-- ---- a side's line

-- the side that a line names, and what stands after it
unfoldable pub side_named : List ℕ → Option (Side × List ℕ)
side_named line =
    option_or (option_map (λ words. (First, words)) (after_prefix (codes "first ") line))
    (option_map (λ words. (Second, words)) (after_prefix (codes "second ") line))

-- what these words of a side say, after its name
abbrev pub sided : {D : Type 0} → (Side → List ℕ → Option D) → List ℕ → Option D
sided words line =
    option_and_then (λ (named : Side × List ℕ). words named.0 named.1) (side_named line)

-- the event that a line says
unfoldable pub plain_read : List ℕ → Option Event
plain_read line = option_or (seed_read line) (sided side_words line)

-- ---- a stop

-- `old`, `new`, or a byte in two hex digits
unfoldable pub mode_read : List ℕ → Option Mode
mode_read text =
    if is_text (codes "old") text then Some Old
    else (if is_text (codes "new") text then Some New
    else option_map (λ bytes. Fill (slice_index bytes 0)) (result_ok (decode_sized text 1)))

-- whether a disk may stop or fail in a call: in a text, but in no part of a long one, in a packet
-- as the network holds it, or in a number of items
abbrev pub is_network : PacketSource → Bool
is_network (of_position p) = true
is_network (of_number nth) = true
is_network _ = false

abbrev pub is_exact : Amount → Bool
is_exact All = false
is_exact (Exactly n) = true

abbrev pub may_stop : SideCall → Bool
may_stop (says content) = content.kind == TEXT_KIND
may_stop (takes source) = is_network source
may_stop (drops items amount) = is_exact amount
may_stop (drops_long id) = false

abbrev pub if_stops : SideCall → Option SideCall
if_stops call = if may_stop call then Some call else None

unfoldable pub call_words : List ℕ → Option SideCall
call_words words = option_and_then if_stops (called_words words)

-- a mode, a space and a call
abbrev pub crash_read : Side → ℕ → List ℕ × List ℕ → Option Deed
crash_read side n halves =
    option_and_then (λ mode. option_map (stops n mode side) (call_words halves.1))
    (mode_read halves.0)

-- a number, a space, and the rest
abbrev pub stop_read : Side → List ℕ × List ℕ → Option Deed
stop_read side halves = option_and_then (λ n. option_and_then (crash_read side n) (halves_of 32 halves.1)) (script_number_read halves.0)

-- `stop`, how many writes and syncs pass, the mode of the crash, and the call
unfoldable pub stop_words : Side → List ℕ → Option Deed
stop_words side words = option_and_then (stop_read side) (option_and_then (halves_of 32) (after_prefix (codes "stop ") words))

-- ---- a failure, and an opening

-- calls and replies are counted from 1
abbrev pub if_counted : ℕ → Option ℕ
if_counted n = if nat_le 1 n then Some n else None

-- a number, a space and a call
abbrev pub fail_read : Side → List ℕ × List ℕ → Option Deed
fail_read side halves =
    option_and_then (λ n. option_map (fails n side) (call_words halves.1))
    (option_and_then if_counted (script_number_read halves.0))

-- `fail`, the number of the write or sync that fails, and the call
unfoldable pub fail_words : Side → List ℕ → Option Deed
fail_words side words = option_and_then (fail_read side) (option_and_then (halves_of 32) (after_prefix (codes "fail ") words))

-- `open`
unfoldable pub open_words : Side → List ℕ → Option Deed
open_words side words = if is_text (codes "open") words then Some (reopens side) else None

-- ---- a sync

-- `lose`, and the number of the reply that is lost
unfoldable pub lose_words : List ℕ → Option ℕ
lose_words words = option_and_then if_counted (option_and_then script_number_read (after_prefix (codes "lose ") words))

-- `sync`, or a sync that loses a reply
unfoldable pub sync_words : List ℕ → Option (Option ℕ)
sync_words words = if is_text (codes "sync") words then Some None else option_map Some (lose_words words)

-- ---- any line

-- what stands after a side and isn't an event alone: its disk stops or fails, its client opens again,
-- it syncs, or it shows a long text
unfoldable pub deed_words : Side → List ℕ → Option Deed
deed_words side words =
    option_or (stop_words side words) (option_or (fail_words side words)
    (option_or (open_words side words) (option_or (option_map (syncs side) (sync_words words))
    (option_map (joins side) (join_words words)))))

-- what a line says; every other line is bad
unfoldable pub line_read : List ℕ → Option Deed
line_read line = option_or (option_map acts (plain_read line)) (sided deed_words line)

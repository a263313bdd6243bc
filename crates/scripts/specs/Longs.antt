-- What a line says of long texts: a part that a side says, parts that leave its inbox, and a look
-- at one that they make up.
use Rattle.std.specs.Prelude.{Bool, List, None, Option, Some, [], codes, if◌then◌else◌, length, nat_le, option_map, ℕ, ◌&&◌}
use Rattle.std.specs.Option.{option_and_then, unwrap_or}
use Rattle.boxes.specs.Parts.{Part}
use Rattle.boxes.specs.declared.limits.TheConstants.{PARTS_LIMIT, PART_LIMIT}
use Rattle.dr_model.specs.Machines.Events.{SideCall, drops_long, says}
use Rattle.session_model.specs.Contents.{part_content}
unfoldable pub use Rattle.script_parts.specs.Parts.{after_prefix, halves_of}
use Rattle.scripts.specs.Number.{script_number_read}

-- ---- a part

-- a part is lawful: its number is from 1 to the count, and neither the count nor the bytes are too
-- many
abbrev pub is_lawful : Part → Bool
is_lawful part =
    (nat_le 1 part.number && nat_le part.number part.count)
    && (nat_le part.count PARTS_LIMIT && nat_le (length part.bytes) PART_LIMIT)

abbrev pub if_lawful : Part → Option Part
if_lawful part = if is_lawful part then Some part else None

-- the halves around the first space; all, and nothing, where there is none
abbrev pub halves_or_all : List ℕ → List ℕ × List ℕ
halves_or_all text = unwrap_or (halves_of 32 text) (text, [])

-- a count of parts, and the bytes behind it; the id and the number stand before
abbrev pub part_with : ℕ → ℕ → List ℕ → ℕ → Part
part_with id number bytes count =
    record { id = id; number = number; count = count; bytes = bytes }

abbrev pub counted_part : ℕ → ℕ → List ℕ × List ℕ → Option Part
counted_part id number halves =
    option_and_then (λ count. if_lawful (part_with id number halves.1 count))
    (script_number_read halves.0)

-- a number, and what stands behind it
abbrev pub numbered_part : ℕ → List ℕ × List ℕ → Option Part
numbered_part id halves =
    option_and_then (λ number. counted_part id number (halves_or_all halves.1))
    (script_number_read halves.0)

-- an id, and what stands behind it
abbrev pub identified_part : List ℕ × List ℕ → Option Part
identified_part halves =
    option_and_then (λ id. option_and_then (numbered_part id) (halves_of 32 halves.1))
    (script_number_read halves.0)

-- `part`, the id of a long text, the part's number, how many parts there are, and its bytes; no
-- space has to stand before none
unfoldable pub part_words : List ℕ → Option SideCall
part_words words =
    option_map (λ part. says (part_content part))
    (option_and_then identified_part
    (option_and_then (halves_of 32) (after_prefix (codes "part ") words)))

-- ---- a long text

-- a word, and the id of a long text
abbrev pub id_after : List ℕ → List ℕ → Option ℕ
id_after word words = option_and_then script_number_read (after_prefix word words)

-- `done-long`, and an id: its parts leave the inbox
unfoldable pub drop_long_words : List ℕ → Option SideCall
drop_long_words words = option_map drops_long (id_after (codes "done-long ") words)

-- `long`, and an id: it is shown
unfoldable pub join_words : List ℕ → Option ℕ
join_words words = id_after (codes "long ") words

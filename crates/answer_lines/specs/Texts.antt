-- Texts in lines: what an inbox holds, long texts, and the positions of those that wait for a receipt.
use Rattle.std.specs.Prelude.{ℕ, Bool, ◌==◌, ◌&&◌, ◌||◌, not, nat_le, List, [], ◌∷◌, ◌++◌, flat_map, codes, decimal, Option, Some, None, if◌then◌else◌}
use Rattle.hex.specs.Hex.{encode_lower}
use Rattle.boxes.specs.Entries.{Entry}
use Rattle.boxes.specs.Parts.{Part, part_read}
use Rattle.boxes.specs.declared.kinds.TheConstants.{PART_KIND}
use Rattle.dr_base.specs.declared.position.Position.{Position}
use Rattle.answer_lines.specs.Answers.{position_text}

-- a printable byte, but for the quote and the backslash
abbrev pub is_plain : ℕ → Bool
is_plain byte = (nat_le 32 byte && nat_le byte 126) && not (byte == 34 || byte == 92)

-- a plain byte as it is; every other one as `\x` and two hex digits
unfoldable pub escaped : ℕ → List ℕ
escaped byte = if is_plain byte then byte ∷ [] else codes "\\x" ++ encode_lower (byte ∷ [])

-- the line of a text with its position, after a head
unfoldable pub text_line : List ℕ → Entry → List ℕ
text_line head entry =
    head ++ position_text entry.position ++ codes " \"" ++ flat_map escaped entry.text ++ codes "\"\n"

-- which of how many parts a part is
unfoldable pub part_number_text : ℕ → ℕ → List ℕ
part_number_text number count = codes " part " ++ decimal number ++ codes "/" ++ decimal count

-- the line of a part of a long text with its position, after a head
unfoldable pub part_line : List ℕ → Position → Part → List ℕ
part_line head p part =
    head ++ position_text p ++ part_number_text part.number part.count ++ codes " of " ++ decimal part.id ++ codes "\n"

-- the part that an entry holds, if that is what it holds
abbrev pub part_held : Entry → Option Part
part_held entry = if entry.kind == PART_KIND then part_read entry.text else None

-- the line of an entry's content, after a head: of a part, or else of a text
abbrev pub line_of_content : List ℕ → Entry → Option Part → List ℕ
line_of_content head entry (Some part) = part_line head entry.position part
line_of_content head entry None = text_line head entry

unfoldable pub content_line : List ℕ → Entry → List ℕ
content_line head entry = line_of_content head entry (part_held entry)

-- the line of a position alone, after a head
unfoldable pub place_line : List ℕ → Position → List ℕ
place_line head p = head ++ position_text p ++ codes "\n"

-- The record of a box: its version (1 byte), the name after its length (1), its guard
-- (`GuardFields`), the last number (8), the count of packets (1); then for each packet its number
-- (8), and the packet after its length (2). In each version a box has one text.
use Rattle.std.specs.Prelude.{◌≡◌, ℕ, ◌+◌, ◌≤◌, ◌&&◌, Bool, nat_le, nat_lt, List, ◌++◌, length, Option, Result, Ok, Err}
use Rattle.std.specs.Int.{w8, w16, w64, to_be_bytes}
use Rattle.grammar.specs.Reader.{Reader, number, checked, mapped, both, sized, items, whole}
use Rattle.grammar.specs.Standing.{Standing}
use Rattle.grammar.specs.Printer.{print_items, print_sized}
use Rattle.relay_core.specs.declared.reading.Head.{Head}
use Rattle.relay_core.specs.declared.limits.TheConstants.{BOX_LIMIT}
use Rattle.relay_core.specs.Boxes.{Kept, Box}
use Rattle.relay_core.specs.GuardFields.{guard_field, guard_text}
use Rattle.relay_core.specs.Lawful.{last_number}
use Rattle.relay_core.specs.Versions.{newest, version_code, version_field}
use Rattle.relay_core.specs.declared.versions.Version.{Version}
use Rattle.relay_guard.specs.declared.guard.Guard.{Guard}
use Rattle.relay_wire.specs.declared.limits.TheConstants.{NAME_LIMIT, PACKET_LIMIT}
use Rattle.relay_wire.specs.Names.{is_name, is_packet}

-- ---- what stands before the packets

abbrev pub HeadParts : Type 0
HeadParts = Version × (List ℕ × (Option Guard × (ℕ × ℕ)))

abbrev pub version_in : HeadParts → Version
version_in h = h.0

abbrev pub name_in : HeadParts → List ℕ
name_in h = h.1.0

abbrev pub guard_in : HeadParts → Option Guard
guard_in h = h.1.1.0

abbrev pub last_in : HeadParts → ℕ
last_in h = h.1.1.1.0

abbrev pub count_in : HeadParts → ℕ
count_in h = h.1.1.1.1

abbrev pub is_name_size : ℕ → Bool
is_name_size n = nat_le 1 n && nat_le n NAME_LIMIT

abbrev pub is_count : ℕ → Bool
is_count n = nat_le n BOX_LIMIT

unfoldable pub name_field : Reader (List ℕ)
name_field = sized w8 is_name_size is_name

-- version, name, guard, last number, count of packets
unfoldable pub head_fields : Reader HeadParts
head_fields =
    both version_field (λ version.
    both name_field (λ _.
    both (guard_field version) (λ _.
    both (number w64) (λ _.
    checked is_count (number w8)))))

-- ---- packets, each with a number above that of the one before, and not above the last that was given

abbrev pub is_kept_number : ℕ → ℕ → ℕ → Bool
is_kept_number low last n = nat_lt low n && nat_le n last

abbrev pub is_packet_size : ℕ → Bool
is_packet_size n = nat_le 1 n && nat_le n PACKET_LIMIT

unfoldable pub packet_field : Reader (List ℕ)
packet_field = sized w16 is_packet_size is_packet

abbrev pub kept_packet_of : ℕ × List ℕ → Kept
kept_packet_of e = record { number = e.0; packet = e.1 }

unfoldable pub kept_packet_field : ℕ → ℕ → Reader Kept
kept_packet_field low last =
    mapped kept_packet_of
    (both (checked (is_kept_number low last) (number w64)) (λ _. packet_field))

-- the packet after those before it
abbrev pub next_kept : ℕ → List Kept → Reader Kept
next_kept last before = kept_packet_field (last_number 0 before) last

-- ---- the record

abbrev pub record_parts : Reader (HeadParts × List Kept)
record_parts = both head_fields (λ h. items (next_kept (last_in h)) (count_in h))

abbrev pub box_of_parts : HeadParts × List Kept → Box
box_of_parts e = record {
  name = name_in e.0;
  last = last_in e.0;
  packets = e.1;
  guard = guard_in e.0;
}

unfoldable pub box_fields : Reader Box
box_fields = mapped box_of_parts record_parts

-- the box that a text is the record of, in whichever version, or the place of the first fault
unfoldable pub box_read : List ℕ → Result Box ℕ
box_read = whole box_fields

-- a text is a record of this box
abbrev pub IsRecordOf : Box → List ℕ → Type 0
IsRecordOf box text = box_read text ≡ Ok box

-- a box in a version
pub record Saved : Type 0 where
  pub version : Version
  pub box : Box

abbrev pub saved_of_parts : HeadParts × List Kept → Saved
saved_of_parts e = record { version = version_in e.0; box = box_of_parts e }

unfoldable pub saved_read : List ℕ → Result Saved ℕ
saved_read = whole (mapped saved_of_parts record_parts)

-- ---- printed

abbrev pub head_text : Version → List ℕ → Option Guard → ℕ → ℕ → List ℕ
head_text version name guard last count =
    to_be_bytes w8 (version_code version)
    ++ (print_sized w8 name
    ++ (guard_text version guard
    ++ (to_be_bytes w64 last ++ to_be_bytes w8 count)))

abbrev pub kept_packet_text : Kept → List ℕ
kept_packet_text kept = to_be_bytes w64 kept.number ++ print_sized w16 kept.packet

unfoldable pub saved_text : Saved → List ℕ
saved_text s =
    head_text s.version s.box.name s.box.guard s.box.last (length s.box.packets)
    ++ print_items kept_packet_text s.box.packets

-- the text of a box's record, which is that of the newest version
unfoldable pub box_text : Box → List ℕ
box_text box = saved_text (record { version = newest; box = box })

-- ---- what code read

-- what stands before the packets, as it was lent
abbrev pub head_seen : Head → HeadParts
head_seen head = (head.version, (head.name.now, (head.guard, (head.last, head.count))))

-- reading went on by at most this many bytes, and so did a fault
abbrev pub EndsWithin : {X : Type 0} → ℕ → Standing → Standing → Result X ℕ → Type 0
EndsWithin most old new (Ok x) = new.at ≤ old.at + most
EndsWithin most old new (Err at) = at ≤ old.at + most

-- How long a box's record is.
use Rattle.std.proofs.Common.{◌≡◌, ℕ, ◌*◌, ◌≤◌, true, List, ◌++◌, length, get_or, arith, inl, inr, length-append}
use Rattle.std.specs.Prelude.{All}
use Rattle.std.specs.Int.{w8, w64, to_be_bytes}
use Rattle.std.proofs.lemmas.Bool.Decides.{nat_tests}
use Rattle.std.proofs.lemmas.Bool.{and_parts}
use Rattle.grammar.specs.Printer.{HasRoom, print_items}
use Rattle.grammar.proofs.Printing.{size-items}
use Rattle.relay_core.specs.Boxes.{Kept, Box}
use Rattle.relay_core.specs.GuardFields.{guard_text}
use Rattle.relay_core.specs.Lawful.{IsLawfulBox}
use Rattle.relay_core.specs.Record.{box_text, head_text, is_name_size, is_packet_size, kept_packet_text, saved_text}
use Rattle.relay_core.specs.Versions.{newest}
use Rattle.relay_core.specs.declared.limits.TheConstants.{BOX_ITEM_LIMIT, RECORD_LIMIT}
use Rattle.relay_core.proofs.GuardGrammar.{guard_size}
use Rattle.relay_wire.specs.declared.limits.TheConstants.{NAME_LIMIT, PACKET_LIMIT}
use Rattle.relay_wire.specs.Names.{is_name, is_packet}

short_kept : (packet : List ℕ) → is_packet packet ≡ true → length packet ≤ PACKET_LIMIT
unfolding is_packet
short_kept packet is = most (length packet) is
  where
    most : (n : ℕ) → is_packet_size n ≡ true → n ≤ PACKET_LIMIT
    most n passes = grind (arith, nat_tests)

short_box_name : (name : List ℕ) → is_name name ≡ true → length name ≤ NAME_LIMIT
unfolding is_name
short_box_name name is = most (length name) (and_parts _ _ is).0
  where
    most : (n : ℕ) → is_name_size n ≡ true → n ≤ NAME_LIMIT
    most n passes = grind (arith, nat_tests)

packets_size : (list : List Kept) → All (λ (k : Kept). is_packet k.packet ≡ true) list
    → length (print_items kept_packet_text list) ≤ BOX_ITEM_LIMIT * length list
packets_size list are =
    size-items kept_packet_text BOX_ITEM_LIMIT list (λ k d inside. omega (arith, short_kept (get_or list k d).packet (are k d inside)))

pub record_size : (box : Box) → IsLawfulBox box → length (box_text box) ≤ RECORD_LIMIT
unfolding box_text saved_text
record_size box lawful =
    let name = short_box_name box.name lawful.named in
    let guard = guard_size newest box.guard lawful.guard in
    let packets = packets_size box.packets lawful.packets in
    let count = lawful.count in
    let head = head_text newest box.name box.guard box.last (length box.packets) in
    let behind_guard = to_be_bytes w64 box.last ++ to_be_bytes w8 (length box.packets) in
    let of_guard = guard_text newest box.guard in
    omega (
      arith,
      name,
      guard,
      packets,
      count,
      length-append head (print_items kept_packet_text box.packets),
      length-append box.name (of_guard ++ behind_guard),
      length-append of_guard behind_guard,
    )

-- a buffer that has room for a lawful box's record holds it
pub record_fits : (box : Box) (room : ℕ) → IsLawfulBox box → HasRoom RECORD_LIMIT (box_text box) room → length (box_text box) ≤ room
record_fits box room lawful (inl fits) = fits
record_fits box room lawful (inr fits) = omega (arith, fits, record_size box lawful)

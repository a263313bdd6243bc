-- The record of a box in a version, both ways.
use Rattle.std.proofs.Common.{◌≡◌, ℕ, ◌^◌, ◌<◌, ◌≤◌, Bool, true, false, List, [], length, get_or, take, refl, ap, arith, if◌then◌else◌}
use Rattle.std.specs.Prelude.{All, ◌==◌}
use Rattle.std.specs.Int.{w8, w16, w64, to_be_bytes}
use Rattle.std.proofs.lemmas.Bool.Decides.{nat_tests}
use Rattle.std.proofs.lemmas.List.Elements.{All-push}
use Rattle.std.proofs.lemmas.Bool.{and_parts}
use Rattle.grammar.specs.Printer.{AreItems, no_items, and_item}
use Rattle.grammar.specs.Grammar.{IsGrammar, IsWholeGrammar}
use Rattle.grammar.specs.Reader.{mapped}
use Rattle.grammar.proofs.Combined.{both_grammar, checked_grammar, mapped_grammar}
use Rattle.grammar.proofs.Fields.{number_grammar}
use Rattle.dr_base.proofs.Widths.{exact8, exact16, exact64}
use Rattle.grammar.proofs.Lists.{items_grammar, items-from, length-items, sized_grammar}
use Rattle.grammar.proofs.Whole.{whole_grammar}
use Rattle.relay_core.specs.declared.limits.TheConstants.{BOX_LIMIT}
use Rattle.relay_core.specs.Boxes.{Kept, Box}
use Rattle.relay_core.specs.Lawful.{Rises, last_number, IsLawfulBox}
use Rattle.relay_core.specs.Record.{HeadParts, Saved, count_in, guard_in, is_name_size, is_count, last_in, name_field, name_in, head_fields, is_kept_number, is_packet_size, packet_field, kept_packet_of, kept_packet_field, next_kept, record_parts, saved_of_parts, saved_read, saved_text, kept_packet_text, version_in}
use Rattle.relay_core.specs.Saved.{IsLawfulSaved}
use Rattle.relay_core.specs.Versions.{is_version, version_at, version_code, version_field}
use Rattle.relay_core.specs.declared.versions.Version.{Version}
use Rattle.relay_core.specs.declared.versions.Version.TheVariants.{One, Two}
use Rattle.relay_core.proofs.GuardGrammar.{IsGuardOf, guard_grammar}
use Rattle.relay_core.proofs.Rising.{rises-append, rises-at}
use Rattle.relay_wire.specs.Names.{is_name, is_packet}

-- ---- lengths after which names and packets stand

short_name : (name : List ℕ) → is_name name ≡ true → (length name < 2 ^ 8) × (is_name_size (length name) ≡ true)
unfolding is_name
short_name name is =
    let size = (and_parts _ _ is).0 in
    (below (length name) size, size)
  where
    below : (n : ℕ) → is_name_size n ≡ true → n < 2 ^ 8
    below n passes = grind (arith, nat_tests)

short_packet : (packet : List ℕ) → is_packet packet ≡ true → (length packet < 2 ^ 16) × (is_packet_size (length packet) ≡ true)
unfolding is_packet
short_packet packet is = (below (length packet) is, is)
  where
    below : (n : ℕ) → is_packet_size n ≡ true → n < 2 ^ 16
    below n passes = grind (arith, nat_tests)

-- ---- packets

-- a packet that may stand after those before it
record IsNext (last : ℕ) (before : List Kept) (kept : Kept) : Type 0 where
  fits : kept.number < 2 ^ 64
  above : is_kept_number (last_number 0 before) last kept.number ≡ true
  packet : is_packet kept.packet ≡ true

kept_grammar : (last : ℕ) (before : List Kept) → IsGrammar kept_packet_text (IsNext last before) (next_kept last before)
unfolding kept_packet_field packet_field
kept_grammar last before =
    mapped_grammar _ _ _
    (both_grammar _ _ _ _ _ _ (checked_grammar _ _ _ (number_grammar w64 (2 ^ 64) exact64) (is_kept_number (last_number 0 before) last)) (λ _ _.
    sized_grammar w16 (2 ^ 16) exact16 is_packet_size is_packet))
    (IsNext last before) kept_packet_of (λ kept. (kept.number, kept.packet))
    (λ e lawful. (record { fits = lawful.0.0; above = lawful.0.1; packet = lawful.1.1 }, refl))
    (λ kept lawful. (((lawful.fits, lawful.above), (short_packet kept.packet lawful.packet, lawful.packet)), refl))

between : (low last n : ℕ) → is_kept_number low last n ≡ true → (low < n) × (n ≤ last)
between low last n passes = (grind (arith, nat_tests), grind (arith, nat_tests))

is_between : (low last n : ℕ) → low < n → n ≤ last → is_kept_number low last n ≡ true
is_between low last n above below = grind (arith, nat_tests)

-- packets that were read one by one rise, and are packets
items_rise : (last n : ℕ) (list : List Kept) → AreItems (IsNext last) n list → Rises 0 last list × All (λ (k : Kept). is_packet k.packet ≡ true) list
items_rise last n list no_items = (omega arith, λ k d inside. absurd (omega (arith, inside)))
items_rise last m list (and_item n before a were lawful) =
    let shorter = items_rise last n before were in
    let above = between (last_number 0 before) last a.number lawful.above in (
      rises-append 0 last before a shorter.0 above.0 above.1,
      All-push (λ (k : Kept). is_packet k.packet ≡ true) before a shorter.1 lawful.packet,
    )

-- and packets that rise are read one by one
items_of : (box : Box) → IsLawfulBox box → AreItems (IsNext box.last) (length box.packets) box.packets
items_of box lawful =
    items-from (IsNext box.last) box.packets (record { number = 0; packet = [] })
    (λ i d inside.
    let at = rises-at 0 box.last box.packets lawful.rises i d inside in
    record {
      fits = omega (arith, at.1, lawful.numbered);
      above = is_between (last_number 0 (take i box.packets)) box.last (get_or box.packets i d).number at.0 at.1;
      packet = lawful.packets i d inside;
    })

-- ---- the record

parts_of : Saved → HeadParts × List Kept
parts_of s =
    ((s.version, (s.box.name, (s.box.guard, (s.box.last, length s.box.packets)))), s.box.packets)

version_lawful : (n : ℕ) → is_version n ≡ true → version_code (version_at n) ≡ n
version_lawful n passes = by_test (n == 1) refl
  where
    by_test : (one : Bool) → (n == 1) ≡ one → version_code (if one then One else Two) ≡ n
    by_test true is = grind (arith, nat_tests)
    by_test false is = grind (arith, nat_tests)

code_lawful : (version : Version) → ((version_code version < 2 ^ 8) × (is_version (version_code version) ≡ true)) × (version_at (version_code version) ≡ version)
code_lawful One = ((omega arith, refl), refl)
code_lawful Two = ((omega arith, refl), refl)

version_grammar : IsGrammar (λ version. to_be_bytes w8 (version_code version)) (λ version. Unit {0}) version_field
unfolding version_field
version_grammar =
    mapped_grammar (to_be_bytes w8) _ _ (checked_grammar _ _ _ (number_grammar w8 (2 ^ 8) exact8) is_version) (λ version. Unit {0}) version_at version_code
    (λ n lawful. (tt, version_lawful n lawful.1)) (λ version lawful. code_lawful version)

few : (n m : ℕ) → n ≡ m → is_count m ≡ true → n ≤ BOX_LIMIT
few n m same passes = grind (arith, nat_tests)

counted : (n : ℕ) → n ≤ BOX_LIMIT → (n < 2 ^ 8) × (is_count n ≡ true)
counted n small = (omega (arith, small), grind (arith, nat_tests))

saved_grammar : IsGrammar saved_text IsLawfulSaved (mapped saved_of_parts record_parts)
unfolding head_fields name_field saved_text parts_of
saved_grammar =
    mapped_grammar _ _ _
    (both_grammar _ _ _ _ _ _
    (both_grammar _ _ _ _ _ _ version_grammar (λ version _.
    both_grammar _ _ _ _ _ _ (sized_grammar w8 (2 ^ 8) exact8 is_name_size is_name) (λ _ _.
    both_grammar _ _ _ _ _ _ (guard_grammar version) (λ _ _.
    both_grammar _ _ _ _ _ _ (number_grammar w64 (2 ^ 64) exact64) (λ _ _.
    checked_grammar _ _ _ (number_grammar w8 (2 ^ 8) exact8) is_count)))))
    (λ h _. items_grammar kept_packet_text (IsNext (last_in h)) (next_kept (last_in h)) (kept_grammar (last_in h)) (count_in h)))
    IsLawfulSaved saved_of_parts parts_of
    (λ e lawful.
    let long = length-items (IsNext (last_in e.0)) (count_in e.0) e.1 lawful.1 in
    let rise = items_rise (last_in e.0) (count_in e.0) e.1 lawful.1 in
    let guard = lawful.0.1.1.0 in (
      record {
        box = record {
          named = lawful.0.1.0.1;
          numbered = lawful.0.1.1.1.0;
          count = few (length e.1) (count_in e.0) long lawful.0.1.1.1.1.1;
          rises = rise.0;
          packets = rise.1;
          guard = guard.lawful;
        };
        guard = guard.allowed;
      },
      ap (λ (n : ℕ). ((version_in e.0, (name_in e.0, (guard_in e.0, (last_in e.0, n)))), e.1)) long,
    ))
    (λ s lawful.
    let box = s.box in
    let is = lawful.box in
    let count = counted (length box.packets) is.count in
    let guard : IsGuardOf s.version box.guard = record { lawful = is.guard; allowed = lawful.guard } in
    (((tt, ((short_name box.name is.named, is.named), (guard, (is.numbered, count)))), items_of box is), refl))

pub record_grammar : IsWholeGrammar saved_text IsLawfulSaved saved_read
unfolding saved_read
record_grammar = whole_grammar saved_text IsLawfulSaved (mapped saved_of_parts record_parts) saved_grammar

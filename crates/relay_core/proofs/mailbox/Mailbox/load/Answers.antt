use Rattle.std.proofs.Common.{◌≡◌, ℕ, Bool, true, false, List, Ok, refl, sym, ◌∙◌, subst, arith}
use Rattle.std.specs.Prelude.{not}
use Rattle.grammar.specs.Reader.{Read}
use Rattle.grammar.specs.Standing.{Standing}
use Rattle.dr_base.proofs.Bytes.{are_bytes}
use Rattle.relay_core.specs.Boxes.{Kept}
use Rattle.relay_core.specs.Lawful.{IsLawfulBox}
use Rattle.relay_core.specs.Record.{HeadParts, head_fields, head_seen}
use Rattle.relay_core.proofs.Names.{same_name}
use Rattle.relay_core.proofs.RecordLaw.{read-lawful}
use Rattle.relay_core.proofs.TakenBoxes.{whole_box}
use Rattle.relay_core.proofs.mailbox.Mailbox.load.Goals as goal

not_false : (b : Bool) → not b ≡ false → b ≡ true
not_false true h = refl
not_false false h = absurd (let e : true ≡ false = h in cc)

pub invariant_of-self : goal.invariant_of-self
invariant_of-self c =
    let text = c.args.text.now in
    let head : Read HeadParts = record { value = head_seen c.in-Ok.head; at = c.read_head.new.cursor.at; rest = c.read_head.new.cursor.rest } in
    let packets : Read (List Kept) = record { value = c.take_packets.new.packets; at = c.take_packets.new.cursor.at; rest = c.take_packets.new.cursor.rest } in
    let was = subst (λ (s : Standing). head_fields s.at s.rest ≡ Ok head) c.new-cursor.ensures c.in-Ok.ensures.reads in
    let is_box = whole_box text head was packets c.in-Ok-take_packets.ensures c.requires in
    let lawful = read-lawful text _ (are_bytes text (λ i. omega (arith, c.type_inv.text i))) is_box in
    let name = same_name _ _ (not_false _ (sym c.ne.ensures ∙ c.if-ne.false)) ∙ c.bytes.ensures.value in
    subst (λ (n : List ℕ). IsLawfulBox (record { name = n; last = c.in-Ok.head.last; packets = packets.value; guard = c.in-Ok.head.guard })) name lawful

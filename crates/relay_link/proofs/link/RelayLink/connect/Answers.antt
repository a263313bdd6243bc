use Rattle.std.proofs.Common.{refl, sym, ap, arith, length, ◌+◌, ◌∙◌}
use Rattle.relay_wire.specs.Frames.{Held}
use Rattle.relay_link.specs.Connections.{LinkConnection, boxes_now}
use Rattle.relay_link.specs.Desks.{DeskNow}
use Rattle.relay_link.proofs.Connections.{boxes_are, connected_is, fresh_stands}
use Rattle.relay_link.proofs.link.RelayLink.connect.Goals as goal

pub invariant_of-self : goal.invariant_of-self
invariant_of-self c = (
  fresh_stands c.kept_before.result c.of.result.value c.self.inside.desk.boxes c.clear-2.new.self.items c.clear.new.self.bytes c.begin.new.self c.kept_before.ensures.most
      (c.of.ensures ∙ c.relay.ensures) c.clear-2.ensures.items (ap (λ (h : Held). h.bytes) c.clear.ensures) c.begin.ensures,
  omega (arith, c.clear-2.ensures.len),
  omega (arith, c.clear-2.ensures.capacity, c.self.invariant.2),
  omega (arith, c.clear-2.ensures.len, ap (λ (h : Held). h.place + length h.bytes) c.clear.ensures),
)

pub returns : goal.returns
returns c =
    let now : LinkConnection = record { start = c.self.inside.start.value; kept = c.self.inside.desk.kept; sent = c.self.inside.sent.items; at = c.self.inside.at; faults = c.self.inside.faults } in
    connected_is c.of.result.value _ c.begin.new.self.kept _ c.clear-2.new.self.items _ refl
    (c.of.ensures ∙ c.relay.ensures ∙ sym (boxes_are now c.self.inside.desk c.self.inside.reader.bytes c.self.invariant.0) ∙ ap boxes_now c.self.view_is)
    (ap (λ (d : DeskNow). d.kept) c.begin.ensures ∙ c.kept_before.ensures.exact) c.clear-2.ensures.items

use Rattle.std.proofs.Common.{ap, arith, length, map, ◌+◌, ◌∙◌}
use Rattle.relay_wire.specs.Frames.{Held}
use Rattle.relay_core.specs.Boxes.{empty_box}
use Rattle.relay_link.specs.Desks.{DeskNow}
use Rattle.relay_link.specs.declared.limits.TheConstants.{REPLY_LIMIT}
use Rattle.relay_link.proofs.Connections.{fresh_stands}
use Rattle.relay_link.proofs.link.RelayLink.new.Goals as goal

pub invariant_of-result : goal.invariant_of-result
invariant_of-result c = (
  fresh_stands REPLY_LIMIT c.of.result.value (map empty_box c.args.specs.now) c.in_ok-with_capacity.field-0.items c.in_ok-new.field-0.bytes c.in_ok-desk.desk (omega arith)
      (c.of.ensures ∙ c.relay.ensures ∙ ap (λ (d : DeskNow). d.boxes) c.in_ok-desk.ensures) c.in_ok-with_capacity.ensures.items (ap (λ (h : Held). h.bytes) c.in_ok-new.ensures) c.in_ok-desk.ensures,
  omega (arith, c.in_ok-with_capacity.ensures.len),
  omega (arith, c.in_ok-with_capacity.ensures.capacity),
  omega (arith, c.in_ok-with_capacity.ensures.len, ap (λ (h : Held). h.place + length h.bytes) c.in_ok-new.ensures),
)

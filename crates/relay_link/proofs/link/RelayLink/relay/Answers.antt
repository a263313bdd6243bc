use Rattle.std.proofs.Common.{sym, ap, ◌∙◌}
use Rattle.relay_link.specs.Connections.{LinkConnection, boxes_now}
use Rattle.relay_link.proofs.Connections.{boxes_are}
use Rattle.relay_link.proofs.link.RelayLink.relay.Goals as goal

pub returns-clause-boxes : goal.returns-clause-boxes
returns-clause-boxes c =
    let now : LinkConnection = record { start = c.self.inside.start.value; kept = c.self.inside.desk.kept; sent = c.self.inside.sent.items; at = c.self.inside.at; faults = c.self.inside.faults } in
    c.relay.ensures ∙ sym (boxes_are now c.self.inside.desk c.self.inside.reader.bytes c.self.invariant.0) ∙ ap boxes_now c.self.view_is

use Rattle.std.proofs.Common.{refl, rules, ap, arith, subst, length, take, drop, List, ℕ, ◌∙◌, ◌+◌, ◌-◌, ◌≤◌, ◌≡◌}
use Rattle.std.proofs.lemmas.Grind.{common_steps}
use Rattle.dr_ports.specs.Wires.{Gave}
use Rattle.relay_link.specs.Connections.{LinkConnection, connection_port}
use Rattle.relay_link.proofs.Connections.{gave, given_piece}
use Rattle.relay_link.proofs.link.RelayLinkPipe.receive.Goals as goal

pub returns-clause-receives : goal.returns-clause-receives
returns-clause-receives c =
    let count = c.min-count.result in
    let at = c.self.inside.at in
    let old : LinkConnection = record { start = c.self.inside.start.value; kept = c.self.inside.desk.kept; sent = c.self.inside.sent.items; at = at; faults = c.self.inside.faults } in
    let within : at ≤ length c.self.inside.desk.replies = c.self.invariant.0.received in
    let fits : at + count ≤ length c.self.inside.desk.replies = omega (arith, within, c.min-count.ensures, ap length c.replies.ensures) in
    let piece : take count c.put.new.out ≡ take count (drop at c.self.inside.desk.replies) =
    given_piece c.put.new.out _ c.replies-2.result.now at count (at + count - at) c.put.result (omega arith) (omega (arith, fits, ap length c.replies-2.ensures)) refl c.put.ensures.next_is c.put.ensures.front
    ∙ ap (λ (replies : List ℕ). take count (drop at replies)) c.replies-2.ensures in
    record {
      bound = search rules;
      content = subst (λ (f : LinkConnection). Gave (take count c.put.new.out) (connection_port f) (connection_port (record old { at = at + count }))) c.self.view_is
          (gave old c.self.inside.desk c.self.inside.reader.bytes c.self.invariant.0 count fits (take count c.put.new.out) piece);
      end = grind (arith, common_steps);
      err = tt;
      goes = search rules;
      cause = search rules;
      gate = search rules;
      same = search rules;
    }

pub invariant_of-self-2 : goal.invariant_of-self-2
invariant_of-self-2 c = grind (arith, common_steps)

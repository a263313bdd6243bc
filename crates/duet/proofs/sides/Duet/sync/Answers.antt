use Rattle.std.proofs.Common.{List, ap, ap₂, subst, sym, ◌∙◌, ℕ}
use Rattle.dr_base.specs.declared.position.Side.{Side}
use Rattle.dr_model.specs.Machines.Sides.{client_of}
use Rattle.dr_ports.specs.Writing.{Writes}
use Rattle.kem_laws.specs.Mechanism.{Mechanism}
use Rattle.relay_core.specs.Boxes.{Box}
use Rattle.relay_link.specs.Connections.{kept_before}
use Rattle.session_model.specs.Clients.{Client}
use Rattle.sync_model.specs.Scenes.{scene}
use Rattle.client.specs.Syncing.Parties.{client_party}
use Rattle.parties.specs.SyncLines.{sync_lines}
use Rattle.duet.specs.Held.{DuetNow}
use Rattle.scripts.specs.Sides.{side_text}
use Rattle.duet.proofs.sides.Duet.sync.Goals as goal

-- all lines of a side that syncs, as it and the boxes stand
abbrev lines_by : Mechanism → Side → ℕ → Client → List Box → List ℕ
lines_by k side kept client boxes = let p = client_party k (side_text side) client in sync_lines p side (scene p kept client boxes)

pub returns-in-First-clause-writes : goal.returns-in-First-clause-writes
returns-in-First-clause-writes g c =
    let side = c.args.side in
    let client = ap (λ (d : DuetNow). d.sides.first) c.self.view_is ∙ ap (client_of c.args.self.now.sides) (sym c.in-First.is) in
    subst (λ (b : List ℕ). Writes (g.O.Sink.at c.args.out.now) (g.O.Sink.at c.sync.new.out) b c.sync.result)
    (ap₂ (lines_by g.K.Kem.mechanism side (kept_before c.args.lost)) client (ap (λ (d : DuetNow). d.boxes) c.self.view_is)) c.sync.ensures.writes

pub returns-in-Second-clause-writes : goal.returns-in-Second-clause-writes
returns-in-Second-clause-writes g c =
    let side = c.args.side in
    let client = ap (λ (d : DuetNow). d.sides.second) c.self.view_is ∙ ap (client_of c.args.self.now.sides) (sym c.in-Second.is) in
    subst (λ (b : List ℕ). Writes (g.O.Sink.at c.args.out.now) (g.O.Sink.at c.sync-in-Second.new.out) b c.sync-in-Second.result)
    (ap₂ (lines_by g.K.Kem.mechanism side (kept_before c.args.lost)) client (ap (λ (d : DuetNow). d.boxes) c.self.view_is)) c.sync-in-Second.ensures.writes

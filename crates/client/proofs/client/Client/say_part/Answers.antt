use Rattle.std.proofs.Common.{List, Option, subst, ◌≡◌, ap, ℕ}
use Rattle.std.specs.Prelude.{IfOk}
use Rattle.boxes.specs.declared.kinds.TheConstants.{PART_KIND}
use Rattle.dr_base.specs.declared.position.Side.{Side}
use Rattle.dr_model.specs.Machines.Acts.{saying}
use Rattle.dr_model.specs.Machines.WorldActs.{act_in}
use Rattle.dr_model.specs.Machines.Worlds.{World}
use Rattle.session_model.specs.Contents.{Content, content_with}
use Rattle.client.specs.InWorlds.{IsIn}
use Rattle.client.specs.Outcomes.{said_as}
use Rattle.client.specs.Saying.{IsSeedDrawn, SaysIn, SaysWithDraw}
use Rattle.client.specs.Spent.{IsSpent}
use Rattle.client.proofs.client.Client.say_part.Goals as goal

pub returns-clause-exact : goal.returns-clause-exact
returns-clause-exact g c =
    subst (λ (content : Content). SaysWithDraw g.D.Disk.state g.W.Draws.at g.K.Kem.mechanism content c.args.self.now c.say.new.keeper
    c.args.disk.now c.say.new.disk c.args.draws.now c.say.new.draws c.say.result)
    (ap (content_with PART_KIND) c.bytes_in-bytes.ensures) c.say.ensures.exact

pub returns-clause-in_worlds : goal.returns-clause-in_worlds
returns-clause-in_worlds g c = λ w side is.
    subst (λ (content : Content). SaysIn g.W.Draws.at g.K.Kem.mechanism w side content c.args.self.now c.say.new.keeper
    (g.D.Disk.state c.args.disk.now) (g.D.Disk.state c.say.new.disk) c.args.draws.now c.say.new.draws (said_as c.say.result))
    (ap (content_with PART_KIND) c.bytes_in-bytes.ensures) (c.say.ensures.in_worlds w side is)

pub returns-clause-spent : goal.returns-clause-spent
returns-clause-spent g c =
    let k = g.K.Kem.mechanism in
    subst (λ (content : Content). IfOk c.say.result (λ position. (w : World) (side : Side) → IsIn k w side c.args.self.now
    → (draw : Option (List ℕ)) × IsSeedDrawn g.W.Draws.at c.args.self.now content c.args.draws.now c.say.new.draws draw
    × IsSpent k (act_in k w side (saying content draw)).next side position (g.D.Disk.state c.say.new.disk)))
    (ap (content_with PART_KIND) c.bytes_in-bytes.ensures) c.say.ensures.spent

use Rattle.std.proofs.Common.{List, Option, length, ℕ}
use Rattle.dr_model.specs.Machines.Acts.{saying}
use Rattle.dr_model.specs.Machines.WorldActs.{act_in}
use Rattle.session_model.specs.Contents.{content_with}
use Rattle.client.specs.Keepings.{cell_of}
use Rattle.client.specs.InWorlds.{IsKeeperIn}
use Rattle.client.specs.Saying.{KeeperDraws}
use Rattle.client.specs.Spent.{IsSpentInCell}
use Rattle.client.proofs.Drawing.{ready_after}
use Rattle.client.proofs.Spends.{if_ok, say_spends, says_in}
use Rattle.client.proofs.saying.say.Goals as goal

pub returns-clause-in_worlds : goal.returns-clause-in_worlds
returns-clause-in_worlds g c = λ w side is.
    says_in g.Q.Keeper.keeping g.K.Kem.mechanism c.grounds.ensures w side (content_with c.args.kind c.args.text.now) c.args.keeper.now c.say_exact.new.keeper is
    g.D.Disk.state c.holds.ensures g.W.Draws.at c.args.disk.now c.say_exact.new.disk c.args.draws.now c.say_exact.new.draws
    c.requires c.say_exact.result c.say_exact.ensures.exact

pub returns-clause-spent : goal.returns-clause-spent
returns-clause-spent g c =
    let k = g.K.Kem.mechanism in
    if_ok
    (λ w side p. (draw : Option (List ℕ))
    × KeeperDraws g.Q.Keeper.keeping g.W.Draws.at c.args.keeper.now (content_with c.args.kind c.args.text.now) c.args.draws.now c.say_exact.new.draws draw
    × IsSpentInCell (cell_of g.Q.Keeper.keeping c.args.keeper.now) k (act_in k w side (saying (content_with c.args.kind c.args.text.now) draw)).next side p (g.D.Disk.state c.say_exact.new.disk))
    (λ w side. IsKeeperIn g.Q.Keeper.keeping k w side c.args.keeper.now) c.say_exact.result
    (λ w side is.
    say_spends g.Q.Keeper.keeping k c.grounds.ensures w side (content_with c.args.kind c.args.text.now) c.args.keeper.now c.say_exact.new.keeper is
    g.D.Disk.state c.holds.ensures g.W.Draws.at c.args.disk.now c.say_exact.new.disk c.args.draws.now c.say_exact.new.draws
    c.requires c.say_exact.result c.say_exact.ensures.exact)

pub returns-clause-ready : goal.returns-clause-ready
returns-clause-ready g c =
    ready_after g.Q.Keeper.keeping g.D.Disk.state g.W.Draws.at g.K.Kem.mechanism (content_with c.args.kind c.args.text.now) c.args.keeper.now
    c.say_exact.new.keeper c.args.disk.now c.say_exact.new.disk c.args.draws.now c.say_exact.new.draws c.say_exact.result
    c.say_exact.ensures.exact

pub returns-clause-exact : goal.returns-clause-exact
returns-clause-exact g c = c.say_exact.ensures.exact

pub returns-clause-fate : goal.returns-clause-fate
returns-clause-fate g c = c.say_exact.ensures.fate

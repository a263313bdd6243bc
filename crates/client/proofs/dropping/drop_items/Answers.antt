use Rattle.dr_model.specs.Machines.Acts.{act_on, dropping}
use Rattle.session_model.specs.declared.answer.Answer.TheVariants.{Dropped}
use Rattle.client.specs.Outcomes.{dropped_as}
use Rattle.client.proofs.Lifted.{lift}
use Rattle.client.proofs.Readiness.{dropped_ready}
use Rattle.client.proofs.dropping.drop_items.Goals as goal

pub returns-clause-in_worlds : goal.returns-clause-in_worlds
returns-clause-in_worlds g c = λ w side is.
    lift g.Q.Keeper.keeping g.K.Kem.mechanism c.grounds.ensures w side (dropping c.args.which) c.args.keeper.now c.drop_exact.new.keeper is
    g.D.Disk.state c.holds.ensures c.args.disk.now c.drop_exact.new.disk c.requires (λ _. tt)
    (dropped_as (Dropped c.args.which) c.drop_exact.result) c.drop_exact.ensures.exact

pub returns-clause-ready : goal.returns-clause-ready
returns-clause-ready g c =
    dropped_ready g.Q.Keeper.keeping g.D.Disk.state (act_on g.K.Kem.mechanism (g.Q.Keeper.keeping.kept c.args.keeper.now) (dropping c.args.which)) c.args.keeper.now
    c.drop_exact.new.keeper c.args.disk.now c.drop_exact.new.disk c.requires (Dropped c.args.which) c.drop_exact.result
    c.drop_exact.ensures.exact

pub returns-clause-exact : goal.returns-clause-exact
returns-clause-exact g c = c.drop_exact.ensures.exact

pub returns-clause-fate : goal.returns-clause-fate
returns-clause-fate g c = c.drop_exact.ensures.fate

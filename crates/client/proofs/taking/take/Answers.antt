use Rattle.dr_model.specs.Machines.Acts.{act_on, taking}
use Rattle.client.specs.Outcomes.{taken_as}
use Rattle.client.proofs.Lifted.{lift}
use Rattle.client.proofs.Readiness.{taken_ready}
use Rattle.client.proofs.Receipts.{take_arrives}
use Rattle.client.proofs.Spends.{take_spends}
use Rattle.client.proofs.taking.take.Goals as goal

pub returns-clause-in_worlds : goal.returns-clause-in_worlds
returns-clause-in_worlds g c = λ w side is unforged.
    lift g.Q.Keeper.keeping g.K.Kem.mechanism c.grounds.ensures w side (taking c.args.packet.now) c.args.keeper.now c.take_exact.new.keeper is
    g.D.Disk.state c.holds.ensures c.args.disk.now c.take_exact.new.disk c.requires (λ _. unforged) (taken_as c.take_exact.result)
    c.take_exact.ensures.exact

pub returns-clause-spent : goal.returns-clause-spent
returns-clause-spent g c =
    take_spends g.Q.Keeper.keeping g.K.Kem.mechanism c.grounds.ensures c.args.packet.now c.args.keeper.now c.take_exact.new.keeper
    (g.D.Disk.state c.args.disk.now) (g.D.Disk.state c.take_exact.new.disk) c.take_exact.result
    (λ w side is unforged.
    lift g.Q.Keeper.keeping g.K.Kem.mechanism c.grounds.ensures w side (taking c.args.packet.now) c.args.keeper.now c.take_exact.new.keeper is
    g.D.Disk.state c.holds.ensures c.args.disk.now c.take_exact.new.disk c.requires (λ _. unforged) (taken_as c.take_exact.result)
    c.take_exact.ensures.exact)

pub returns-clause-ready : goal.returns-clause-ready
returns-clause-ready g c =
    taken_ready g.Q.Keeper.keeping g.D.Disk.state (act_on g.K.Kem.mechanism (g.Q.Keeper.keeping.kept c.args.keeper.now) (taking c.args.packet.now)) c.args.keeper.now
    c.take_exact.new.keeper c.args.disk.now c.take_exact.new.disk c.requires c.take_exact.result c.take_exact.ensures.exact

pub returns-clause-exact : goal.returns-clause-exact
returns-clause-exact g c = c.take_exact.ensures.exact

pub returns-clause-fate : goal.returns-clause-fate
returns-clause-fate g c = c.take_exact.ensures.fate

pub returns-clause-arrived : goal.returns-clause-arrived
returns-clause-arrived g c = λ w side is unforged.
    take_arrives g.Q.Keeper.keeping g.K.Kem.mechanism w side c.args.packet.now c.args.keeper.now c.take_exact.new.keeper
    (g.D.Disk.state c.args.disk.now) (g.D.Disk.state c.take_exact.new.disk) (taken_as c.take_exact.result) is
    (lift g.Q.Keeper.keeping g.K.Kem.mechanism c.grounds.ensures w side (taking c.args.packet.now) c.args.keeper.now c.take_exact.new.keeper is
    g.D.Disk.state c.holds.ensures c.args.disk.now c.take_exact.new.disk c.requires (λ _. unforged) (taken_as c.take_exact.result)
    c.take_exact.ensures.exact)

use Rattle.std.proofs.Common.{Ok, Result, subst, sym}
use Rattle.dr_base.specs.declared.position.Position.{Position}
use Rattle.dr_model.specs.Machines.Steps.{Step, step}
use Rattle.session_model.specs.Clients.{Client}
use Rattle.session_model.specs.declared.answer.Answer.TheVariants.{Opened}
use Rattle.session_model.specs.declared.answer.Refusal.{Refusal}
use Rattle.client.specs.Acting.{IsKeeperAct}
use Rattle.client.specs.Drafting.{received_client}
use Rattle.client.specs.Outcomes.{acknowledged, faulted}
use Rattle.client.proofs.Kept.{received_step}
use Rattle.client.proofs.taking.receive.Goals as goal

pub returns-in-Ok : goal.returns-in-Ok
returns-in-Ok g c =
    let state = g.D.Disk.state in
    let old = c.args.keeper.now in
    subst (λ (made : Result (Step Client) Refusal). IsKeeperAct g.Q.Keeper.keeping state made old c.keep.new.keeper
    c.args.disk.now c.keep.new.disk (acknowledged (Opened c.position-position.result)))
    (sym (received_step g.K.Kem.mechanism (g.Q.Keeper.keeping.kept old) c.args.draft c.requires.draft))
    (subst (λ (p : Position). IsKeeperAct g.Q.Keeper.keeping state (Ok (step (Opened c.args.draft.position) (received_client (g.Q.Keeper.keeping.kept old) c.args.draft))) old c.keep.new.keeper
    c.args.disk.now c.keep.new.disk (acknowledged (Opened p))) (sym c.position-position.ensures) c.in-Ok.ensures)

pub returns-in-Err : goal.returns-in-Err
returns-in-Err g c =
    let state = g.D.Disk.state in
    let old = c.args.keeper.now in
    subst (λ (made : Result (Step Client) Refusal). IsKeeperAct g.Q.Keeper.keeping state made old c.keep.new.keeper
    c.args.disk.now c.keep.new.disk (faulted c.in-Err.call))
    (sym (received_step g.K.Kem.mechanism (g.Q.Keeper.keeping.kept old) c.args.draft c.requires.draft)) c.in-Err.ensures

-- A call that was acknowledged leaves the client open, and its disk at rest.
use Rattle.std.proofs.Common.{Bool, Err, Ok, Result, ap, false, subst, sym, true, ◌∙◌}
use Rattle.std.specs.Prelude.{OnOk}
use Rattle.dr_base.specs.declared.position.Position.{Position}
use Rattle.dr_disk.specs.State.{DiskState}
use Rattle.dr_model.specs.Machines.Steps.{Step, has_effect}
use Rattle.session_model.specs.Clients.{Client}
use Rattle.session_model.specs.declared.answer.Answer.{Answer}
use Rattle.session_model.specs.declared.answer.Answer.TheVariants.{Opened}
use Rattle.session_model.specs.declared.answer.Refusal.{Refusal}
use Rattle.client.specs.Keepings.{IsKeeperOpen, Keeping, MayKeeperAct}
use Rattle.client.specs.Outcomes.{IsKeeperEffected, KeeperActs, dropped_as, taken_as}
use Rattle.client.specs.declared.refusals.DropRefusal.{DropRefusal}
use Rattle.client.specs.declared.refusals.TakeRefusal.{TakeRefusal}

module _ {S X : Type 0} (keeping : Keeping S) (state : X → DiskState)
    (made : Result (Step Client) Refusal) (old new : S) (start now : X)
    (ready : MayKeeperAct keeping old (state start)) where
  effected_ready : (effect : Bool) (answer : Answer)
      → IsKeeperEffected keeping state effect made old new start now answer
      → IsKeeperOpen keeping new (state now)
  effected_ready true answer acts = (acts.stays_open, acts.disk.ready)
  effected_ready false answer acts = (
    ap keeping.closed acts.2 ∙ acts.1,
    subst (λ (n : S). keeping.ready n (state now)) (sym acts.2)
        (subst (λ x. keeping.ready old (state x)) (sym acts.3) (ready acts.1)),
  )

  pub taken_ready : (result : Result Position TakeRefusal)
      → KeeperActs keeping state made old new start now (taken_as result)
      → OnOk result (IsKeeperOpen keeping new (state now))
  taken_ready (Ok p) acts = effected_ready true (Opened p) acts
  taken_ready (Err e) acts = tt

  pub dropped_ready : (answer : Answer) (result : Result Unit DropRefusal)
      → KeeperActs keeping state made old new start now (dropped_as answer result)
      → OnOk result (IsKeeperOpen keeping new (state now))
  dropped_ready answer (Ok u) acts = effected_ready (has_effect answer) answer acts
  dropped_ready answer (Err e) acts = tt

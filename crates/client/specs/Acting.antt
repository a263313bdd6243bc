-- What a call on a client does, with how the calls on its disk went.
use Rattle.std.specs.Prelude.{Result}
use Rattle.dr_disk.specs.State.{DiskState}
use Rattle.dr_model.specs.Machines.Steps.{Step}
use Rattle.session_model.specs.Clients.{Client}
use Rattle.session_model.specs.declared.answer.Refusal.{Refusal}
use Rattle.client.specs.Clients.{ClientNow}
use Rattle.client.specs.Keepings.{Keeping, client_keeping}
use Rattle.client.specs.Outcomes.{KeeperActs, Outcome, StaysPassing}

-- just what the step makes, and no call on the disk fails where all pass
pub record IsKeeperAct {S X : Type 0} (keeping : Keeping S) (state : X → DiskState)
    (made : Result (Step Client) Refusal) (old new : S)
    (start now : X) (outcome : Outcome) : Type 0 where
  pub exact : KeeperActs keeping state made old new start now outcome
  pub fate : StaysPassing (state start) (state now) outcome

abbrev pub IsAct : {X : Type 0} → (X → DiskState) → Result (Step Client) Refusal → ClientNow
    → ClientNow → X → X → Outcome → Type 0
IsAct state made old new start now outcome =
    IsKeeperAct client_keeping state made old new start now outcome

-- How an act ends on a client that is open.
use Rattle.std.proofs.Common.{None, Result, Some, sym, ◌∙◌, ◌≡◌}
use Rattle.dr_disk.specs.State.{DiskState}
use Rattle.dr_model.specs.Machines.Steps.{Step}
use Rattle.session_model.specs.Clients.{Client}
use Rattle.session_model.specs.declared.answer.Refusal.{Refusal}
use Rattle.client.specs.Clients.{ClientNow}
use Rattle.client.specs.Outcomes.{Acts, Outcome, acknowledged, faulted, is_closed, refused, undrawn}
use Rattle.parties.specs.Acts.{IsEnded}

-- how a call ends on a client that was open
pub is_ended : {X : Type 0} (state : X → DiskState) (made : Result (Step Client) Refusal) (old new : ClientNow) (start now : X)
    (outcome : Outcome) → old.closed ≡ None → Acts state made old new start now outcome → IsEnded outcome
is_ended state made old new start now (is_closed call) unclosed acts =
    absurd (let e : Some call ≡ None = sym acts.0 ∙ unclosed in cc)
is_ended state made old new start now (refused refusal) unclosed acts = tt
is_ended state made old new start now undrawn unclosed acts = acts
is_ended state made old new start now (acknowledged answer) unclosed acts = tt
is_ended state made old new start now (faulted call) unclosed acts = tt

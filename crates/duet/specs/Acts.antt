-- What a call of a line comes to, and what an act makes of both sides.
use Rattle.std.specs.Prelude.{Err, Ok, Result, false, ◌≡◌}
use Rattle.kem_laws.specs.Mechanism.{Mechanism}
use Rattle.dr_base.specs.declared.position.Side.{Side}
use Rattle.dr_model.specs.Machines.Acts.{Act, act_on}
use Rattle.dr_model.specs.Machines.Events.{Event}
use Rattle.dr_model.specs.Machines.Sides.{Sides, client_of, step_on}
use Rattle.dr_model.specs.Machines.Steps.{Step, has_effect, settled, step}
use Rattle.session_model.specs.declared.answer.Answer.{Answer}
use Rattle.duet.specs.Gathering.{gathering, on_side}
use Rattle.duet.specs.Held.{DuetNow, with_draws}
use Rattle.parties.specs.Acts.{CallOfClient, act_of_call, IsChecked}

-- what an act makes of a side: by itself, and with what the network gets then
abbrev pub alone_by : Mechanism → Sides → Side → Act → Step Sides
alone_by k s side act = let c = client_of s side in on_side s side (settled c (act_on k c act))

abbrev pub acted_by : Mechanism → Sides → Side → Act → Step Sides
acted_by k s side act = let c = client_of s side in gathering s side (settled c (act_on k c act))

-- ---- from a call to an act

-- an event comes to an act of its side, or to an answer without one
abbrev pub ComesTo : Mechanism → Sides → Sides → Side → Event → Result CallOfClient Answer → Type 0
ComesTo k s t side event (Ok call) =
    let act = act_of_call call in
    (step_on k s event ≡ acted_by k t side act) × IsChecked (client_of t side) act
ComesTo k s t side event (Err answer) =
    (step_on k s event ≡ step answer t) × (has_effect answer ≡ false)

-- it does once a draw was made, where one is needed
pub record IsPrepared (k : Mechanism) (old new : DuetNow) (side : Side) (event : Event)
    (result : Result CallOfClient Answer) : Type 0 where
  pub drawn : new ≡ with_draws old new.sides.draws
  pub comes : ComesTo k old.sides new.sides side event result

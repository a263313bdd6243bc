-- A step of both sides in which one side's disk stops.
use Rattle.std.proofs.Common.{Bool, None, Option, Some, ap, false, refl, sym, ℕ, ◌∙◌, ◌≡◌}
use Rattle.dr_base.specs.declared.position.Side.{Side}
use Rattle.dr_base.specs.declared.position.Side.TheVariants.{First, Second}
use Rattle.dr_disk.specs.declared.call.Mode.{Mode}
use Rattle.dr_model.specs.Machines.Acts.{Act, act_on}
use Rattle.dr_model.specs.Machines.Draws.{Draws}
use Rattle.dr_model.specs.Machines.Events.{Event}
use Rattle.dr_model.specs.Machines.Sides.{Sides, client_of, step_on}
use Rattle.dr_model.specs.Machines.Steps.{Step, has_effect, settled, step}
use Rattle.kem_laws.specs.Mechanism.{Mechanism}
use Rattle.session_model.specs.Clients.{Client}
use Rattle.session_model.specs.declared.answer.Answer.{Answer}
use Rattle.scripts.specs.Seen.{CallOfLine, call_event}
use Rattle.scripts.specs.Sides.{acting_side}
use Rattle.duet.specs.Acts.{acted_by}
use Rattle.duet.specs.Gathering.{gathering}
use Rattle.duet.specs.Held.{DuetNow, with_draws}
use Rattle.parties.specs.Stops.{cut_by, cut_of, stopped_client}
use Rattle.duet.specs.Stops.{cut_event, stopped_on, stopped_sides}
use Rattle.parties.proofs.Stopped.Steps.{idle_cut}
use Rattle.duet.proofs.Gathering.{gathers_stopped, same_draws}

-- an event is cut off as its step is
step_cut : (k : Mechanism) (s : Sides) (cut : Option Bool) (event : Event)
    → step_on k s (cut_event cut event)
    ≡ cut_by cut (record s { draws = (step_on k s event).next.draws }) (step_on k s event)
step_cut k s None event = refl
step_cut k s (Some replaced) event = refl

same_over : (s : Sides) (side : Side) (draws : Draws)
    → let t : Sides = record s { draws = draws } in client_of t side ≡ client_of s side
same_over s First draws = refl
same_over s Second draws = refl

-- an event in which its side's disk stops, over the draws that it leaves
event_stopped : (k : Mechanism) (s t : Sides) (n : ℕ) (mode : Mode) (event : Event)
    → t ≡ record s { draws = (step_on k s event).next.draws }
    → step_on k s (stopped_on k s n mode event)
    ≡ stopped_sides (acting_side event) n mode t (step_on k s event)
unfolding stopped_on stopped_sides
event_stopped k s t n mode event over =
    let side = acting_side event in
    let made = step_on k s event in
    let same : client_of t side ≡ client_of s side =
    ap (λ (u : Sides). client_of u side) over ∙ same_over s side made.next.draws in
    let cut = cut_of n mode (client_of s side) (client_of made.next side) in
    step_cut k s cut event ∙ ap (λ (u : Sides). cut_by cut u made) (sym over)
    ∙ ap (λ (c : Client). cut_by (cut_of n mode c (client_of made.next side)) t made) (sym same)

idle_sides : (side : Side) (n : ℕ) (mode : Mode) (before : Sides) (made : Step Sides)
    → has_effect made.answer ≡ false
    → stopped_sides side n mode before made ≡ made
unfolding stopped_sides
idle_sides side n mode before made idle =
    idle_cut (cut_of n mode (client_of before side) (client_of made.next side)) before made idle

-- ---- a call in which its side's disk stops

-- the draws were made before
over_draws : (old new : DuetNow) (made : Step Sides) → new ≡ with_draws old new.sides.draws → made.next.draws ≡ new.sides.draws
    → new.sides ≡ record old.sides { draws = made.next.draws }
over_draws old new made drawn same =
    ap (λ (d : DuetNow). d.sides) drawn
    ∙ ap (λ (draws : Draws). let t : Sides = record old.sides { draws = draws } in t) (sym same)

module _ (k : Mechanism) (old new : DuetNow) (side : Side) (call : CallOfLine) (n : ℕ) (mode : Mode)
    (drawn : new ≡ with_draws old new.sides.draws) where
  abbrev event : Event
  event = call_event side call

  on_its_side : (made : Step Sides) → step_on k old.sides event ≡ made → made.next.draws ≡ new.sides.draws
      → step_on k old.sides (stopped_on k old.sides n mode event) ≡ stopped_sides side n mode new.sides made
  on_its_side made does same =
      event_stopped k old.sides new.sides n mode event
      (over_draws old new (step_on k old.sides event) drawn (ap (λ (m : Step Sides). m.next.draws) does ∙ same))
      ∙ ap (stopped_sides side n mode new.sides) does

  -- one that comes to an act
  pub act_stopped : (act : Act) → step_on k old.sides event ≡ acted_by k new.sides side act
      → let c = client_of new.sides side in
      gathering new.sides side (stopped_client n mode c (settled c (act_on k c act)))
      ≡ step_on k old.sides (stopped_on k old.sides n mode event)
  act_stopped act does =
      let c = client_of new.sides side in
      let made = settled c (act_on k c act) in
      sym (on_its_side (acted_by k new.sides side act) does (same_draws new.sides side made)
      ∙ gathers_stopped new.sides side n mode made)

  -- or to an answer without one
  pub answer_stopped : (answer : Answer) → step_on k old.sides event ≡ step answer new.sides → has_effect answer ≡ false
      → step answer new.sides ≡ step_on k old.sides (stopped_on k old.sides n mode event)
  answer_stopped answer does idle =
      sym (on_its_side (step answer new.sides) does refl ∙ idle_sides side n mode new.sides (step answer new.sides) idle)

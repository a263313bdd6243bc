-- What a call of both sides comes to in which a disk fails once.
use Rattle.std.specs.Prelude.{Err, None, Ok, Result, Some, ℕ, ◌≡◌}
use Rattle.dr_base.specs.declared.position.Side.{Side}
use Rattle.dr_disk.specs.declared.call.Call.{Call}
use Rattle.dr_model.specs.Machines.Acts.{Act, act_on}
use Rattle.dr_model.specs.Machines.Events.{Event}
use Rattle.dr_model.specs.Machines.Sides.{client_of, step_on}
use Rattle.dr_model.specs.Machines.Steps.{settled}
use Rattle.kem_laws.specs.Mechanism.{Mechanism}
use Rattle.scripts.specs.Sides.{acting_side}
use Rattle.session_model.specs.declared.answer.Answer.{Answer}
use Rattle.duet.specs.Gathering.{gathering, on_side}
use Rattle.duet.specs.Held.{DuetNow, after_step, after_deed, beside}
use Rattle.duet.specs.Outcomes.{failed_on}
use Rattle.parties.specs.Shuts.{failing_call, left_of}
use Rattle.duet.specs.Shuts.{with_shut}

-- the side is closed by a call of this kind, and keeps what it kept
abbrev pub IsShutBy : Mechanism → Side → ℕ → Act → DuetNow → DuetNow → Call → Type 0
IsShutBy k side n act old new call =
    let c = client_of old.sides side in
    let made = settled c (act_on k c act) in
    (failing_call n made.answer c made.next ≡ Some call)
    × (new ≡ record old {
      shuts = with_shut old.shuts side (Some (record { call = call; left = left_of n c made.next made.next c }));
    })

-- the same act of one side among both, and where the network gets what it adds
abbrev pub FailsSides : Mechanism → Side → ℕ → Act → DuetNow → DuetNow → Result Answer Call → Type 0
FailsSides k side n act old new (Ok answer) =
    let c = client_of old.sides side in
    let made = settled c (act_on k c act) in
    (failing_call n made.answer c made.next ≡ None) × (answer ≡ made.answer) × (new ≡ after_step old (on_side old.sides side made))
FailsSides k side n act old new (Err call) = IsShutBy k side n act old new call

abbrev pub FailsGathering : Mechanism → Side → ℕ → Act → DuetNow → DuetNow → Result Answer Call → Type 0
FailsGathering k side n act old new (Ok answer) =
    let c = client_of old.sides side in
    let made = settled c (act_on k c act) in
    (failing_call n made.answer c made.next ≡ None) × (answer ≡ made.answer) × (new ≡ after_step old (gathering old.sides side made))
FailsGathering k side n act old new (Err call) = IsShutBy k side n act old new call

-- how it ends for an event of both sides: with the event's answer, or with the kind of the call that failed
abbrev pub EndsFailing : Mechanism → ℕ → Event → DuetNow → Result Answer Call → Type 0
EndsFailing k n event duet (Ok answer) =
    let made = step_on k duet.sides event in
    let own = acting_side event in
    (failing_call n made.answer (client_of duet.sides own) (client_of made.next own) ≡ None) × (answer ≡ made.answer)
EndsFailing k n event duet (Err call) =
    let made = step_on k duet.sides event in
    let own = acting_side event in
    failing_call n made.answer (client_of duet.sides own) (client_of made.next own) ≡ Some call

pub record FailsOn (k : Mechanism) (n : ℕ) (event : Event) (old new : DuetNow) (result : Result Answer Call) : Type 0 where
  pub ends : EndsFailing k n event old result
  pub next : new ≡ after_deed old (failed_on k (beside old) n event)

use Rattle.std.proofs.Common.{ap, subst, ◌∙◌, ◌≡◌}
use Rattle.std.specs.Prelude.{IfOk}
use Rattle.dr_model.specs.Machines.Acts.{act_on}
use Rattle.dr_model.specs.Machines.Sides.{Sides, client_of}
use Rattle.dr_model.specs.Machines.Steps.{Step, settled}
use Rattle.parties.specs.Acts.{act_of_call}
use Rattle.duet.specs.Gathering.{gathering}
use Rattle.duet.specs.Held.{DuetNow, after_step}
use Rattle.parties.specs.Stops.{stopped_client}
use Rattle.duet.proofs.StopsSides.{act_stopped, answer_stopped}
use Rattle.duet.proofs.Prepared.{left_after}
use Rattle.duet.proofs.sides.Duet.stop.Goals as goal

pub returns-in-Ok : goal.returns-in-Ok
returns-in-Ok g c =
    let k = g.K.Kem.mechanism in
    let stop = c.args.stop.now in
    let old = c.args.self in
    let new = c.prepared.new.self in
    let own = client_of new.sides stop.side in
    let made : Step Sides = gathering new.sides stop.side
    (stopped_client stop.after stop.mode own (settled own (act_on k own (act_of_call c.in-Ok.call)))) in
    subst (λ (m : Step Sides). IfOk c.act_stopped.result (λ pair. (pair.1 ≡ m.answer) × (pair.0 ≡ after_step old m)))
    (act_stopped k old new stop.side stop.call stop.after stop.mode c.in-Ok.ensures.drawn (act_of_call c.in-Ok.call) c.in-Ok.ensures.comes.0)
    (subst (λ (d : DuetNow). IfOk c.act_stopped.result (λ pair. (pair.1 ≡ made.answer) × (pair.0 ≡ after_step d made)))
    c.in-Ok.ensures.drawn c.act_stopped.ensures)

pub returns-in-Err : goal.returns-in-Err
returns-in-Err g c =
    let stop = c.args.stop.now in
    let old = c.args.self in
    let new = c.prepared.new.self in
    let comes = c.in-Err.ensures.comes in
    let same = answer_stopped g.K.Kem.mechanism old new stop.side stop.call stop.after stop.mode c.in-Err.ensures.drawn
    c.in-Err.answer comes.0 comes.1 in
    (ap (λ (m : Step Sides). m.answer) same, left_after old new c.in-Err.answer c.in-Err.ensures.drawn ∙ ap (after_step old) same)

use Rattle.std.proofs.Common.{ap, sym, ◌∙◌}
use Rattle.dr_model.specs.Machines.Sides.{Sides}
use Rattle.dr_model.specs.Machines.Steps.{Step}
use Rattle.parties.specs.Acts.{act_of_call}
use Rattle.duet.specs.Acts.{acted_by}
use Rattle.duet.specs.Held.{DuetNow, after_step}
use Rattle.duet.proofs.Prepared.{left_after}
use Rattle.duet.proofs.sides.Duet.call.Goals as goal

pub returns-in-Ok-clause-answer : goal.returns-in-Ok-clause-answer
returns-in-Ok-clause-answer g c =
    c.act.ensures.answer ∙ ap (λ (m : Step Sides). m.answer) (sym c.in-Ok.ensures.comes.0)

pub returns-in-Ok-clause-next : goal.returns-in-Ok-clause-next
returns-in-Ok-clause-next g c =
    let made = acted_by g.K.Kem.mechanism c.prepared.new.self.sides c.args.side (act_of_call c.in-Ok.call) in
    c.act.ensures.next ∙ ap (λ (d : DuetNow). after_step d made) c.in-Ok.ensures.drawn
    ∙ ap (after_step c.args.self.now) (sym c.in-Ok.ensures.comes.0)

pub returns-in-Err-clause-answer : goal.returns-in-Err-clause-answer
returns-in-Err-clause-answer g c = ap (λ (m : Step Sides). m.answer) (sym c.in-Err.ensures.comes.0)

pub returns-in-Err-clause-next : goal.returns-in-Err-clause-next
returns-in-Err-clause-next g c =
    left_after c.args.self.now c.prepared.new.self c.in-Err.answer c.in-Err.ensures.drawn
    ∙ ap (after_step c.args.self.now) (sym c.in-Err.ensures.comes.0)

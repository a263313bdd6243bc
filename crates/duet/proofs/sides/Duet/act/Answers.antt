use Rattle.std.proofs.Common.{ap, arith, length, ◌∙◌}
use Rattle.dr_model.proofs.Acting.Keeping.{own_client}
use Rattle.dr_model.specs.Machines.Acts.{act_on}
use Rattle.dr_model.specs.Machines.Sides.{client_of, with_client}
use Rattle.dr_model.specs.Machines.Steps.{settled}
use Rattle.session_model.specs.Clients.{Client}
use Rattle.session_model.specs.declared.answer.Summary.{Summary}
use Rattle.parties.specs.Acts.{act_of_call}
use Rattle.duet.specs.Gathering.{gathered}
use Rattle.duet.specs.Held.{DuetNow}
use Rattle.duet.proofs.Gathering.{acted_few}
use Rattle.duet.proofs.sides.Duet.act.Goals as goal

pub gather-requires-clause-one : goal.gather-requires-clause-one
gather-requires-clause-one g c =
    let k = g.K.Kem.mechanism in
    let s = c.args.self.now.sides in
    let own = client_of s c.args.side in
    omega (
      arith,
      acted_few k own (act_of_call c.args.call),
      ap (λ (x : DuetNow). length (client_of x.sides c.args.side).outbox) c.act_by-answer.ensures.next,
      ap (λ (x : Client). length x.outbox) (own_client s c.args.side (settled own (act_on k own (act_of_call c.args.call))).next),
      ap (λ (m : Summary). m.outbox) c.summary-held.ensures,
      ap (λ (x : Client). length x.outbox) c.party.ensures.kept,
    )

pub returns-clause-next : goal.returns-clause-next
returns-clause-next g c =
    let k = g.K.Kem.mechanism in
    let s = c.args.self.now.sides in
    let side = c.args.side in
    let own = client_of s side in
    let made = settled own (act_on k own (act_of_call c.args.call)) in
    let held = ap (λ (m : Summary). m.outbox) c.summary-held.ensures ∙ ap (λ (x : Client). length x.outbox) c.party.ensures.kept in
    c.gather.ensures
    ∙ ap (λ (x : DuetNow). let y : DuetNow = record x { sides = gathered c.summary-held.result.outbox side x.sides } in y) c.act_by-answer.ensures.next
    ∙ ap (λ h. let y : DuetNow = record c.args.self.now { sides = gathered h side (with_client s side made.next) } in y) held

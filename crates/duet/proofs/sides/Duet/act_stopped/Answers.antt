use Rattle.std.proofs.Common.{ap, arith, length, ◌∙◌}
use Rattle.dr_model.proofs.Acting.Keeping.{own_client}
use Rattle.dr_model.specs.Machines.Acts.{act_on}
use Rattle.dr_model.specs.Machines.Sides.{client_of, with_client}
use Rattle.dr_model.specs.Machines.Steps.{settled}
use Rattle.session_model.specs.Clients.{Client}
use Rattle.session_model.specs.declared.answer.Summary.{Summary}
use Rattle.parties.specs.Acts.{act_of_call}
use Rattle.duet.specs.Gathering.{gathered}
use Rattle.duet.specs.Held.{DuetNow}
use Rattle.parties.specs.Stops.{stopped_client}
use Rattle.duet.proofs.Gathering.{acted_few, same_posts, stopped_few}
use Rattle.duet.proofs.sides.Duet.act_stopped.Goals as goal

pub gather-requires-clause-one : goal.gather-requires-clause-one
gather-requires-clause-one g c =
    let k = g.K.Kem.mechanism in
    let s = c.args.self.sides in
    let own = client_of s c.args.side in
    let made = settled own (act_on k own (act_of_call c.args.call)) in
    let left = stopped_client c.args.stops.0 c.args.stops.1 own made in
    omega (
      arith,
      stopped_few c.args.stops.0 c.args.stops.1 own made (acted_few k own (act_of_call c.args.call)),
      ap (λ (x : DuetNow). length (client_of x.sides c.args.side).outbox) c.in-Ok.ensures.1,
      ap (λ (x : Client). length x.outbox) (own_client s c.args.side left.next),
      ap (λ (m : Summary). m.outbox) c.summary-held.ensures,
      ap (λ (x : Client). length x.outbox) c.party.ensures.kept,
    )

pub gather-requires-clause-room : goal.gather-requires-clause-room
gather-requires-clause-room g c =
    let k = g.K.Kem.mechanism in
    let s = c.args.self.sides in
    let own = client_of s c.args.side in
    let left = stopped_client c.args.stops.0 c.args.stops.1 own (settled own (act_on k own (act_of_call c.args.call))) in
    omega (
      arith,
      c.requires.room,
      ap (λ (x : DuetNow). length x.sides.posts) c.in-Ok.ensures.1,
      ap (λ (x : DuetNow). x.room) c.in-Ok.ensures.1,
      ap length (same_posts s c.args.side left.next),
    )

pub returns-in-Ok : goal.returns-in-Ok
returns-in-Ok g c =
    let k = g.K.Kem.mechanism in
    let s = c.args.self.sides in
    let side = c.args.side in
    let own = client_of s side in
    let left = stopped_client c.args.stops.0 c.args.stops.1 own (settled own (act_on k own (act_of_call c.args.call))) in
    let held = ap (λ (m : Summary). m.outbox) c.summary-held.ensures ∙ ap (λ (x : Client). length x.outbox) c.party.ensures.kept in (
      c.in-Ok.ensures.0,
      c.gather.ensures
          ∙ ap (λ (x : DuetNow). let y : DuetNow = record x { sides = gathered c.summary-held.result.outbox side x.sides } in y) c.in-Ok.ensures.1
          ∙ ap (λ h. let y : DuetNow = record c.args.self { sides = gathered h side (with_client s side left.next) } in y) held,
    )

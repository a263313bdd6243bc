use Rattle.std.proofs.Common.{ap, arith, length, ◌∙◌}
use Rattle.session_model.specs.Clients.{Client}
use Rattle.session_model.specs.declared.answer.Summary.{Summary}
use Rattle.parties.specs.Acts.{act_of_call}
use Rattle.duet.proofs.FailsSides.{gathers_after, outbox_few}
use Rattle.duet.proofs.sides.Duet.act_failed.Goals as goal

pub gather-requires-clause-one : goal.gather-requires-clause-one
gather-requires-clause-one g c =
    let held = ap (λ (m : Summary). m.outbox) c.summary-held.ensures ∙ ap (λ (x : Client). length x.outbox) c.party.ensures.kept in
    omega (
      arith,
      held,
      outbox_few g.K.Kem.mechanism c.args.side c.args.at (act_of_call c.args.call) c.args.self.now c.failed-ended.new.self c.failed-ended.result
          c.failed-ended.ensures,
    )

pub returns : goal.returns
returns g c =
    let held = ap (λ (m : Summary). m.outbox) c.summary-held.ensures ∙ ap (λ (x : Client). length x.outbox) c.party.ensures.kept in
    gathers_after g.K.Kem.mechanism c.args.side c.args.at (act_of_call c.args.call) c.args.self.now c.failed-ended.new.self _ _
    c.failed-ended.result held c.gather.ensures c.failed-ended.ensures

use Rattle.std.proofs.Common.{Result, arith, length, subst, sym, ◌<◌}
use Rattle.std.specs.Prelude.{IfOk}
use Rattle.std.proofs.lemmas.Grind.{common_steps}
use Rattle.cka.specs.Agreement.{agreement_size}
use Rattle.dr_base.specs.declared.limits.TheConstants.{INBOX_LIMIT}
use Rattle.packet.specs.Packet.{IsLawful}
use Rattle.ratchet.specs.Seen.{Received, received_of}
use Rattle.session_model.specs.Clients.{Client}
use Rattle.session_model.specs.declared.answer.Refusal.{Refusal}
use Rattle.session_record.specs.Record.{client_of}
use Rattle.client.specs.Drafting.{IsReceivedOf}
use Rattle.client.proofs.Lawful.Taking.{taken_lawful}
use Rattle.client.proofs.cores.showing.Core.draft_take.Goals as goal
use Rattle.client.proofs.cores.showing.Core.draft_take.Goals.{in-Err-draft_receive, in-Ok-draft_receive+else-len-ge-INBOX_LIMIT}

pub returns-after-draft_receive-clause-draft : goal.returns-after-draft_receive-clause-draft
returns-after-draft_receive-clause-draft g c =
    let k = g.K.Kem.mechanism in
    let kept = client_of c.self.inside.session c.self.inside.inbox c.self.inside.outbox c.self.inside.keys in
    let packet : IsLawful (agreement_size k) c.in-Ok.view = grind (arith, common_steps) in
    elim c.match-draft_receive.branch [
      | in-Err-draft_receive w ↦ subst (λ (r : Result Received Refusal). IfOk r (IsReceivedOf k c.args.self.now)) (sym w.result-is) tt
      | in-Ok-draft_receive+else-len-ge-INBOX_LIMIT w ↦
          let draft = w.in-Ok-draft_receive.draft in
          let room : length kept.inbox < INBOX_LIMIT = omega arith in
          subst (λ (r : Result Received Refusal). IfOk r (IsReceivedOf k c.args.self.now)) (sym w.result-is)
          (subst (λ (n : Client). IsReceivedOf k n draft) c.self.view_is (record {
            drafts = w.in-Ok-draft_receive.ensures.draft;
            room = room;
            lawful = taken_lawful k kept c.in-Ok.view (received_of kept.state draft) packet c.self.invariant w.lawful_taken.ensures room
                (sym w.in-Ok-draft_receive.ensures.exact);
          }))
    ]

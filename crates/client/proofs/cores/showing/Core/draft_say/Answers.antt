use Rattle.std.proofs.Common.{Result, ap, length, subst, sym, ◌∙◌}
use Rattle.std.specs.Prelude.{IfOk, is_some}
use Rattle.ratchet.specs.Seen.{Said, said_of, seed_bytes}
use Rattle.ratchet.specs.declared.sending.NoPairFor.{NoPairFor}
use Rattle.session_model.specs.Clients.{Client, say_check}
use Rattle.session_model.specs.Contents.{content_with}
use Rattle.session_record.specs.Record.{client_of}
use Rattle.client.specs.Drafting.{IsSaidOf}
use Rattle.client.proofs.Lawful.Saying.{passed_check, said_lawful}
use Rattle.client.proofs.cores.showing.Core.draft_say.Goals as goal
use Rattle.client.proofs.cores.showing.Core.draft_say.Goals.{in-Err, in-Ok}

pub returns-clause-draft : goal.returns-clause-draft
returns-clause-draft g c =
    let k = g.K.Kem.mechanism in
    let kept = client_of c.self.inside.session c.self.inside.inbox c.self.inside.outbox c.self.inside.keys in
    let passed = passed_check kept (content_with c.args.kind c.args.text.now) (is_some c.args.seed)
    (ap (λ (n : Client). say_check n (content_with c.args.kind c.args.text.now)) c.self.view_is ∙ c.requires) in
    elim c.match-draft_send.branch [
      | in-Err w ↦ subst (λ (r : Result Said NoPairFor). IfOk r (IsSaidOf k c.args.self.now)) (sym w.result-is) tt
      | in-Ok w ↦
          subst (λ (r : Result Said NoPairFor). IfOk r (IsSaidOf k c.args.self.now)) (sym w.result-is)
          (subst (λ (n : Client). IsSaidOf k n w.in-Ok.draft) c.self.view_is (record {
            drafts = w.in-Ok.ensures.draft;
            room = passed.1;
            lawful = said_lawful k kept (content_with c.args.kind c.args.text.now) (seed_bytes c.args.seed) (said_of kept.state w.in-Ok.draft) c.laws.ensures.law
                c.self.invariant w.lawful_said.ensures passed.0 passed.1 w.in-Ok.ensures.ok;
          }))
    ]

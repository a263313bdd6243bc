use Rattle.std.proofs.Common.{Some, ap, refl, subst, sym, ◌≡◌}
use Rattle.dr_base.specs.declared.position.Position.{Position}
use Rattle.dr_model.specs.Machines.Acts.{said_by}
use Rattle.ratchet.specs.Seen.{said_of, seed_bytes}
use Rattle.session_model.specs.Clients.{Client, accept_send, say_on}
use Rattle.session_model.specs.Contents.{content_with}
use Rattle.session_model.specs.declared.answer.Answer.TheVariants.{Said}
use Rattle.client.specs.Acting.{IsKeeperAct}
use Rattle.client.specs.Outcomes.{acknowledged, faulted}
use Rattle.client.proofs.Kept.{act_again}
use Rattle.client.proofs.saying.speak.Goals as goal

pub returns-in-Err-clause-acts : goal.returns-in-Err-clause-acts
returns-in-Err-clause-acts g c = record {
  exact = (c.requires.open.0, ap said_by c.in-Err.ensures.exact, c.draft_say.ensures.same, refl);
  fate = λ all. (tt, all);
}

pub returns-in-Ok-keep-clause-acts : goal.returns-in-Ok-keep-clause-acts
returns-in-Ok-keep-clause-acts g c =
    let k = g.K.Kem.mechanism in
    let says =
    λ (kept : Client). said_by (say_on k kept (content_with c.args.kind c.args.text.now) (seed_bytes c.args.seed)) in
    let drafted =
    λ (kept : Client). said_by (accept_send kept (Some (said_of kept.state c.in-Ok.draft))) in
    let kept = g.Q.Keeper.keeping.kept c.draft_say.new.self in
    let same = ap g.Q.Keeper.keeping.kept c.draft_say.ensures.same in
    act_again g.Q.Keeper.keeping g.D.Disk.state says (drafted kept) c.draft_say.new.self c.args.keeper.now c.keep.new.keeper c.args.disk.now c.keep.new.disk
    (acknowledged (Said c.position-position.result)) c.draft_say.ensures.same
    (subst (λ (n : Client). says n ≡ drafted n) (sym same) (ap said_by c.in-Ok.ensures.exact))
    (subst (λ (p : Position). IsKeeperAct g.Q.Keeper.keeping g.D.Disk.state (drafted kept) c.draft_say.new.self c.keep.new.keeper c.args.disk.now c.keep.new.disk (acknowledged (Said p)))
    (sym c.position-position.ensures) c.in-Ok-keep.ensures)

pub returns-in-Err-keep-clause-acts : goal.returns-in-Err-keep-clause-acts
returns-in-Err-keep-clause-acts g c =
    let k = g.K.Kem.mechanism in
    let says =
    λ (kept : Client). said_by (say_on k kept (content_with c.args.kind c.args.text.now) (seed_bytes c.args.seed)) in
    let drafted =
    λ (kept : Client). said_by (accept_send kept (Some (said_of kept.state c.in-Ok.draft))) in
    let kept = g.Q.Keeper.keeping.kept c.draft_say.new.self in
    let same = ap g.Q.Keeper.keeping.kept c.draft_say.ensures.same in
    act_again g.Q.Keeper.keeping g.D.Disk.state says (drafted kept) c.draft_say.new.self c.args.keeper.now c.keep.new.keeper c.args.disk.now c.keep.new.disk
    (faulted c.in-Err-keep.call) c.draft_say.ensures.same
    (subst (λ (n : Client). says n ≡ drafted n) (sym same) (ap said_by c.in-Ok.ensures.exact)) c.in-Err-keep.ensures

use Rattle.std.proofs.Common.{Err, Ok, Some, ap, arith, false, refl, subst, sym, take, true, ◌∙◌, ◌≡◌}
use Rattle.std.proofs.lemmas.Grind.{common_steps}
use Rattle.std.proofs.lemmas.List.{with_items_is}
use Rattle.client.specs.Acting.{IsAct}
use Rattle.client.specs.Clients.{ClientNow, IsOpenOn}
use Rattle.client.specs.Drafting.{drafted_answer, drafted_step, drafted_client}
use Rattle.client.specs.Keepings.{client_keeping}
use Rattle.client.specs.Outcomes.{kept_as}
use Rattle.client.proofs.Kept.{kept_act, lost_act}
use Rattle.client.proofs.Replaced.{kept, lost}
use Rattle.client.proofs.client.Client.keep.Goals as goal

pub returns-in-Ok : goal.returns-in-Ok
returns-in-Ok g c =
    let state = g.D.Disk.state in
    let start = state c.args.disk.now in
    let client : ClientNow = record { kept = c.self.inside.core; store = c.self.inside.store; closed = c.self.inside.closed } in
    let new : ClientNow = record { kept = c.accept.new.self; store = c.replace.new.self; closed = c.self.inside.closed } in
    let opened = subst (λ (n : ClientNow). IsOpenOn n start) (sym c.self.view_is) c.requires.open in
    let written = ap (λ l. take c.encode-len.result l) (with_items_is c.lengthen.new.room c.encode-len.new.out
    (c.encode-len.auto.out ∙ c.deref_mut.ensures.len)) ∙ c.encode-len.ensures.written in
    subst (λ (n : ClientNow). IsAct state (Ok (drafted_step n.kept c.args.draft)) n new c.args.disk.now c.replace.new.disk
    (kept_as (drafted_answer c.args.draft) (Ok tt))) c.self.view_is
    (kept_act client_keeping state (drafted_answer c.args.draft) (drafted_client client.kept c.args.draft) client new c.args.disk.now c.replace.new.disk
    c.requires.effect opened.0 opened.0 c.accept.ensures
    (kept client.kept (drafted_client client.kept c.args.draft) client.store _ start (state c.replace.new.disk) opened.1 written
    client new c.replace.new.self refl c.accept.ensures c.replace.ensures.replaces.any_moment c.in-Ok.ensures.done c.replace.ensures.replaces.reads c.in-Ok.ensures.holds
    c.replace.ensures.next.area c.in-Ok.ensures.calls.passed c.in-Ok.ensures.calls.went.ahead c.in-Ok.ensures.calls.went.quiet)
    (λ all. (c.in-Ok.ensures.calls.went.fate all).1))

pub returns-in-Err : goal.returns-in-Err
returns-in-Err g c =
    let state = g.D.Disk.state in
    let start = state c.args.disk.now in
    let client : ClientNow = record { kept = c.self.inside.core; store = c.self.inside.store; closed = c.self.inside.closed } in
    let new : ClientNow = record { kept = c.self.inside.core; store = c.replace.new.self; closed = Some c.in-Err.fault.call } in
    let opened = subst (λ (n : ClientNow). IsOpenOn n start) (sym c.self.view_is) c.requires.open in
    let written = ap (λ l. take c.encode-len.result l) (with_items_is c.lengthen.new.room c.encode-len.new.out
    (c.encode-len.auto.out ∙ c.deref_mut.ensures.len)) ∙ c.encode-len.ensures.written in
    subst (λ (n : ClientNow). IsAct state (Ok (drafted_step n.kept c.args.draft)) n new c.args.disk.now c.replace.new.disk
    (kept_as (drafted_answer c.args.draft) (Err c.in-Err.fault.call))) c.self.view_is
    (lost_act client_keeping state (drafted_answer c.args.draft) (drafted_client client.kept c.args.draft) client new c.args.disk.now c.replace.new.disk
    c.requires.effect opened.0 c.in-Err.fault.call refl refl refl
    (lost client.kept (drafted_client client.kept c.args.draft) client.store _ start (state c.replace.new.disk) opened.1 written
    c.in-Err.fault.call c.replace.ensures.replaces.any_moment c.replace.ensures.replaces.reads c.in-Err.ensures.replaces.stopped
    c.in-Err.ensures.calls.few c.in-Err.ensures.kind c.in-Err.ensures.calls.went.ended c.in-Err.ensures.calls.went.fault)
    (λ all. let e : false ≡ true = (c.in-Err.ensures.calls.went.fate all).0 in cc))

pub invariant_of-self : goal.invariant_of-self
invariant_of-self c = grind (arith, common_steps)

pub invariant_of-self-in-Err : goal.invariant_of-self-in-Err
invariant_of-self-in-Err c = grind (arith, common_steps)

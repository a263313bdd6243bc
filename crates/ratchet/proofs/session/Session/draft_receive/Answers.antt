use Rattle.std.proofs.Common.{◌∙◌, ◌≤◌, ℕ, List, [], Ok, Option, Result, ap, ap₂, length, subst, sym}
use Rattle.dr_base.specs.declared.key.Kept.{Kept}
use Rattle.dr_base.specs.declared.limits.TheConstants.{TEXT_LIMIT}
use Rattle.session_model.specs.LawfulStates.{IsLawfulState}
use Rattle.ratchet.proofs.LawfulDrafts.{changed}
use Rattle.ratchet.proofs.LawfulKept.{lawful_obeyed}
use Rattle.bodies.specs.Bodies.{Body}
use Rattle.dr_base.specs.declared.position.Position.{Position}
use Rattle.session_model.specs.Awaiting.{still_waiting}
use Rattle.session_model.specs.Seen.{seen}
use Rattle.session_model.specs.States.{State}
use Rattle.session_model.specs.Taking.{ReceiveDraft, draft_receive, opened_by}
use Rattle.session_model.specs.Ways.{position_of, way_of}
use Rattle.session_model.specs.declared.answer.Refusal.{Refusal}
use Rattle.ratchet.specs.Seen.{kept_in, received}
use Rattle.ratchet.proofs.session.Session.draft_receive.Goals as goal

pub returns-in-Ok-open_text-clause-exact : goal.returns-in-Ok-open_text-clause-exact
unfolding draft_receive
returns-in-Ok-open_text-clause-exact g c =
    let view = c.args.view.now in
    let inside = c.body.inside in
    let told : Body = record { receipt = inside.receipt; kind = inside.kind; content = inside.content.now } in
    let at : ℕ → ℕ → Position = λ e i. record { epoch = e; index = i } in
    let next = λ (s : State). seen c.find_key.new.next (kept_in s.kept c.find_key.new.table) in
    let make : Position → Body → State → Result ReceiveDraft Refusal =
    λ p body s. Ok (received p body (record s { awaiting = still_waiting body.receipt s.awaiting })) in
    ap (λ table. Ok (received (at c.epoch.result c.index.result) told
    (record (seen c.find_key.new.next (kept_in c.args.self.now.kept table)) { awaiting = c.obey.new.self }))) c.changed-draft-inside.ensures
    ∙ ap (λ (list : List Position). Ok (received (at c.epoch.result c.index.result) told
    (record (next c.args.self.now) { awaiting = list }))) c.obey.ensures
    ∙ ap (λ (s : State). make (at c.epoch.result c.index.result) told (next s)) (sym c.self.view_is)
    ∙ ap₂ (λ e i. make (at e i) told (next c.self.inside.part)) c.epoch.ensures.value c.index.ensures.value
    ∙ ap (λ (b : Body). make (position_of view) b (next c.self.inside.part)) c.body.view_is
    ∙ c.in-Ok-open_text.ensures.exact (next c.self.inside.part)
    ∙ ap (opened_by view) (c.in-Ok.ensures.way ∙ ap (λ s. way_of g.K.Kem.mechanism s view) c.self.view_is)

pub returns-in-Ok-open_text-clause-draft : goal.returns-in-Ok-open_text-clause-draft
returns-in-Ok-open_text-clause-draft g c = record { packet = c.args.view.now; gives = sym (returns-in-Ok-open_text-clause-exact g c) }

pub invariant_of-draft-in-Ok-open_text : goal.invariant_of-draft-in-Ok-open_text
invariant_of-draft-in-Ok-open_text g c =
    let k = g.K.Kem.mechanism in
    let next : List Kept → State = seen c.find_key.new.next in
    let table = c.find_key.new.table in
    let found = changed k (next []) _ table c.in-Ok.ensures.state in (
      subst (λ (b : Body). length b.content ≤ TEXT_LIMIT) (sym c.body.view_is) c.in-Ok-open_text.ensures.fits,
      subst (λ (t : Option (List Kept)). IsLawfulState k (record (next (kept_in [] t)) { awaiting = c.obey.new.self }))
          (sym c.changed-draft-inside.ensures)
          (subst (λ (list : List Position). IsLawfulState k (record (next (kept_in [] table)) { awaiting = list })) (sym c.obey.ensures)
          (lawful_obeyed k (next (kept_in [] table)) c.body.inside.receipt found)),
    )

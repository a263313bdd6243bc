use Rattle.std.proofs.Common.{[], subst, sym, ◌∙◌, ◌≡◌}
use Rattle.session_model.specs.Drafts.{IsSendDraft}
use Rattle.session_model.specs.LawfulStates.{IsLawfulState}
use Rattle.session_model.specs.Seen.{seen}
use Rattle.session_model.specs.States.{State}
use Rattle.ratchet.specs.Seen.{Said, said_of}
use Rattle.ratchet.proofs.LawfulDrafts.{lawful_said}
use Rattle.ratchet.proofs.sending.SendDraft.accept.Goals as goal

pub invariant_of-part : goal.invariant_of-part
invariant_of-part g c =
    let k = g.K.Kem.mechanism in
    let s = seen c.part.inside.head c.part.inside.kept in
    let whole : s ≡ c.args.session.now = c.part.view_is ∙ c.session.view_is in
    subst (λ (h : State). IsLawfulState k (record h { kept = c.part.inside.kept })) (sym c.copy_from.ensures)
    (lawful_said k s _ (seen c.self.inside.head []) c.part.invariant c.self.invariant.1
    (subst (λ (d : Said). IsSendDraft k s (said_of s d)) (sym c.self.view_is)
    (subst (λ (t : State). IsSendDraft k t (said_of t c.args.self)) (sym whole) c.requires)))

use Rattle.std.proofs.Common.{[], subst, sym, ◌∙◌, ◌≡◌}
use Rattle.dr_base.specs.declared.key.Kept.{Kept}
use Rattle.std.specs.Prelude.{List, Option, option_map}
use Rattle.session_model.specs.Drafts.{IsReceiveDraft}
use Rattle.session_model.specs.LawfulStates.{IsLawfulState}
use Rattle.session_model.specs.Seen.{seen}
use Rattle.session_model.specs.States.{State}
use Rattle.ratchet.specs.Seen.{Received, received_of}
use Rattle.ratchet.proofs.LawfulPackets.{lawful_received}
use Rattle.ratchet.proofs.receiving.ReceiveDraft.part.Goals as goal

pub invariant_of-result : goal.invariant_of-result
invariant_of-result g c =
    let k = g.K.Kem.mechanism in
    let s = seen c.part.inside.head c.part.inside.kept in
    let table : Option (List Kept) = option_map (λ t. t.now) c.self.inside.table in
    let whole : s ≡ c.args.session.now = c.part.view_is ∙ c.session.view_is in
    subst (λ (keys : List Kept). IsLawfulState k (seen c.self.inside.head keys)) (sym c.kept_in.ensures)
    (lawful_received k s _ _ _ (seen c.self.inside.head []) table c.part.invariant c.self.invariant.1
    (subst (λ (d : Received). IsReceiveDraft k s (received_of s d)) (sym c.self.view_is)
    (subst (λ (t : State). IsReceiveDraft k t (received_of t c.args.self.now)) (sym whole) c.requires)))

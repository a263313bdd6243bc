use Rattle.std.proofs.Common.{[], ap₂, subst, sym, ◌∙◌, ◌≡◌}
use Rattle.dr_base.specs.declared.key.Kept.{Kept}
use Rattle.std.specs.Prelude.{List, Option, option_map}
use Rattle.session_model.specs.Drafts.{IsReceiveDraft}
use Rattle.session_model.specs.LawfulStates.{IsLawfulState}
use Rattle.session_model.specs.Seen.{seen}
use Rattle.session_model.specs.States.{State}
use Rattle.ratchet.specs.Seen.{Received, kept_in, received_of}
use Rattle.ratchet.proofs.LawfulPackets.{lawful_received}
use Rattle.ratchet.proofs.receiving.ReceiveDraft.accept.Goals as goal

pub invariant_of-part : goal.invariant_of-part
invariant_of-part g c =
    let k = g.K.Kem.mechanism in
    let s = seen c.part.inside.head c.part.inside.kept in
    let table : Option (List Kept) = option_map (λ t. t.now) c.self.inside.table in
    let whole : s ≡ c.args.session.now = c.part.view_is ∙ c.session.view_is in
    let copied : seen c.copy_from.new.self c.settle.new.kept
    ≡ seen c.self.inside.head (kept_in c.part.inside.kept table) =
    ap₂ (λ (h : State) (keys : List Kept). record h { kept = keys }) c.copy_from.ensures c.settle.ensures in
    subst (IsLawfulState k) (sym copied)
    (lawful_received k s _ _ _ (seen c.self.inside.head []) table c.part.invariant c.self.invariant.1
    (subst (λ (d : Received). IsReceiveDraft k s (received_of s d)) (sym c.self.view_is)
    (subst (λ (t : State). IsReceiveDraft k t (received_of t c.args.self)) (sym whole) c.requires)))

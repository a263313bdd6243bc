use Rattle.std.proofs.Common.{Option, [], ap, subst, sym, ◌∙◌, ◌≡◌}
use Rattle.bodies.specs.Receipts.{Receipt}
use Rattle.session_model.proofs.Sealed.{HasFewListed, few_listed}
use Rattle.session_model.specs.Contents.{content_with}
use Rattle.session_model.specs.Saying.{receipt_in}
use Rattle.session_model.specs.States.{State}
use Rattle.session_model.specs.Seen.{own_seen, phase_seen, seen}
use Rattle.ratchet.proofs.Saying.{checked_short, says_none, says_own, says_turn}
use Rattle.ratchet.proofs.session.Session.draft_send.Goals as goal

pub say_on-len-requires-clause-listed : goal.say_on-len-requires-clause-listed
say_on-len-requires-clause-listed g c =
    let part = c.self.inside.part in
    subst HasFewListed (sym c.receipt.ensures) (few_listed part.format part)

pub say_on-len-requires-clause-short : goal.say_on-len-requires-clause-short
say_on-len-requires-clause-short g c =
    checked_short c.args.self.now (content_with c.args.kind c.args.text.now) _ c.requires

pub say_first-requires-clause-short : goal.say_first-requires-clause-short
say_first-requires-clause-short g c =
    checked_short c.args.self.now (content_with c.args.kind c.args.text.now) _ c.requires

pub returns-in-Own-clause-ok : goal.returns-in-Own-clause-ok
returns-in-Own-clause-ok g c =
    let whole : seen c.part.inside.head c.part.inside.kept ≡ c.args.self.now = c.part.view_is ∙ c.self.view_is in
    let told = c.receipt.ensures ∙ ap (λ (s : State). receipt_in s.format s) c.self.view_is in
    says_own _ c.args.self.now (seen c.copied.result []) (own_seen c.in-Own.own) _ _ _ _
    (sym (ap (λ (s : State). s.phase) whole) ∙ ap phase_seen c.in-Own.is)
    (c.copied.ensures ∙ ap (λ (s : State). record s { kept = [] }) whole)
    (ap (λ (r : Option Receipt). record { receipt = r; kind = c.args.kind; content = c.args.text.now }) told)
    c.say_on-len.ensures.draft

pub returns-in-Own-clause-draft : goal.returns-in-Own-clause-draft
returns-in-Own-clause-draft g c = record { content = content_with c.args.kind c.args.text.now; seed = _; gives = returns-in-Own-clause-ok g c }

pub returns-in-Ok-clause-ok : goal.returns-in-Ok-clause-ok
returns-in-Ok-clause-ok g c =
    let whole : seen c.part.inside.head c.part.inside.kept ≡ c.args.self.now = c.part.view_is ∙ c.self.view_is in
    let told = c.receipt.ensures ∙ ap (λ (s : State). receipt_in s.format s) c.self.view_is in
    says_turn _ c.args.self.now (seen c.copied.result []) _ _ _ _ _ _
    (sym (ap (λ (s : State). s.phase) whole) ∙ ap phase_seen c.in-Peers.is)
    (c.copied.ensures ∙ ap (λ (s : State). record s { kept = [] }) whole) c.unwrap-seed.ensures
    (ap (λ (r : Option Receipt). record { receipt = r; kind = c.args.kind; content = c.args.text.now }) told)
    c.in-Ok.ensures.ok

pub returns-in-Ok-clause-draft : goal.returns-in-Ok-clause-draft
returns-in-Ok-clause-draft g c = record { content = content_with c.args.kind c.args.text.now; seed = _; gives = returns-in-Ok-clause-ok g c }

pub returns-in-Err-clause-err : goal.returns-in-Err-clause-err
returns-in-Err-clause-err g c =
    let whole : seen c.part.inside.head c.part.inside.kept ≡ c.args.self.now = c.part.view_is ∙ c.self.view_is in
    says_none _ c.args.self.now _ _ _ _ (sym (ap (λ (s : State). s.phase) whole) ∙ ap phase_seen c.in-Peers.is)
    c.unwrap-seed.ensures c.in-Err.ensures.err

use Rattle.std.proofs.Common.{◌∙◌, ◌+◌, ◌≤◌, rules, ap, length, sym, arith}
use Rattle.dr_base.specs.declared.limits.TheConstants.{INDEX_LIMIT, LAST_EPOCH}
use Rattle.fs_aead.specs.Stream.{Stream}
use Rattle.ratchet.proofs.Fields.{lawful_sealing, agreement_later}
use Rattle.ratchet.proofs.LawfulTurn.{in_peers_phase, in_peers_previous, lawful_turn}
use Rattle.ratchet.proofs.Saying.{lawful_holder}
use Rattle.ratchet.proofs.drafting.say_first.Goals as goal

pub resume-requires : goal.resume-requires
resume-requires g c =
    ap length c.as_slice.ensures.value ∙ (in_peers_phase _ _ _ c.requires.lawful c.requires.held).1

pub seal_packet-len-requires-clause-lawful : goal.seal_packet-len-requires-clause-lawful
seal_packet-len-requires-clause-lawful g c =
    let before = in_peers_previous _ _ _ c.requires.lawful c.requires.held in
    let more = c.requires.more in
    let fits : c.args.next.now.epoch + 1 ≤ LAST_EPOCH = omega (arith, more) in
    let one : 1 ≤ 1 = omega arith in
    let most : 1 ≤ INDEX_LIMIT = omega arith in
    lawful_sealing _ _ _ _ _ _ _ _ _ c.version-version.ensures c.requires.lawful.session_long fits before.0 (λ h. before.1 (omega (arith, h))) one most
    (ap length c.as_slice-in-Ok.ensures.value ∙ c.in-Ok.ensures.long ∙ sym (agreement_later _ _)) c.requires.listed c.requires.short

pub returns-in-Ok-clause-lawful : goal.returns-in-Ok-clause-lawful
returns-in-Ok-clause-lawful g c =
    let more = c.requires.more in
    let sent = c.rest-sent.ensures.sent ∙ ap (λ (x : Stream). x.count) c.next-stream.ensures.stream in
    lawful_turn _ _ _ _ _ _ c.requires.lawful c.requires.held (omega (arith, more)) (search rules)
    (lawful_holder _ _ _ _ _ _ c.rest.ensures.value c.rest.ensures.long c.rest.ensures.lawful c.in-Ok.ensures.long c.rest-sent.ensures.chain
    (ap (λ (x : Stream). x.count) c.resume-in-Ok-2.ensures) c.next-stream.ensures.stream c.rest-sent.ensures.sent)
    (omega (arith, sent)) c.wait.ensures

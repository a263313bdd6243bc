use Rattle.std.proofs.Common.{◌≡◌, ◌∙◌, ◌+◌, ◌-◌, ◌≤◌, ap, length, refl, arith}
use Rattle.std.proofs.lemmas.List.{length-append}
use Rattle.dr_base.specs.declared.limits.TheConstants.{KEPT_LIMIT}
use Rattle.fs_aead.specs.Table.{shelved}
use Rattle.fs_aead.proofs.Streams.{length-shelved}
use Rattle.session_model.specs.States.{State}
use Rattle.ratchet.specs.Seen.{kept_in}
use Rattle.ratchet.proofs.entering.enter.Goals as goal

pub turn-requires-in-Ok-room_for-clause-room : goal.turn-requires-in-Ok-room_for-clause-room
turn-requires-in-Ok-room_for-clause-room g c =
    let reception = c.in-Some.reception in
    let passed = shelved (c.epoch.result - 2) reception.chain.bytes reception.reach (c.previous-previous.result - reception.reach) in
    let few : length c.args.kept.now + (c.previous-previous.result - reception.reach + (c.index-index.result - 1)) ≤ KEPT_LIMIT =
    c.in-Ok-room_for.ensures.ok.0 refl in
    let long : length (kept_in c.args.kept.now c.keep_to_end.new.table) ≡ length c.args.kept.now + (c.previous-previous.result - reception.reach) =
    ap (λ (s : State). length s.kept) c.keep_to_end.ensures.keys ∙ length-append c.args.kept.now passed
    ∙ ap (λ n. length c.args.kept.now + n) (length-shelved _ _ _ _) in
    omega (arith, few, long, c.index-index.ensures.value)

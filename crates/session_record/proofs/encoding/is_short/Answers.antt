use Rattle.std.proofs.Common.{◌≡◌, List, length, subst, ◌∙◌, ap, arith}
use Rattle.std.specs.Prelude.{All, option_copied}
use Rattle.dr_base.specs.declared.key.Kept.{Kept}
use Rattle.session_model.specs.LawfulStates.{IsLawfulState}
use Rattle.session_model.specs.States.{State}
use Rattle.session_record.specs.Changes.{changed}
use Rattle.session_record.specs.Record.{client_of}
use Rattle.session_record.proofs.Sizes.{IsRoomyInbox, IsRoomyOutbox, roomy-inbox, roomy-outbox, text-fits}
use Rattle.session_record.proofs.encoding.is_short.Goals as goal

pub returns : goal.returns
returns g c =
    let k = g.K.Kem.mechanism in
    let change = c.args.change.now in
    let lawful = subst (λ (s : State). IsLawfulState g.K.Kem.mechanism s) c.part.view_is c.part.invariant in
    let same = c.kept.ensures.keys ∙ ap (λ (s : State). s.kept) c.part.view_is in
    let long = subst (λ (keys : List Kept). All (λ (one : Kept). length one.key.bytes ≡ 32) keys) same c.are_long.ensures in
    let inbox : IsRoomyInbox c.args.inbox.now = record { few = omega (arith, c.len-texts.ensures.value, c.len-texts.ensures.limit); short = c.len-texts.ensures.room } in
    let outbox : IsRoomyOutbox c.args.outbox.now = record { few = omega (arith, c.len-packets.ensures.value, c.len-packets.ensures.limit); short = c.len-packets.ensures.room } in
    text-fits k (changed k (client_of c.args.part.now c.args.inbox.now c.args.outbox.now (option_copied c.args.keys)) change) c.laws.ensures.law lawful long
    (roomy-inbox c.args.inbox.now change inbox c.requires.inbox) (roomy-outbox k c.args.outbox.now change outbox c.requires.outbox) c.have_length.ensures

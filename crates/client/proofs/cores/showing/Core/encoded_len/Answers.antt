use Rattle.client.proofs.SameRecord.{long_alike, with_keys, written_alike}
use Rattle.client.proofs.cores.showing.Core.encoded_len.Goals as goal

pub encoded_len-requires-clause-inbox : goal.encoded_len-requires-clause-inbox
encoded_len-requires-clause-inbox g c =
    (written_alike _ _ _ _ _ _ c.self.view_is c.written-written.ensures).inbox

pub encoded_len-requires-clause-outbox : goal.encoded_len-requires-clause-outbox
encoded_len-requires-clause-outbox g c =
    (written_alike _ _ _ _ _ _ c.self.view_is c.written-written.ensures).outbox

pub returns : goal.returns
returns g c =
    let same = with_keys _ _ _ _ _ _ c.as_ref-keys.ensures.value (written_alike _ _ _ _ _ _ c.self.view_is c.written-written.ensures) in
    long_alike _ _ c.encoded_len.result same
    (record { long = c.encoded_len.ensures.len; limit = c.encoded_len.ensures.limit })

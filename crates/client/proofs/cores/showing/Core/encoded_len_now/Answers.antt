use Rattle.std.proofs.Common.{ap, ap₂, ◌∙◌}
use Rattle.session_record.specs.Record.{client_of, record_text}
use Rattle.client.proofs.SameRecord.{long_alike}
use Rattle.client.proofs.cores.showing.Core.encoded_len_now.Goals as goal

pub returns : goal.returns
returns g c =
    let same = ap₂ (λ s keys. client_of s c.self.inside.inbox c.self.inside.outbox keys) c.part-part.ensures c.as_ref-keys.ensures.value ∙ c.self.view_is in
    long_alike _ c.args.self.now c.encoded_len.result (ap record_text same)
    (record { long = c.encoded_len.ensures.len; limit = c.encoded_len.ensures.limit })

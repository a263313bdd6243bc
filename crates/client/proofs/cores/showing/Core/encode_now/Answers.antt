use Rattle.std.proofs.Common.{ap, ap₂, sym, ◌∙◌}
use Rattle.session_record.specs.Record.{client_of, record_text}
use Rattle.client.proofs.SameRecord.{puts_alike, room_alike}
use Rattle.client.proofs.cores.showing.Core.encode_now.Goals as goal

pub encode-requires-clause-room : goal.encode-requires-clause-room
encode-requires-clause-room g c =
    let same = ap₂ (λ s keys. client_of s c.self.inside.inbox c.self.inside.outbox keys) c.part-part.ensures c.as_ref-keys.ensures.value ∙ c.self.view_is in
    room_alike c.args.self.now _ c.args.out.now (sym (ap record_text same)) c.requires.room

pub returns : goal.returns
returns g c =
    let same = ap₂ (λ s keys. client_of s c.self.inside.inbox c.self.inside.outbox keys) c.part-part.ensures c.as_ref-keys.ensures.value ∙ c.self.view_is in
    puts_alike _ c.args.self.now c.args.out.now c.encode.new.out c.encode.result (ap record_text same) (record {
      long = c.encode.ensures.len;
      written = c.encode.ensures.written;
      rest = c.encode.ensures.rest;
      limit = c.encode.ensures.limit;
    })

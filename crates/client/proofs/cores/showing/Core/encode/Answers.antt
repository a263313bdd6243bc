use Rattle.std.proofs.Common.{sym}
use Rattle.client.proofs.SameRecord.{puts_alike, room_alike, with_keys, written_alike}
use Rattle.client.proofs.cores.showing.Core.encode.Goals as goal

pub encode-requires-clause-inbox : goal.encode-requires-clause-inbox
encode-requires-clause-inbox g c =
    (written_alike _ _ _ _ _ _ c.self.view_is c.written-written.ensures).inbox

pub encode-requires-clause-outbox : goal.encode-requires-clause-outbox
encode-requires-clause-outbox g c =
    (written_alike _ _ _ _ _ _ c.self.view_is c.written-written.ensures).outbox

pub encode-requires-clause-room : goal.encode-requires-clause-room
encode-requires-clause-room g c =
    let same = with_keys _ _ _ _ _ _ c.as_ref-keys.ensures.value (written_alike _ _ _ _ _ _ c.self.view_is c.written-written.ensures) in
    room_alike _ _ c.args.out.now (sym same) c.requires.room

pub returns : goal.returns
returns g c =
    let same = with_keys _ _ _ _ _ _ c.as_ref-keys.ensures.value (written_alike _ _ _ _ _ _ c.self.view_is c.written-written.ensures) in
    puts_alike _ _ c.args.out.now c.encode.new.out c.encode.result same (record {
      long = c.encode.ensures.len;
      written = c.encode.ensures.written;
      rest = c.encode.ensures.rest;
      limit = c.encode.ensures.limit;
    })

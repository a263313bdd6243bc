use Rattle.std.proofs.Common.{◌≡◌, ◌≤◌, List, ℕ, length, sym, ◌∙◌, arith, inl, inr}
use Rattle.std.specs.Prelude.{option_copied}
use Rattle.grammar.specs.Printer.{HasRoom}
use Rattle.dr_base.proofs.Putting.{then_puts}
use Rattle.session_record.specs.declared.limits.TheConstants.{RECORD_LIMIT}
use Rattle.session_record.specs.Changes.{changed}
use Rattle.session_record.specs.Record.{client_of, record_text}
use Rattle.session_record.proofs.Sizes.{text_pieces, text_size}
use Rattle.session_record.proofs.encoding.encode.Goals as goal

-- the buffer holds the text
holds : (text : List ℕ) (room : ℕ) → HasRoom RECORD_LIMIT text room → length text ≤ RECORD_LIMIT → length text ≤ room
holds text room (inl fits) short = fits
holds text room (inr any) short = omega (arith, any, short)

pub put_heading-at_keys-requires : goal.put_heading-at_keys-requires
put_heading-at_keys-requires g c =
    let client = changed g.K.Kem.mechanism (client_of c.args.part.now c.args.inbox.now c.args.outbox.now (option_copied c.args.keys)) c.args.change.now in
    let room = holds (record_text client) (length c.args.out.now) c.requires.room c.is_short.ensures in
    omega (arith, room, text_size client)

pub put_keys-at_inbox-requires : goal.put_keys-at_inbox-requires
put_keys-at_inbox-requires g c =
    let client = changed g.K.Kem.mechanism (client_of c.args.part.now c.args.inbox.now c.args.outbox.now (option_copied c.args.keys)) c.args.change.now in
    let room = holds (record_text client) (length c.args.out.now) c.requires.room c.is_short.ensures in
    omega (arith, room, text_size client, c.put_heading-at_keys.ensures.next_is)

pub put_inbox-at_outbox-requires-clause-room : goal.put_inbox-at_outbox-requires-clause-room
put_inbox-at_outbox-requires-clause-room g c =
    let client = changed g.K.Kem.mechanism (client_of c.args.part.now c.args.inbox.now c.args.outbox.now (option_copied c.args.keys)) c.args.change.now in
    let room = holds (record_text client) (length c.args.out.now) c.requires.room c.is_short.ensures in
    omega (arith, room, text_size client, c.put_heading-at_keys.ensures.next_is, c.put_keys-at_inbox.ensures.next_is)

pub put_outbox-at_awaiting-requires-clause-room : goal.put_outbox-at_awaiting-requires-clause-room
put_outbox-at_awaiting-requires-clause-room g c =
    let client = changed g.K.Kem.mechanism (client_of c.args.part.now c.args.inbox.now c.args.outbox.now (option_copied c.args.keys)) c.args.change.now in
    let room = holds (record_text client) (length c.args.out.now) c.requires.room c.is_short.ensures in
    omega (
      arith,
      room,
      text_size client,
      c.put_heading-at_keys.ensures.next_is,
      c.put_keys-at_inbox.ensures.next_is,
      c.put_inbox-at_outbox.ensures.next_is,
    )

pub put_awaiting-at_relay-requires : goal.put_awaiting-at_relay-requires
put_awaiting-at_relay-requires g c =
    let client = changed g.K.Kem.mechanism (client_of c.args.part.now c.args.inbox.now c.args.outbox.now (option_copied c.args.keys)) c.args.change.now in
    let room = holds (record_text client) (length c.args.out.now) c.requires.room c.is_short.ensures in
    omega (
      arith,
      room,
      text_size client,
      c.put_heading-at_keys.ensures.next_is,
      c.put_keys-at_inbox.ensures.next_is,
      c.put_inbox-at_outbox.ensures.next_is,
      c.put_outbox-at_awaiting.ensures.next_is,
    )

pub put_relay-requires : goal.put_relay-requires
put_relay-requires g c =
    let client = changed g.K.Kem.mechanism (client_of c.args.part.now c.args.inbox.now c.args.outbox.now (option_copied c.args.keys)) c.args.change.now in
    let room = holds (record_text client) (length c.args.out.now) c.requires.room c.is_short.ensures in
    omega (
      arith,
      room,
      text_size client,
      c.put_heading-at_keys.ensures.next_is,
      c.put_keys-at_inbox.ensures.next_is,
      c.put_inbox-at_outbox.ensures.next_is,
      c.put_outbox-at_awaiting.ensures.next_is,
      c.put_awaiting-at_relay.ensures.next_is,
    )

pub returns-clause-len : goal.returns-clause-len
returns-clause-len g c =
    let client = changed g.K.Kem.mechanism (client_of c.args.part.now c.args.inbox.now c.args.outbox.now (option_copied c.args.keys)) c.args.change.now in
    let l : c.put_relay.result ≡ length (record_text client) =
    omega (
      arith,
      text_size client,
      c.put_heading-at_keys.ensures.next_is,
      c.put_keys-at_inbox.ensures.next_is,
      c.put_inbox-at_outbox.ensures.next_is,
      c.put_outbox-at_awaiting.ensures.next_is,
      c.put_awaiting-at_relay.ensures.next_is,
      c.put_relay.ensures.next_is,
    ) in
    l

pub returns-clause-written : goal.returns-clause-written
returns-clause-written g c =
    let client = changed g.K.Kem.mechanism (client_of c.args.part.now c.args.inbox.now c.args.outbox.now (option_copied c.args.keys)) c.args.change.now in
    let boxes = then_puts c.put_inbox-at_outbox.ensures c.put_outbox-at_awaiting.ensures in
    let all = then_puts c.put_heading-at_keys.ensures (then_puts c.put_keys-at_inbox.ensures (then_puts boxes (then_puts c.put_awaiting-at_relay.ensures c.put_relay.ensures))) in
    all.front ∙ sym (text_pieces client)

pub returns-clause-rest : goal.returns-clause-rest
returns-clause-rest g c =
    let boxes = then_puts c.put_inbox-at_outbox.ensures c.put_outbox-at_awaiting.ensures in
    (then_puts c.put_heading-at_keys.ensures (then_puts c.put_keys-at_inbox.ensures (then_puts boxes (then_puts c.put_awaiting-at_relay.ensures c.put_relay.ensures)))).rest

pub returns-clause-limit : goal.returns-clause-limit
returns-clause-limit g c =
    let client = changed g.K.Kem.mechanism (client_of c.args.part.now c.args.inbox.now c.args.outbox.now (option_copied c.args.keys)) c.args.change.now in
    omega (
      arith,
      c.is_short.ensures,
      text_size client,
      c.put_heading-at_keys.ensures.next_is,
      c.put_keys-at_inbox.ensures.next_is,
      c.put_inbox-at_outbox.ensures.next_is,
      c.put_outbox-at_awaiting.ensures.next_is,
      c.put_awaiting-at_relay.ensures.next_is,
      c.put_relay.ensures.next_is,
    )

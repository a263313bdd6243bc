use Rattle.std.proofs.Common.{arith}
use Rattle.std.specs.Prelude.{option_copied}
use Rattle.session_record.specs.Changes.{changed}
use Rattle.session_record.specs.Record.{client_of}
use Rattle.session_record.proofs.Sizes.{text_size}
use Rattle.session_record.proofs.lengths.encoded_len.Goals as goal

pub overflow_add-groups : goal.overflow_add-groups
overflow_add-groups g c =
    let client = changed g.K.Kem.mechanism (client_of c.args.part.now c.args.inbox.now c.args.outbox.now (option_copied c.args.keys)) c.args.change.now in
    omega (arith, c.is_short.ensures, text_size client, c.heading_len.ensures, c.keys_len.ensures)

pub overflow_add-boxes : goal.overflow_add-boxes
overflow_add-boxes g c =
    let client = changed g.K.Kem.mechanism (client_of c.args.part.now c.args.inbox.now c.args.outbox.now (option_copied c.args.keys)) c.args.change.now in
    omega (arith, c.is_short.ensures, text_size client, c.inbox_len.ensures, c.outbox_len.ensures)

pub overflow_add-result : goal.overflow_add-result
overflow_add-result g c =
    let client = changed g.K.Kem.mechanism (client_of c.args.part.now c.args.inbox.now c.args.outbox.now (option_copied c.args.keys)) c.args.change.now in
    omega (arith, c.is_short.ensures, text_size client, c.heading_len.ensures, c.keys_len.ensures, c.inbox_len.ensures, c.outbox_len.ensures)

pub overflow_add-result-2 : goal.overflow_add-result-2
overflow_add-result-2 g c =
    let client = changed g.K.Kem.mechanism (client_of c.args.part.now c.args.inbox.now c.args.outbox.now (option_copied c.args.keys)) c.args.change.now in
    omega (arith, c.is_short.ensures, text_size client, c.heading_len.ensures, c.keys_len.ensures, c.inbox_len.ensures, c.outbox_len.ensures, c.awaiting_len.ensures)

pub overflow_add-result-3 : goal.overflow_add-result-3
overflow_add-result-3 g c =
    let client = changed g.K.Kem.mechanism (client_of c.args.part.now c.args.inbox.now c.args.outbox.now (option_copied c.args.keys)) c.args.change.now in
    omega (arith, c.is_short.ensures, text_size client, c.heading_len.ensures, c.keys_len.ensures, c.inbox_len.ensures, c.outbox_len.ensures, c.awaiting_len.ensures, c.relay_len.ensures)

pub returns-clause-len : goal.returns-clause-len
returns-clause-len g c =
    let client = changed g.K.Kem.mechanism (client_of c.args.part.now c.args.inbox.now c.args.outbox.now (option_copied c.args.keys)) c.args.change.now in
    omega (arith, text_size client, c.heading_len.ensures, c.keys_len.ensures, c.inbox_len.ensures, c.outbox_len.ensures, c.awaiting_len.ensures, c.relay_len.ensures)

pub returns-clause-limit : goal.returns-clause-limit
returns-clause-limit g c =
    let client = changed g.K.Kem.mechanism (client_of c.args.part.now c.args.inbox.now c.args.outbox.now (option_copied c.args.keys)) c.args.change.now in
    omega (arith, c.is_short.ensures, text_size client, c.heading_len.ensures, c.keys_len.ensures, c.inbox_len.ensures, c.outbox_len.ensures, c.awaiting_len.ensures, c.relay_len.ensures)

use Rattle.std.proofs.Common.{List, ap, ap₂, arith, length, refl, subst, sym, ℕ, ◌<◌, ◌∙◌}
use Rattle.std.specs.Prelude.{OnOk, option_map, slice_get}
use Rattle.relay_wire.specs.Parts.{Lent}
use Rattle.relay_wire.specs.Requests.{Asked, bare_request, posts}
use Rattle.relay_wire.specs.Seen.{asked_of, replied_of}
use Rattle.relay_wire.specs.declared.reply.Reply.{Reply}
use Rattle.relay_pipe.specs.declared.faults.PeerKind.TheVariants.{Wrong}
use Rattle.sync_model.specs.Moves.{Wait, box_is_full, denied_by, goes, move, no_such_box, posting, waits_by}
use Rattle.client.specs.Clients.{ClientNow}
use Rattle.client.specs.Syncing.Keys.{keys_seen}
use Rattle.client.specs.Syncing.Moments.{moment}
use Rattle.client.specs.Syncing.Parties.{party_at, waiting}
use Rattle.client.specs.Syncing.Rounds.{MovesTo, goes_on, idles_on, idles_to_end, round_turn, stops}
use Rattle.client.specs.declared.syncing.faults.SyncFault.TheVariants.{Peer, Refused}
use Rattle.client.specs.declared.syncing.faults.SyncRefusal.TheVariants.{Denied, BoxFull, Unknown}
use Rattle.client.proofs.Syncs.Looping.{posts_now}
use Rattle.client.proofs.Syncs.Oldest.{same_oldest}
use Rattle.client.proofs.Syncs.Asking.{fewer_on, once_more, round_again, round_fault, round_reply}
use Rattle.client.proofs.Syncs.Turning.{idles_again, posted_wrong, still_again}
use Rattle.client.proofs.client.Client.post.Goals as goal

pub returns-in-Err-clause-round : goal.returns-in-Err-clause-round
returns-in-Err-clause-round g c = λ which packet is.
    let p = party_at g.K.Kem.mechanism c.args.prefix.now c.args.boxes.now in
    let before = moment c.args.self.now (g.D.Disk.state c.args.disk.now) (g.O.Sink.at c.args.out.now) in
    let client : ClientNow = record { kept = c.self.inside.core; store = c.self.inside.store; closed = c.self.inside.closed } in
    let oldest = same_oldest (waiting c.args.self.now.kept) c.oldest.result.bytes packet
    (c.oldest.ensures ∙ ap (λ (x : ClientNow). slice_get (waiting x.kept) 0) c.self.view_is) is in
    let peers : Asked = bare_request c.args.boxes.now.names.peers (posts packet) in
    let asked = c.post-request.ensures ∙ ap₂ (λ (l : Lent) (bytes : List ℕ). bare_request l.bytes (posts bytes)) c.lent.ensures oldest in
    round_fault p (posting which) c.args.tokens.now c.ask_for.new.tokens (asked_of c.post-request.result) peers asked before (moment client (g.D.Disk.state c.args.disk.now) (g.O.Sink.at c.args.out.now))
    (g.L.Pipe.port c.args.link.now) (g.L.Pipe.port c.ask_for.new.link) c.in-Err.fault c.in-Err.ensures.answers (still_again before client c.self.view_is c.requires.open.0 c.requires.open.1)

pub returns-in-Ok-None-clause-round : goal.returns-in-Ok-None-clause-round
returns-in-Ok-None-clause-round g c = λ which packet is.
    let p = party_at g.K.Kem.mechanism c.args.prefix.now c.args.boxes.now in
    let before = moment c.args.self.now (g.D.Disk.state c.args.disk.now) (g.O.Sink.at c.args.out.now) in
    let client : ClientNow = record { kept = c.self.inside.core; store = c.self.inside.store; closed = c.self.inside.closed } in
    let oldest = same_oldest (waiting c.args.self.now.kept) c.oldest.result.bytes packet
    (c.oldest.ensures ∙ ap (λ (x : ClientNow). slice_get (waiting x.kept) 0) c.self.view_is) is in
    let peers : Asked = bare_request c.args.boxes.now.names.peers (posts packet) in
    let asked = c.post-request.ensures ∙ ap₂ (λ (l : Lent) (bytes : List ℕ). bare_request l.bytes (posts bytes)) c.lent.ensures oldest in
    let still = posts_now (waiting c.args.self.now.kept) packet is which in
    round_again p (posting which) c.args.tokens.now c.ask_for.new.tokens (asked_of c.post-request.result) peers asked before (moment client (g.D.Disk.state c.args.disk.now) (g.O.Sink.at c.args.out.now))
    (g.L.Pipe.port c.args.link.now) (g.L.Pipe.port c.ask_for.new.link) (goes_on (waits_by (waiting client.kept) which)) (rw c.in-Ok-None.field-0-is at c.in-Ok-None.ensures.answers)
    (subst (λ (x : ClientNow). MovesTo (goes p c.args.self.now.kept (posting which)) before (moment client (g.D.Disk.state c.args.disk.now) (g.O.Sink.at c.args.out.now)) (goes_on (waits_by (waiting x.kept) which))) (sym c.self.view_is)
    (idles_again p before client (goes p c.args.self.now.kept (posting which)) (goes_on (waits_by (waiting c.args.self.now.kept) which))
    (idles_on (waits_by (waiting c.args.self.now.kept) which) (ap (λ (w : Wait). goes p c.args.self.now.kept w) (sym still))) c.self.view_is c.requires.open.0 c.requires.open.1))

pub returns-in-Ok-None-clause-fewer : goal.returns-in-Ok-None-clause-fewer
returns-in-Ok-None-clause-fewer g c =
    let once = once_more (option_map keys_seen c.args.boxes.now.keys) c.args.tokens.now c.ask_for.new.tokens (asked_of c.post-request.result) (asked_of c.post-request.result) refl
    (g.L.Pipe.port c.args.link.now) (g.L.Pipe.port c.ask_for.new.link) (rw c.in-Ok-None.field-0-is at c.in-Ok-None.ensures.answers) in
    omega (arith, once, ap (λ (x : ClientNow). length x.kept.outbox) c.self.view_is)

pub returns-in-Stored-clause-round : goal.returns-in-Stored-clause-round
returns-in-Stored-clause-round g c = λ which packet is.
    let p = party_at g.K.Kem.mechanism c.args.prefix.now c.args.boxes.now in
    let before = moment c.args.self.now (g.D.Disk.state c.args.disk.now) (g.O.Sink.at c.args.out.now) in
    let client : ClientNow = record { kept = c.self.inside.core; store = c.self.inside.store; closed = c.self.inside.closed } in
    let oldest = same_oldest (waiting c.args.self.now.kept) c.oldest.result.bytes packet
    (c.oldest.ensures ∙ ap (λ (x : ClientNow). slice_get (waiting x.kept) 0) c.self.view_is) is in
    let peers : Asked = bare_request c.args.boxes.now.names.peers (posts packet) in
    let asked = c.post-request.ensures ∙ ap₂ (λ (l : Lent) (bytes : List ℕ). bare_request l.bytes (posts bytes)) c.lent.ensures oldest in
    round_reply p (posting which) c.args.tokens.now c.ask_for.new.tokens (asked_of c.post-request.result) peers asked before (moment c.delivered.new.self (g.D.Disk.state c.delivered.new.disk) (g.O.Sink.at c.delivered.new.out))
    (g.L.Pipe.port c.args.link.now) (g.L.Pipe.port c.ask_for.new.link) c.in-Ok-Some.reply (round_turn (waits_by (waiting c.delivered.new.self.kept) which) c.delivered.result) (rw c.in-Ok-Some.field-0-is at c.in-Ok-Some.ensures.answers)
    (subst (λ (x : ClientNow). MovesTo (move p x.kept (posting which) (replied_of c.in-Ok-Some.reply)) (moment x (g.D.Disk.state c.args.disk.now) (g.O.Sink.at c.args.out.now)) (moment c.delivered.new.self (g.D.Disk.state c.delivered.new.disk) (g.O.Sink.at c.delivered.new.out)) (round_turn (waits_by (waiting c.delivered.new.self.kept) which) c.delivered.result)) c.self.view_is
    (subst (λ (r : Reply). MovesTo (move p client.kept (posting which) (replied_of r)) (moment client (g.D.Disk.state c.args.disk.now) (g.O.Sink.at c.args.out.now)) (moment c.delivered.new.self (g.D.Disk.state c.delivered.new.disk) (g.O.Sink.at c.delivered.new.out)) (round_turn (waits_by (waiting c.delivered.new.self.kept) which) c.delivered.result)) (sym c.in-Stored.is)
    (c.delivered.ensures.turns c.args.boxes.now.names.own c.args.boxes.now.names.peers (option_map keys_seen c.args.boxes.now.keys) which)))

pub returns-in-BoxFull-clause-round : goal.returns-in-BoxFull-clause-round
returns-in-BoxFull-clause-round g c = λ which packet is.
    let p = party_at g.K.Kem.mechanism c.args.prefix.now c.args.boxes.now in
    let before = moment c.args.self.now (g.D.Disk.state c.args.disk.now) (g.O.Sink.at c.args.out.now) in
    let client : ClientNow = record { kept = c.self.inside.core; store = c.self.inside.store; closed = c.self.inside.closed } in
    let oldest = same_oldest (waiting c.args.self.now.kept) c.oldest.result.bytes packet
    (c.oldest.ensures ∙ ap (λ (x : ClientNow). slice_get (waiting x.kept) 0) c.self.view_is) is in
    let peers : Asked = bare_request c.args.boxes.now.names.peers (posts packet) in
    let asked = c.post-request.ensures ∙ ap₂ (λ (l : Lent) (bytes : List ℕ). bare_request l.bytes (posts bytes)) c.lent.ensures oldest in
    round_reply p (posting which) c.args.tokens.now c.ask_for.new.tokens (asked_of c.post-request.result) peers asked before (moment client (g.D.Disk.state c.args.disk.now) (g.O.Sink.at c.args.out.now))
    (g.L.Pipe.port c.args.link.now) (g.L.Pipe.port c.ask_for.new.link) c.in-Ok-Some.reply (stops (Refused BoxFull)) (rw c.in-Ok-Some.field-0-is at c.in-Ok-Some.ensures.answers)
    (subst (λ (r : Reply). MovesTo (move p c.args.self.now.kept (posting which) (replied_of r)) before (moment client (g.D.Disk.state c.args.disk.now) (g.O.Sink.at c.args.out.now)) (stops (Refused BoxFull))) (sym c.in-BoxFull.is)
    (idles_again p before client _ (stops (Refused BoxFull)) (idles_to_end box_is_full (Refused BoxFull) refl refl) c.self.view_is c.requires.open.0 c.requires.open.1))

pub returns-in-Unknown-clause-round : goal.returns-in-Unknown-clause-round
returns-in-Unknown-clause-round g c = λ which packet is.
    let p = party_at g.K.Kem.mechanism c.args.prefix.now c.args.boxes.now in
    let before = moment c.args.self.now (g.D.Disk.state c.args.disk.now) (g.O.Sink.at c.args.out.now) in
    let client : ClientNow = record { kept = c.self.inside.core; store = c.self.inside.store; closed = c.self.inside.closed } in
    let oldest = same_oldest (waiting c.args.self.now.kept) c.oldest.result.bytes packet
    (c.oldest.ensures ∙ ap (λ (x : ClientNow). slice_get (waiting x.kept) 0) c.self.view_is) is in
    let peers : Asked = bare_request c.args.boxes.now.names.peers (posts packet) in
    let asked = c.post-request.ensures ∙ ap₂ (λ (l : Lent) (bytes : List ℕ). bare_request l.bytes (posts bytes)) c.lent.ensures oldest in
    round_reply p (posting which) c.args.tokens.now c.ask_for.new.tokens (asked_of c.post-request.result) peers asked before (moment client (g.D.Disk.state c.args.disk.now) (g.O.Sink.at c.args.out.now))
    (g.L.Pipe.port c.args.link.now) (g.L.Pipe.port c.ask_for.new.link) c.in-Ok-Some.reply (stops (Refused Unknown)) (rw c.in-Ok-Some.field-0-is at c.in-Ok-Some.ensures.answers)
    (subst (λ (r : Reply). MovesTo (move p c.args.self.now.kept (posting which) (replied_of r)) before (moment client (g.D.Disk.state c.args.disk.now) (g.O.Sink.at c.args.out.now)) (stops (Refused Unknown))) (sym c.in-Unknown.is)
    (idles_again p before client _ (stops (Refused Unknown)) (idles_to_end no_such_box (Refused Unknown) refl refl) c.self.view_is c.requires.open.0 c.requires.open.1))

pub returns-in-Denied-clause-round : goal.returns-in-Denied-clause-round
returns-in-Denied-clause-round g c = λ which packet is.
    let p = party_at g.K.Kem.mechanism c.args.prefix.now c.args.boxes.now in
    let before = moment c.args.self.now (g.D.Disk.state c.args.disk.now) (g.O.Sink.at c.args.out.now) in
    let client : ClientNow = record { kept = c.self.inside.core; store = c.self.inside.store; closed = c.self.inside.closed } in
    let oldest = same_oldest (waiting c.args.self.now.kept) c.oldest.result.bytes packet
    (c.oldest.ensures ∙ ap (λ (x : ClientNow). slice_get (waiting x.kept) 0) c.self.view_is) is in
    let peers : Asked = bare_request c.args.boxes.now.names.peers (posts packet) in
    let asked = c.post-request.ensures ∙ ap₂ (λ (l : Lent) (bytes : List ℕ). bare_request l.bytes (posts bytes)) c.lent.ensures oldest in
    round_reply p (posting which) c.args.tokens.now c.ask_for.new.tokens (asked_of c.post-request.result) peers asked before (moment client (g.D.Disk.state c.args.disk.now) (g.O.Sink.at c.args.out.now))
    (g.L.Pipe.port c.args.link.now) (g.L.Pipe.port c.ask_for.new.link) c.in-Ok-Some.reply (stops (Refused (Denied c.in-Denied.denied.rule))) (rw c.in-Ok-Some.field-0-is at c.in-Ok-Some.ensures.answers)
    (subst (λ (r : Reply). MovesTo (move p c.args.self.now.kept (posting which) (replied_of r)) before (moment client (g.D.Disk.state c.args.disk.now) (g.O.Sink.at c.args.out.now)) (stops (Refused (Denied c.in-Denied.denied.rule)))) (sym c.in-Denied.is)
    (idles_again p before client _ (stops (Refused (Denied c.in-Denied.denied.rule))) (idles_to_end (denied_by c.in-Denied.denied.rule) (Refused (Denied c.in-Denied.denied.rule)) refl refl) c.self.view_is c.requires.open.0 c.requires.open.1))

pub returns-in_default-clause-round : goal.returns-in_default-clause-round
returns-in_default-clause-round g c = λ which packet is.
    let p = party_at g.K.Kem.mechanism c.args.prefix.now c.args.boxes.now in
    let before = moment c.args.self.now (g.D.Disk.state c.args.disk.now) (g.O.Sink.at c.args.out.now) in
    let client : ClientNow = record { kept = c.self.inside.core; store = c.self.inside.store; closed = c.self.inside.closed } in
    let oldest = same_oldest (waiting c.args.self.now.kept) c.oldest.result.bytes packet
    (c.oldest.ensures ∙ ap (λ (x : ClientNow). slice_get (waiting x.kept) 0) c.self.view_is) is in
    let peers : Asked = bare_request c.args.boxes.now.names.peers (posts packet) in
    let asked = c.post-request.ensures ∙ ap₂ (λ (l : Lent) (bytes : List ℕ). bare_request l.bytes (posts bytes)) c.lent.ensures oldest in
    round_reply p (posting which) c.args.tokens.now c.ask_for.new.tokens (asked_of c.post-request.result) peers asked before (moment client (g.D.Disk.state c.args.disk.now) (g.O.Sink.at c.args.out.now))
    (g.L.Pipe.port c.args.link.now) (g.L.Pipe.port c.ask_for.new.link) c.in-Ok-Some.reply (stops (Peer 2 Wrong)) (rw c.in-Ok-Some.field-0-is at c.in-Ok-Some.ensures.answers)
    (idles_again p before client (move p c.args.self.now.kept (posting which) (replied_of c.in-Ok-Some.reply)) (stops (Peer 2 Wrong)) (posted_wrong p c.args.self.now.kept which c.in-Ok-Some.reply c.in_default.not-BoxFull c.in_default.not-Unknown c.in_default.not-Stored c.in_default.not-Denied) c.self.view_is c.requires.open.0 c.requires.open.1)

pub returns-in-Stored-clause-fewer : goal.returns-in-Stored-clause-fewer
returns-in-Stored-clause-fewer g c =
    fewer_on c.delivered.result (length c.delivered.new.self.kept.outbox) (length c.args.self.now.kept.outbox) c.args.tokens.now c.ask_for.new.tokens
    (subst (λ (x : ClientNow). OnOk c.delivered.result (length c.delivered.new.self.kept.outbox < length x.kept.outbox)) c.self.view_is c.delivered.ensures.fewer)

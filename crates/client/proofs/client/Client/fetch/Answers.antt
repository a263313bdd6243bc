use Rattle.std.proofs.Common.{List, ap, refl, subst, sym, ℕ, ◌∙◌}
use Rattle.std.specs.Prelude.{option_map}
use Rattle.relay_wire.specs.Parts.{Lent}
use Rattle.relay_wire.specs.Requests.{Asked, bare_request, fetches}
use Rattle.relay_wire.specs.Seen.{asked_of, replied_of}
use Rattle.relay_wire.specs.declared.reply.Reply.{Reply}
use Rattle.relay_pipe.specs.declared.faults.PeerKind.TheVariants.{Wrong}
use Rattle.session_model.specs.Clients.{Client}
use Rattle.sync_model.specs.Moves.{acking, denied_by, fetching, goes, move, no_such_box, waits_by}
use Rattle.sync_model.specs.declared.more.More.TheVariants.{End}
use Rattle.client.specs.Clients.{ClientNow}
use Rattle.client.specs.Drafting.{DraftsFor}
use Rattle.client.specs.Syncing.Keys.{keys_seen}
use Rattle.client.specs.Syncing.Moments.{moment}
use Rattle.client.specs.Syncing.Parties.{party_at, waiting}
use Rattle.client.specs.Syncing.Rounds.{MovesTo, goes_on, idles_on, idles_to_end, stops}
use Rattle.client.specs.declared.syncing.faults.SyncFault.TheVariants.{Peer, Refused}
use Rattle.client.specs.declared.syncing.faults.SyncRefusal.TheVariants.{Denied, Unknown}
use Rattle.client.proofs.Syncs.Asking.{once_more, round_again, round_fault, round_reply}
use Rattle.client.proofs.Syncs.Turning.{fetched_wrong, idles_again, still_again}
use Rattle.client.proofs.client.Client.fetch.Goals as goal

pub returns-in-Err-clause-round : goal.returns-in-Err-clause-round
returns-in-Err-clause-round g c = λ n.
    let p = party_at g.K.Kem.mechanism c.args.prefix.now c.args.boxes.now in
    let before = moment c.args.self.now (g.D.Disk.state c.args.disk.now) (g.O.Sink.at c.args.out.now) in
    let client : ClientNow = record { kept = c.self.inside.core; store = c.self.inside.store; closed = c.self.inside.closed } in
    let own : Asked = bare_request c.args.boxes.now.names.own fetches in
    let asked = c.fetch-request.ensures ∙ ap (λ (l : Lent). bare_request l.bytes fetches) c.lent.ensures in
    round_fault p (fetching n) c.args.tokens.now c.ask_for.new.tokens (asked_of c.fetch-request.result) own asked before (moment client (g.D.Disk.state c.args.disk.now) (g.O.Sink.at c.args.out.now))
    (g.L.Pipe.port c.args.link.now) (g.L.Pipe.port c.ask_for.new.link) c.in-Err.fault c.in-Err.ensures.answers (still_again before client c.self.view_is c.requires.0 c.requires.1)

pub returns-in-Ok-None-clause-round : goal.returns-in-Ok-None-clause-round
returns-in-Ok-None-clause-round g c = λ n.
    let p = party_at g.K.Kem.mechanism c.args.prefix.now c.args.boxes.now in
    let before = moment c.args.self.now (g.D.Disk.state c.args.disk.now) (g.O.Sink.at c.args.out.now) in
    let client : ClientNow = record { kept = c.self.inside.core; store = c.self.inside.store; closed = c.self.inside.closed } in
    let own : Asked = bare_request c.args.boxes.now.names.own fetches in
    let asked = c.fetch-request.ensures ∙ ap (λ (l : Lent). bare_request l.bytes fetches) c.lent.ensures in
    round_again p (fetching n) c.args.tokens.now c.ask_for.new.tokens (asked_of c.fetch-request.result) own asked before (moment client (g.D.Disk.state c.args.disk.now) (g.O.Sink.at c.args.out.now))
    (g.L.Pipe.port c.args.link.now) (g.L.Pipe.port c.ask_for.new.link) (goes_on (fetching n)) (rw c.in-Ok-None.field-0-is at c.in-Ok-None.ensures.answers)
    (idles_again p before client (goes p c.args.self.now.kept (fetching n)) (goes_on (fetching n)) (idles_on (fetching n) refl) c.self.view_is c.requires.0 c.requires.1)

pub returns-in-Ok-None-clause-once : goal.returns-in-Ok-None-clause-once
returns-in-Ok-None-clause-once g c =
    once_more (option_map keys_seen c.args.boxes.now.keys) c.args.tokens.now c.ask_for.new.tokens (asked_of c.fetch-request.result) (asked_of c.fetch-request.result) refl
    (g.L.Pipe.port c.args.link.now) (g.L.Pipe.port c.ask_for.new.link) (rw c.in-Ok-None.field-0-is at c.in-Ok-None.ensures.answers)

pub returns-in-Empty-clause-round : goal.returns-in-Empty-clause-round
returns-in-Empty-clause-round g c = λ n.
    let p = party_at g.K.Kem.mechanism c.args.prefix.now c.args.boxes.now in
    let before = moment c.args.self.now (g.D.Disk.state c.args.disk.now) (g.O.Sink.at c.args.out.now) in
    let client : ClientNow = record { kept = c.self.inside.core; store = c.self.inside.store; closed = c.self.inside.closed } in
    let own : Asked = bare_request c.args.boxes.now.names.own fetches in
    let asked = c.fetch-request.ensures ∙ ap (λ (l : Lent). bare_request l.bytes fetches) c.lent.ensures in
    round_reply p (fetching n) c.args.tokens.now c.ask_for.new.tokens (asked_of c.fetch-request.result) own asked before (moment client (g.D.Disk.state c.args.disk.now) (g.O.Sink.at c.args.out.now))
    (g.L.Pipe.port c.args.link.now) (g.L.Pipe.port c.ask_for.new.link) c.in-Ok-Some.reply (goes_on (waits_by (waiting client.kept) End)) (rw c.in-Ok-Some.field-0-is at c.in-Ok-Some.ensures.answers)
    (subst (λ (x : ClientNow). MovesTo (move p c.args.self.now.kept (fetching n) (replied_of c.in-Ok-Some.reply)) before (moment client (g.D.Disk.state c.args.disk.now) (g.O.Sink.at c.args.out.now)) (goes_on (waits_by (waiting x.kept) End))) (sym c.self.view_is)
    (subst (λ (r : Reply). MovesTo (move p c.args.self.now.kept (fetching n) (replied_of r)) before (moment client (g.D.Disk.state c.args.disk.now) (g.O.Sink.at c.args.out.now)) (goes_on (waits_by (waiting c.args.self.now.kept) End))) (sym c.in-Empty.is)
    (idles_again p before client _ (goes_on (waits_by (waiting c.args.self.now.kept) End)) (idles_on (waits_by (waiting c.args.self.now.kept) End) refl) c.self.view_is c.requires.0 c.requires.1)))

pub returns-in-Err-collect-clause-round : goal.returns-in-Err-collect-clause-round
returns-in-Err-collect-clause-round g c = λ n.
    let p = party_at g.K.Kem.mechanism c.args.prefix.now c.args.boxes.now in
    let before = moment c.args.self.now (g.D.Disk.state c.args.disk.now) (g.O.Sink.at c.args.out.now) in
    let with_core : Client → ClientNow = λ kept. record { kept = kept; store = c.self.inside.store; closed = c.self.inside.closed } in
    let client = with_core c.draft_take-drafted.new.self in
    let same = ap with_core c.draft_take-drafted.ensures.same ∙ c.self.view_is in
    let own : Asked = bare_request c.args.boxes.now.names.own fetches in
    let asked = c.fetch-request.ensures ∙ ap (λ (l : Lent). bare_request l.bytes fetches) c.lent.ensures in
    let drafts = subst (λ (packet : List ℕ). DraftsFor g.K.Kem.mechanism client.kept packet c.draft_take-drafted.result) c.bytes.ensures.value
    (subst (λ (kept : Client). DraftsFor g.K.Kem.mechanism kept c.bytes.result.now c.draft_take-drafted.result) (sym c.draft_take-drafted.ensures.same)
    c.draft_take-drafted.ensures.exact) in
    round_reply p (fetching n) c.args.tokens.now c.ask_for.new.tokens (asked_of c.fetch-request.result) own asked before (moment c.collect.new.self (g.D.Disk.state c.collect.new.disk) (g.O.Sink.at c.collect.new.out))
    (g.L.Pipe.port c.args.link.now) (g.L.Pipe.port c.ask_for.new.link) c.in-Ok-Some.reply (stops c.in-Err-collect.fault) (rw c.in-Ok-Some.field-0-is at c.in-Ok-Some.ensures.answers)
    (subst (λ (x : ClientNow). MovesTo (move p x.kept (fetching n) (replied_of c.in-Ok-Some.reply)) (moment x (g.D.Disk.state c.args.disk.now) (g.O.Sink.at c.args.out.now)) (moment c.collect.new.self (g.D.Disk.state c.collect.new.disk) (g.O.Sink.at c.collect.new.out)) (stops c.in-Err-collect.fault)) same
    (subst (λ (r : Reply). MovesTo (move p client.kept (fetching n) (replied_of r)) (moment client (g.D.Disk.state c.args.disk.now) (g.O.Sink.at c.args.out.now)) (moment c.collect.new.self (g.D.Disk.state c.collect.new.disk) (g.O.Sink.at c.collect.new.out)) (stops c.in-Err-collect.fault)) (sym c.in-Item.is)
    (c.in-Err-collect.ensures.turns c.args.boxes.now.names.own c.args.boxes.now.names.peers (option_map keys_seen c.args.boxes.now.keys) n c.in-Item.packet.bytes drafts)))

pub returns-in-Ok-clause-round : goal.returns-in-Ok-clause-round
returns-in-Ok-clause-round g c = λ n.
    let p = party_at g.K.Kem.mechanism c.args.prefix.now c.args.boxes.now in
    let before = moment c.args.self.now (g.D.Disk.state c.args.disk.now) (g.O.Sink.at c.args.out.now) in
    let with_core : Client → ClientNow = λ kept. record { kept = kept; store = c.self.inside.store; closed = c.self.inside.closed } in
    let client = with_core c.draft_take-drafted.new.self in
    let same = ap with_core c.draft_take-drafted.ensures.same ∙ c.self.view_is in
    let own : Asked = bare_request c.args.boxes.now.names.own fetches in
    let asked = c.fetch-request.ensures ∙ ap (λ (l : Lent). bare_request l.bytes fetches) c.lent.ensures in
    let drafts = subst (λ (packet : List ℕ). DraftsFor g.K.Kem.mechanism client.kept packet c.draft_take-drafted.result) c.bytes.ensures.value
    (subst (λ (kept : Client). DraftsFor g.K.Kem.mechanism kept c.bytes.result.now c.draft_take-drafted.result) (sym c.draft_take-drafted.ensures.same)
    c.draft_take-drafted.ensures.exact) in
    round_reply p (fetching n) c.args.tokens.now c.ask_for.new.tokens (asked_of c.fetch-request.result) own asked before (moment c.collect.new.self (g.D.Disk.state c.collect.new.disk) (g.O.Sink.at c.collect.new.out))
    (g.L.Pipe.port c.args.link.now) (g.L.Pipe.port c.ask_for.new.link) c.in-Ok-Some.reply (goes_on (acking n c.in-Item.number)) (rw c.in-Ok-Some.field-0-is at c.in-Ok-Some.ensures.answers)
    (subst (λ (x : ClientNow). MovesTo (move p x.kept (fetching n) (replied_of c.in-Ok-Some.reply)) (moment x (g.D.Disk.state c.args.disk.now) (g.O.Sink.at c.args.out.now)) (moment c.collect.new.self (g.D.Disk.state c.collect.new.disk) (g.O.Sink.at c.collect.new.out)) (goes_on (acking n c.in-Item.number))) same
    (subst (λ (r : Reply). MovesTo (move p client.kept (fetching n) (replied_of r)) (moment client (g.D.Disk.state c.args.disk.now) (g.O.Sink.at c.args.out.now)) (moment c.collect.new.self (g.D.Disk.state c.collect.new.disk) (g.O.Sink.at c.collect.new.out)) (goes_on (acking n c.in-Item.number))) (sym c.in-Item.is)
    (c.in-Ok.ensures.turns c.args.boxes.now.names.own c.args.boxes.now.names.peers (option_map keys_seen c.args.boxes.now.keys) n c.in-Item.packet.bytes drafts)))

pub returns-in-Unknown-clause-round : goal.returns-in-Unknown-clause-round
returns-in-Unknown-clause-round g c = λ n.
    let p = party_at g.K.Kem.mechanism c.args.prefix.now c.args.boxes.now in
    let before = moment c.args.self.now (g.D.Disk.state c.args.disk.now) (g.O.Sink.at c.args.out.now) in
    let client : ClientNow = record { kept = c.self.inside.core; store = c.self.inside.store; closed = c.self.inside.closed } in
    let own : Asked = bare_request c.args.boxes.now.names.own fetches in
    let asked = c.fetch-request.ensures ∙ ap (λ (l : Lent). bare_request l.bytes fetches) c.lent.ensures in
    round_reply p (fetching n) c.args.tokens.now c.ask_for.new.tokens (asked_of c.fetch-request.result) own asked before (moment client (g.D.Disk.state c.args.disk.now) (g.O.Sink.at c.args.out.now))
    (g.L.Pipe.port c.args.link.now) (g.L.Pipe.port c.ask_for.new.link) c.in-Ok-Some.reply (stops (Refused Unknown)) (rw c.in-Ok-Some.field-0-is at c.in-Ok-Some.ensures.answers)
    (subst (λ (r : Reply). MovesTo (move p c.args.self.now.kept (fetching n) (replied_of r)) before (moment client (g.D.Disk.state c.args.disk.now) (g.O.Sink.at c.args.out.now)) (stops (Refused Unknown))) (sym c.in-Unknown.is)
    (idles_again p before client _ (stops (Refused Unknown)) (idles_to_end no_such_box (Refused Unknown) refl refl) c.self.view_is c.requires.0 c.requires.1))

pub returns-in-Denied-clause-round : goal.returns-in-Denied-clause-round
returns-in-Denied-clause-round g c = λ n.
    let p = party_at g.K.Kem.mechanism c.args.prefix.now c.args.boxes.now in
    let before = moment c.args.self.now (g.D.Disk.state c.args.disk.now) (g.O.Sink.at c.args.out.now) in
    let client : ClientNow = record { kept = c.self.inside.core; store = c.self.inside.store; closed = c.self.inside.closed } in
    let own : Asked = bare_request c.args.boxes.now.names.own fetches in
    let asked = c.fetch-request.ensures ∙ ap (λ (l : Lent). bare_request l.bytes fetches) c.lent.ensures in
    round_reply p (fetching n) c.args.tokens.now c.ask_for.new.tokens (asked_of c.fetch-request.result) own asked before (moment client (g.D.Disk.state c.args.disk.now) (g.O.Sink.at c.args.out.now))
    (g.L.Pipe.port c.args.link.now) (g.L.Pipe.port c.ask_for.new.link) c.in-Ok-Some.reply (stops (Refused (Denied c.in-Denied.denied.rule))) (rw c.in-Ok-Some.field-0-is at c.in-Ok-Some.ensures.answers)
    (subst (λ (r : Reply). MovesTo (move p c.args.self.now.kept (fetching n) (replied_of r)) before (moment client (g.D.Disk.state c.args.disk.now) (g.O.Sink.at c.args.out.now)) (stops (Refused (Denied c.in-Denied.denied.rule)))) (sym c.in-Denied.is)
    (idles_again p before client _ (stops (Refused (Denied c.in-Denied.denied.rule))) (idles_to_end (denied_by c.in-Denied.denied.rule) (Refused (Denied c.in-Denied.denied.rule)) refl refl) c.self.view_is c.requires.0 c.requires.1))

pub returns-in_default-clause-round : goal.returns-in_default-clause-round
returns-in_default-clause-round g c = λ n.
    let p = party_at g.K.Kem.mechanism c.args.prefix.now c.args.boxes.now in
    let before = moment c.args.self.now (g.D.Disk.state c.args.disk.now) (g.O.Sink.at c.args.out.now) in
    let client : ClientNow = record { kept = c.self.inside.core; store = c.self.inside.store; closed = c.self.inside.closed } in
    let own : Asked = bare_request c.args.boxes.now.names.own fetches in
    let asked = c.fetch-request.ensures ∙ ap (λ (l : Lent). bare_request l.bytes fetches) c.lent.ensures in
    round_reply p (fetching n) c.args.tokens.now c.ask_for.new.tokens (asked_of c.fetch-request.result) own asked before (moment client (g.D.Disk.state c.args.disk.now) (g.O.Sink.at c.args.out.now))
    (g.L.Pipe.port c.args.link.now) (g.L.Pipe.port c.ask_for.new.link) c.in-Ok-Some.reply (stops (Peer 2 Wrong)) (rw c.in-Ok-Some.field-0-is at c.in-Ok-Some.ensures.answers)
    (idles_again p before client (move p c.args.self.now.kept (fetching n) (replied_of c.in-Ok-Some.reply)) (stops (Peer 2 Wrong)) (fetched_wrong p c.args.self.now.kept n 0 c.in-Ok-Some.reply c.in_default.not-Empty c.in_default.not-Unknown c.in_default.not-Item c.in_default.not-Denied) c.self.view_is c.requires.0 c.requires.1)

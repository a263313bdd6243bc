-- No record is longer than RECORD_LIMIT, also after a change.
use Rattle.std.proofs.Common.{◌≡◌, ℕ, ◌+◌, ◌*◌, ◌<◌, ◌≤◌, List, [], ◌∷◌, ◌++◌, length, take, Option, Some, None, refl, ap, arith, length-append}
use Rattle.std.specs.List.{slice_get}
use Rattle.std.specs.Prelude.{All}
use Rattle.std.specs.Int.{w8, w16, w32, to_be_bytes}
use Rattle.std.proofs.lemmas.List.{length_push}
use Rattle.std.proofs.lemmas.List.Elements.{All-head, All-push, All-tail}
use Rattle.boxes.specs.Entries.{Entry, entry_with}
use Rattle.boxes.specs.Posts.{Post}
use Rattle.bodies.proofs.Lengths.{length-positions}
use Rattle.cka.specs.Agreement.{agreement_size}
use Rattle.dr_base.specs.declared.key.Kept.{Kept}
use Rattle.dr_base.specs.declared.limits.TheConstants.{INBOX_LIMIT, KEPT_LIMIT, OUTBOX_LIMIT, PACKET_LIMIT, TEXT_LIMIT}
use Rattle.dr_base.specs.declared.position.Position.{Position}
use Rattle.dr_base.specs.declared.position.Side.{Side}
use Rattle.grammar.specs.Printer.{print_counted, print_items, print_maybe}
use Rattle.grammar.proofs.Printing.{print-next, size-items}
use Rattle.kem_laws.specs.Mechanism.{IsLawfulMechanism, Mechanism}
use Rattle.session_model.specs.BoxKeys.{HasLongKeys}
use Rattle.session_model.specs.Clients.{Client}
use Rattle.session_model.proofs.Leaving.{all_packets, all_texts, fewer_packets, fewer_texts}
use Rattle.session_model.specs.LawfulStates.{IsLawfulPhase, IsLawfulReception, IsLawfulState}
use Rattle.session_model.specs.States.{Phase, Reception, State, in_own, in_peers, receiving_epoch}
use Rattle.session_record.specs.declared.change.Change.{Change}
use Rattle.session_record.specs.declared.change.Change.TheVariants.{Same, Received, Said, Dropped}
use Rattle.session_record.specs.declared.limits.TheConstants.{COUNT_SIZE, ENTRIES_LIMIT, ENTRY_LIMIT, HEADING_SIZE, KEPT_SIZE, KEYS_LIMIT, PHASE_LIMIT, POSTS_LIMIT, PLACE_SIZE, POST_LIMIT, RECORD_LIMIT, STREAM_SIZE}
use Rattle.session_record.specs.Awaiting.{awaiting_text}
use Rattle.session_record.specs.Changes.{FitsInbox, FitsOutbox, inbox_after, outbox_after}
use Rattle.session_record.specs.Fields.{phase_text, reception_text}
use Rattle.session_record.specs.Groups.{Keys, boxes_text, heading_text, keys_text}
use Rattle.session_record.specs.Lists.{entry_text, kept_text, post_of, post_text}
use Rattle.session_record.specs.Record.{boxes_in, heading_in, keys_in, record_text, saved_text}
use Rattle.session_record.specs.Relay.{relay_text}
use Rattle.session_record.specs.Versions.{newest}
use Rattle.session_record.proofs.Places.{message_fits}
use Rattle.session_record.proofs.RelayGrammar.{size-relay}

-- ---- the pieces of a text

abbrev pub heading_bytes : Client → List ℕ
heading_bytes c = heading_text (heading_in newest c.state)

abbrev pub keys_bytes : Client → List ℕ
keys_bytes c = keys_text (keys_in c.state)

abbrev pub waiting_bytes : Client → List ℕ
waiting_bytes c = awaiting_text newest c.state.awaiting

abbrev pub relay_bytes_of : Client → List ℕ
relay_bytes_of c = relay_text newest c.relay

pub text_pieces : (c : Client) → record_text c ≡ heading_bytes c ++ (keys_bytes c ++ (boxes_text newest (boxes_in c) ++ (waiting_bytes c ++ relay_bytes_of c)))
unfolding record_text saved_text
text_pieces c = refl

pub keys_size : (keys : Keys) → length (keys_text keys) ≡ length (phase_text keys.phase) + (COUNT_SIZE
    + (length (print_maybe reception_text keys.receiving) + length (print_counted w16 kept_text keys.kept)))
keys_size keys =
    let phase = phase_text keys.phase in
    let previous = to_be_bytes w32 keys.previous in
    let receiving = print_maybe reception_text keys.receiving in
    let kept = print_counted w16 kept_text keys.kept in
    omega (arith, length-append phase (previous ++ (receiving ++ kept)), length-append previous (receiving ++ kept), length-append receiving kept)

pub text_size : (c : Client) → length (record_text c) ≡ length (heading_bytes c) + (length (keys_bytes c)
    + (length (print_counted w8 (entry_text newest) c.inbox) + length (print_counted w8 post_text c.outbox)
    + (length (waiting_bytes c) + length (relay_bytes_of c))))
text_size c =
    let inbox = print_counted w8 (entry_text newest) c.inbox in
    let outbox = print_counted w8 post_text c.outbox in
    let waiting = waiting_bytes c in
    let relay = relay_bytes_of c in
    omega (
      arith,
      ap (λ (l : List ℕ). length l) (text_pieces c),
      length-append (heading_bytes c) (keys_bytes c ++ ((inbox ++ outbox) ++ (waiting ++ relay))),
      length-append (keys_bytes c) ((inbox ++ outbox) ++ (waiting ++ relay)),
      length-append (inbox ++ outbox) (waiting ++ relay),
      length-append waiting relay,
      length-append inbox outbox,
    )

-- the length of the first items, and of one more
pub size_next : {A : Type 0} (print : A → List ℕ) (xs : List A) (i : ℕ) (x : A) (sum : ℕ) → slice_get xs i ≡ Some x
    → sum ≡ length (print_items print (take i xs)) → sum + length (print x) ≡ length (print_items print (take (i + 1) xs))
size_next print xs i x sum here before =
    omega (arith, before, ap (λ (l : List ℕ). length l) (print-next print xs i x here), length-append (print_items print (take i xs)) (print x))

-- ---- how long each is at most

size-heading : (s : State) → length s.session ≡ 16 → length s.root ≡ 32
    → length (heading_text (heading_in newest s)) ≤ HEADING_SIZE
size-heading s long key =
    omega (arith, length-append s.session (s.root ++ to_be_bytes w32 s.epoch), length-append s.root (to_be_bytes w32 s.epoch), long, key)

size-phase : (k : Mechanism) (side : Side) (epoch : ℕ) (phase : Phase) → IsLawfulMechanism k
    → IsLawfulPhase k side epoch phase → length (phase_text phase) ≤ PHASE_LIMIT
size-phase k side epoch (in_own own) law l =
    let message = message_fits (agreement_size k) epoch (omega (arith, law.public_fits, law.ciphertext_fits)) in
    let sent = to_be_bytes w32 own.sent in
    omega (arith, length-append own.secret (own.agreement ++ (own.chain ++ sent)), length-append own.agreement (own.chain ++ sent), length-append own.chain sent, l.1.secret_long, l.1.agreement_long, l.1.chain_long, law.secret_fits, message)
size-phase k side epoch (in_peers public) law l = omega (arith, l.1, law.public_fits)

size-receiving : (kept : List Kept) (receiving : Option Reception) (epoch : Option ℕ)
    → IsLawfulReception kept receiving epoch
    → length (print_maybe reception_text receiving) ≤ STREAM_SIZE
size-receiving kept None epoch l = omega arith
size-receiving kept (Some r) None l = absurd l
size-receiving kept (Some r) (Some epoch) l = omega (arith, length-append r.chain (to_be_bytes w32 r.reach), l.0)

pub long-kept : (kept : List Kept) → All (λ (one : Kept). length one.key.bytes ≡ 32) kept
    → length (print_items kept_text kept) ≡ KEPT_SIZE * length kept
unfolding print_items
long-kept [] long = omega arith
long-kept (one ∷ more) long =
    let first = All-head (λ (k : Kept). length k.key.bytes ≡ 32) one more long in
    let behind = long-kept more (All-tail (λ (k : Kept). length k.key.bytes ≡ 32) one more long) in
    omega (arith, first, behind, length-append (kept_text one) (print_items kept_text more))

size-kept : (kept : List Kept) → All (λ (one : Kept). length one.key.bytes ≡ 32) kept
    → length kept ≤ KEPT_LIMIT → length (print_counted w16 kept_text kept) ≤ KEYS_LIMIT
size-kept kept long few =
    let items = size-items kept_text KEPT_SIZE kept (λ i d inside. omega (arith, long i d inside)) in
    omega (arith, items, few)

-- a box that holds no more than it may, each with no more bytes than it may have
pub record IsRoomy {T : Type 0} (bytes_of : T → List ℕ) (limit room : ℕ) (box : List T) : Type 0 where
  pub few : length box ≤ limit
  pub short : All (λ (one : T). length (bytes_of one) ≤ room) box

abbrev pub IsRoomyInbox : List Entry → Type 0
IsRoomyInbox inbox = IsRoomy (λ (entry : Entry). entry.text) INBOX_LIMIT TEXT_LIMIT inbox

abbrev pub IsRoomyOutbox : List Post → Type 0
IsRoomyOutbox outbox = IsRoomy (λ (post : Post). post.packet) OUTBOX_LIMIT PACKET_LIMIT outbox

size-inbox : (inbox : List Entry) → IsRoomyInbox inbox
    → length (print_counted w8 (entry_text newest) inbox) ≤ ENTRIES_LIMIT
size-inbox inbox box =
    let items = size-items (entry_text newest) ENTRY_LIMIT inbox (λ i d inside. omega (arith, box.short i d inside)) in
    omega (arith, items, box.few)

size-outbox : (outbox : List Post) → IsRoomyOutbox outbox
    → length (print_counted w8 post_text outbox) ≤ POSTS_LIMIT
size-outbox outbox box =
    let items = size-items post_text POST_LIMIT outbox (λ i d inside. omega (arith, box.short i d inside)) in
    omega (arith, items, box.few)

pub size-awaiting : (awaiting : List Position) → length (awaiting_text newest awaiting) ≡ 1 + PLACE_SIZE * length awaiting
size-awaiting awaiting = omega (arith, length-positions awaiting)

-- a client of which this is known has a text of at most RECORD_LIMIT bytes
pub text-fits : (k : Mechanism) (c : Client) → IsLawfulMechanism k → IsLawfulState k c.state → All (λ (one : Kept). length one.key.bytes ≡ 32) c.state.kept
    → IsRoomyInbox c.inbox → IsRoomyOutbox c.outbox → HasLongKeys c.relay → length (record_text c) ≤ RECORD_LIMIT
text-fits k c law l long inbox outbox relay =
    let s = c.state in
    omega (arith, text_size c, keys_size (keys_in s), size-heading s l.session_long l.root_long, size-phase k s.side s.epoch s.phase law l.phase, size-receiving s.kept s.receiving (receiving_epoch s.side s.epoch) l.receiving, size-kept s.kept long l.few, size-inbox c.inbox inbox, size-outbox c.outbox outbox, size-awaiting s.awaiting, l.waiting.few, size-relay c.relay relay)

-- ---- after a change

module _ {T : Type 0} (bytes_of : T → List ℕ) (limit room : ℕ) (box : List T) (before : IsRoomy bytes_of limit room box) where
  roomy-push : (one : T) → length box < limit → length (bytes_of one) ≤ room → IsRoomy bytes_of limit room (box ++ one ∷ [])
  roomy-push one space short = record {
    few = omega (arith, length_push box one, space);
    short = All-push (λ (one : T). length (bytes_of one) ≤ room) box one before.short short;
  }

pub roomy-inbox : (inbox : List Entry) (change : Change) → IsRoomyInbox inbox → FitsInbox inbox change → IsRoomyInbox (inbox_after inbox change)
roomy-inbox inbox (Received position kind text) before fits =
    roomy-push (λ (entry : Entry). entry.text) INBOX_LIMIT TEXT_LIMIT inbox before (entry_with position kind text.now) fits.0 fits.1
roomy-inbox inbox (Dropped which) before fits = record {
  few = omega (arith, fewer_texts which inbox, before.few);
  short = all_texts (λ (entry : Entry). length entry.text ≤ TEXT_LIMIT) which inbox before.short;
}
roomy-inbox inbox Same before fits = before
roomy-inbox inbox (Said packet) before fits = before

pub roomy-outbox : (k : Mechanism) (outbox : List Post) (change : Change) → IsRoomyOutbox outbox → FitsOutbox outbox change
    → IsRoomyOutbox (outbox_after k outbox change)
unfolding post_of
roomy-outbox k outbox (Said packet) before fits =
    roomy-push (λ (post : Post). post.packet) OUTBOX_LIMIT PACKET_LIMIT outbox before (post_of k packet.now) fits.0 fits.1
roomy-outbox k outbox (Dropped which) before fits = record {
  few = omega (arith, fewer_packets which outbox, before.few);
  short = all_packets (λ (post : Post). length post.packet ≤ PACKET_LIMIT) which outbox before.short;
}
roomy-outbox k outbox Same before fits = before
roomy-outbox k outbox (Received position kind text) before fits = before

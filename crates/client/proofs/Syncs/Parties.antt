-- A client as a party of a sync: its boxes' names differ, and its outbox changes only by what was sent.
use Rattle.std.proofs.Common.{Bool, Err, List, Ok, Option, Result, [], ap, arith, false, length, refl, suc, true, ℕ, ◌++◌, ◌∙◌, ◌∷◌, ◌≡◌, ◌≤◌}
use Rattle.std.specs.Prelude.{All, codes, drop, if◌then◌else◌, map, nat_eq, nat_le, ◌&&◌}
use Rattle.std.specs.Str.{bytes_eq}
use Rattle.std.proofs.lemmas.Bool.Decides.{nat_tests}
use Rattle.boxes.specs.Posts.{Post}
use Rattle.cka.specs.Agreement.{agreement_size}
use Rattle.dr_base.specs.Position.{peer_of}
use Rattle.dr_base.specs.declared.limits.TheConstants.{INBOX_LIMIT, OUTBOX_LIMIT, PACKET_LIMIT}
use Rattle.dr_base.specs.declared.position.Side.{Side}
use Rattle.dr_base.specs.declared.position.Side.TheVariants.{First, Second}
use Rattle.dr_model.specs.Machines.Acts.{taken_by}
use Rattle.dr_model.specs.Machines.Steps.{leaving, settled}
use Rattle.hex.specs.Hex.{encode_lower}
use Rattle.kem_laws.specs.Mechanism.{Mechanism}
use Rattle.packet.specs.Packet.{Fields}
use Rattle.packet.specs.Reading.{read_packet}
use Rattle.packet.specs.declared.fault.Malformed.{Malformed}
use Rattle.relay_wire.specs.Names.{is_name}
use Rattle.session_model.specs.Clients.{Client, TakenPacket, accept_receive, take_on, take_read}
use Rattle.session_model.specs.Taking.{ReceiveDraft, draft_receive}
use Rattle.session_model.specs.Leaving.{enough}
use Rattle.session_model.specs.declared.answer.Items.TheVariants.{Packets}
use Rattle.session_model.specs.declared.answer.Refusal.{Refusal}
use Rattle.session_model.specs.declared.answer.Refusal.TheVariants.{Fewer}
use Rattle.session_model.specs.declared.answer.Which.TheVariants.{Oldest}
use Rattle.session_record.specs.Lawful.{IsLawfulPost}
use Rattle.session_model.specs.States.{State}
use Rattle.sync_model.proofs.Asking.{ArePackets}
use Rattle.sync_model.proofs.Cases.{by_test}
use Rattle.client.specs.Syncing.Lines.{box_name, own_box, peers_box}
use Rattle.sync_model.specs.Tokens.{SyncKeys}
use Rattle.client.specs.Syncing.Parties.{party_of, sent_step, taken_step, waiting}
use Rattle.client.proofs.Lawful.Posts.{packet_some}
use Rattle.client.proofs.Syncs.Oldest.{packet_lawful}

-- ---- names

same_front : (front a b : List ℕ) → bytes_eq (front ++ a) (front ++ b) ≡ bytes_eq a b
same_front [] a b = refl
same_front (x ∷ front) a b = ap (λ (t : Bool). t && bytes_eq (front ++ a) (front ++ b)) (let e : nat_eq x x ≡ true = grind (arith, nat_tests) in e) ∙ same_front front a b

names_apart : (session : List ℕ) (side : Side) → bytes_eq (box_name session side) (box_name session (peer_of side)) ≡ false
unfolding box_name
names_apart session First = same_front (encode_lower session) (codes "-1") (codes "-2")
names_apart session Second = same_front (encode_lower session) (codes "-2") (codes "-1")

pub boxes_apart : (kept : Client) → bytes_eq (own_box kept) (peers_box kept) ≡ false
boxes_apart kept = names_apart kept.state.session kept.state.side

pub same_party : (k : Mechanism) (prefix own mine peers theirs : List ℕ) (keys same : Option SyncKeys) → own ≡ mine → peers ≡ theirs → keys ≡ same
    → party_of k prefix own peers keys ≡ party_of k prefix mine theirs same
same_party k prefix own mine peers theirs keys same own_is peers_is keys_are =
    ap (λ (x : List ℕ). party_of k prefix x peers keys) own_is ∙ ap (λ (x : List ℕ). party_of k prefix mine x keys) peers_is
    ∙ ap (λ (x : Option SyncKeys). party_of k prefix mine theirs x) keys_are

-- ---- the outbox

abbrev one_left : Client → List Post → Result Unit Refusal → List Post
one_left t left check = (settled t (leaving (Oldest Packets 1) check (record t { outbox = left }))).next.outbox

one_gone : (t : Client) (items : List Post) → t.outbox ≡ items
    → map (λ (i : Post). i.packet) (one_left t (drop 1 items) (enough 1 (length items)))
    ≡ drop 1 (map (λ (i : Post). i.packet) items)
one_gone t [] is = ap (map (λ (i : Post). i.packet)) is
one_gone t (item ∷ items) is = by_room (nat_le 1 (length (item ∷ items))) (grind (arith, nat_tests))
  where
    by_room : (room : Bool) → room ≡ true
        → map (λ (i : Post). i.packet) (one_left t items (if room then Ok tt else Err (Fewer (length (item ∷ items)))))
        ≡ map (λ (i : Post). i.packet) items
    by_room true room = refl
    by_room false room = absurd (let e : false ≡ true = room in cc)

pub drops_one : (k : Mechanism) (t : Client) → waiting (sent_step k t).next ≡ drop 1 (waiting t)
drops_one k t = one_gone t t.outbox refl

received_keeps : (t : Client) (draft : Result ReceiveDraft Refusal) → (settled t (taken_by (accept_receive t draft))).next.outbox ≡ t.outbox
received_keeps t (Err refusal) = refl
received_keeps t (Ok draft) =
    by_test (λ (r : Result TakenPacket Refusal). (settled t (taken_by r)).next.outbox ≡ t.outbox) (nat_le INBOX_LIMIT (length t.inbox)) _ _ (λ full. refl) (λ room. refl)

pub keeps_outbox : (k : Mechanism) (t : Client) (packet : List ℕ) → waiting (taken_step k t packet).next ≡ waiting t
unfolding take_on
keeps_outbox k t packet = ap (map (λ (i : Post). i.packet)) (by_read (read_packet (agreement_size k) packet))
  where
    by_read : (read : Result Fields Malformed) → (settled t (taken_by (take_read k t read))).next.outbox ≡ t.outbox
    by_read (Err fault) = refl
    by_read (Ok fields) = received_keeps t (draft_receive k t.state fields)

-- ---- its packets may be posted

pub are_packets : (k : Mechanism) (s : State) (items : List Post) → All (IsLawfulPost k s) items → All (λ (item : Post). length item.packet ≤ PACKET_LIMIT) items
    → ArePackets (map (λ (i : Post). i.packet) items)
are_packets k s [] posts short = tt
are_packets k s (item ∷ items) posts short =
    let post = posts 0 item (omega arith) in (
      packet_lawful item.packet (packet_some (agreement_size k) item.packet post.fields post.reads) (short 0 item (omega arith)),
      are_packets k s items (λ i d inside. posts (suc i) d (omega (arith, inside))) (λ i d inside. short (suc i) d (omega (arith, inside))),
    )

-- the client's boxes have lawful names, and what stands in its outbox may be posted
pub record MayPost (kept : Client) : Type 0 where
  pub own : is_name (own_box kept) ≡ true
  pub peers : is_name (peers_box kept) ≡ true
  pub packets : ArePackets (waiting kept)
  pub few : length kept.outbox ≤ OUTBOX_LIMIT

-- What a sender's sync posts, its peer's sync opens.
use Rattle.std.proofs.Common.{List, None, Option, Some, [], length, ◌*◌, ap, ap₂, drop, refl, subst, sym, zero, suc, ℕ, ◌++◌, ◌+◌, ◌∙◌, ◌∷◌, ◌≡◌, append_assoc, append-nil}
use Rattle.std.specs.Prelude.{All, filter, map, option_map}
use Rattle.std.proofs.lemmas.List.{length-append, length-map, map-append}
use Rattle.boxes.specs.Posts.{Post}
use Rattle.dr_base.specs.Position.{is_own, peer_of}
use Rattle.dr_base.specs.declared.position.Position.{Position}
use Rattle.dr_base.specs.declared.position.Side.{Side}
use Rattle.dr_base.specs.declared.position.Side.TheVariants.{First, Second}
use Rattle.dr_model.specs.Conversations.Conversation.{Conversation, positions}
use Rattle.dr_model.specs.Conversations.Posts.{post_at}
use Rattle.dr_model.proofs.Taking.MadePositions.{position-post_at}
use Rattle.dr_model.specs.Machines.WorldSides.{kept_in}
use Rattle.dr_model.specs.Machines.Worlds.{World, view_of}
use Rattle.dr_model.specs.Theorems.LawfulWorlds.{IsLawfulWorld}
use Rattle.kem_laws.specs.Mechanism.{Mechanism}
use Rattle.relay_core.specs.Boxes.{Box, Kept, box_of, with_packet}
use Rattle.relay_core.specs.Lawful.{IsLawfulBox}
use Rattle.session_model.specs.Clients.{Client}
use Rattle.session_model.specs.Schedule.{session_of}
use Rattle.sync_model.specs.Transfers.{HasCounters, IsGuardedFor, counted, counted_on, emptied, with_posts}
use Rattle.sync_model.specs.Tokens.{SyncKeys}
use Rattle.relay_guard.specs.Guards.{key_of, with_last}
use Rattle.relay_guard.specs.declared.guard.Guard.{Guard}
use Rattle.relay_guard.specs.declared.guard.Role.{Role}
use Rattle.relay_guard.specs.declared.guard.Role.TheVariants.{Owner, Poster}
use Rattle.client.specs.Syncing.Arrivals.{HoldsPackets}
use Rattle.client.specs.Syncing.GoingOver.{GoesOver, boxes_left, positions_of}
use Rattle.client.specs.Syncing.Lines.{box_name, own_box, peers_box}
use Rattle.client.specs.Syncing.Parties.{client_party, waiting}

-- ---- what waits are packets of the conversation

bytes_by : (k : Mechanism) (c : Conversation) (ps : List Position) (n : ℕ)
    → map (λ (item : Post). item.packet) (drop n (map (post_at k c) ps))
    ≡ map (λ (p : Position). (post_at k c p).packet) (map (λ (item : Post). item.position) (drop n (map (post_at k c) ps)))
bytes_by k c [] zero = refl
bytes_by k c [] (suc n) = refl
bytes_by k c (p ∷ ps) zero =
    ap₂ (λ (b : List ℕ) (l : List (List ℕ)). b ∷ l) (ap (λ (q : Position). (post_at k c q).packet) (sym (position-post_at k c p))) (bytes_by k c ps zero)
bytes_by k c (p ∷ ps) (suc n) = bytes_by k c ps n

waiting_is : (k : Mechanism) (w : World) (side : Side)
    → waiting (kept_in k w side) ≡ map (λ (p : Position). (post_at k w.conversation p).packet) (positions_of (kept_in k w side))
waiting_is k w side =
    let v = view_of w side in
    bytes_by k w.conversation (filter (λ (p : Position). is_own v.side p.epoch) (positions w.conversation)) v.dropped

-- ---- the names of the boxes

side_in : (k : Mechanism) (w : World) (side : Side) → IsLawfulWorld k w → (view_of w side).side ≡ side
side_in k w First lawful = lawful.first.side_is
side_in k w Second lawful = lawful.second.side_is

own_name : (k : Mechanism) (w : World) (side : Side) → IsLawfulWorld k w → own_box (kept_in k w side) ≡ box_name (session_of w.conversation.key) side
own_name k w side lawful = ap (box_name (session_of w.conversation.key)) (side_in k w side lawful)

peers_name : (k : Mechanism) (w : World) (side : Side) → IsLawfulWorld k w
    → peers_box (kept_in k w side) ≡ box_name (session_of w.conversation.key) (peer_of side)
peers_name k w side lawful = ap (λ s. box_name (session_of w.conversation.key) (peer_of s)) (side_in k w side lawful)

peer_twice : (side : Side) → peer_of (peer_of side) ≡ side
peer_twice First = refl
peer_twice Second = refl

-- ---- what stands in the peer's box

posted_packets : (box : Box) (packets : List (List ℕ))
    → map (λ (kept : Kept). kept.packet) (with_posts box packets).packets ≡ map (λ (kept : Kept). kept.packet) box.packets ++ packets
posted_packets box [] = sym (append-nil (map (λ (kept : Kept). kept.packet) box.packets))
posted_packets box (packet ∷ packets) =
    posted_packets (with_packet box packet) packets
    ∙ ap (λ (l : List (List ℕ)). l ++ packets) (map-append (λ (kept : Kept). kept.packet) box.packets (record { number = box.last + 1; packet = packet } ∷ []))
    ∙ append_assoc (map (λ (kept : Kept). kept.packet) box.packets) (packet ∷ []) packets

posted_guard : (box : Box) (packets : List (List ℕ)) → (with_posts box packets).guard ≡ box.guard
posted_guard box [] = refl
posted_guard box (packet ∷ packets) = posted_guard (with_packet box packet) packets

-- ---- the other key's counter, and both keys, stay

other_key : (guard : Guard) (role other : Role) (n : ℕ) → key_of (with_last guard role n) other ≡ key_of guard other
other_key guard Owner Owner n = refl
other_key guard Owner Poster n = refl
other_key guard Poster Owner n = refl
other_key guard Poster Poster n = refl

still_guarded_for : (keys : Option SyncKeys) (role other : Role) (n : ℕ) (guard : Option Guard) → IsGuardedFor keys other guard
    → IsGuardedFor keys other (option_map (counted_on role n) guard)
still_guarded_for None role other n None is = tt
still_guarded_for (Some keys) role other n None is = tt
still_guarded_for None role other n (Some guard) is = absurd is
still_guarded_for (Some keys) role other n (Some guard) is = other_key guard role other _ ∙ is

other_counters : (n many : ℕ) (guard : Option Guard) → HasCounters Owner many guard → HasCounters Owner many (option_map (counted_on Poster n) guard)
other_counters n many None has = tt
other_counters n many (Some guard) has = has

pub goes_over : (k : Mechanism) → GoesOver k
goes_over k = λ prefix again w v side sender receiver boxes own peers replies others ps sends receives same transfers opens has guarded counters room fits first next holds expected.
    let out : waiting sender ≡ map (λ (p : Position). (post_at k w.conversation p).packet) (positions_of sender) =
    subst (λ (kept : Client). waiting kept ≡ map (λ (p : Position). (post_at k w.conversation p).packet) (positions_of kept)) (sym sends.keeps) (waiting_is k w side) in
    let delivered = (transfers boxes own peers has room first.carried first.past).1 fits in
    let after = boxes_left k prefix sender boxes replies in
    let own_is : own_box receiver ≡ peers_box sender =
    ap own_box receives.keeps ∙ own_name k v (peer_of side) receives.lawful
    ∙ ap (λ (c : Conversation). box_name (session_of c.key) (peer_of side)) same ∙ sym (peers_name k w side sends.lawful) ∙ ap peers_box (sym sends.keeps) in
    let peers_is : peers_box receiver ≡ own_box sender =
    ap peers_box receives.keeps ∙ peers_name k v (peer_of side) receives.lawful
    ∙ ap₂ (λ (c : Conversation) (s : Side). box_name (session_of c.key) s) same (peer_twice side) ∙ sym (own_name k w side sends.lawful) ∙ ap own_box (sym sends.keeps) in
    let there = delivered.answered.boxes_are in
    let whole : HoldsPackets k v (with_posts peers (waiting sender)) (ps ++ positions_of sender) =
    posted_packets peers (waiting sender)
    ∙ ap₂ (λ (x y : List (List ℕ)). x ++ y) holds (out ∙ ap (λ (c : Conversation). map (λ (p : Position). (post_at k c p).packet) (positions_of sender)) (sym same))
    ∙ sym (map-append (λ (p : Position). (post_at k v.conversation p).packet) ps (positions_of sender)) in
    let keys = (client_party k again receiver).keys in
    let many = length (waiting sender) in
    let long : length (with_posts peers (waiting sender)).packets ≡ length peers.packets + length sender.outbox =
    sym (length-map (with_posts peers (waiting sender)).packets (λ (kept : Kept). kept.packet)) ∙ ap length (posted_packets peers (waiting sender))
    ∙ length-append (map (λ (kept : Kept). kept.packet) peers.packets) (waiting sender)
    ∙ ap₂ (λ (a b : ℕ). a + b) (length-map peers.packets (λ (kept : Kept). kept.packet)) (length-map sender.outbox (λ (i : Post). i.packet)) in
    (opens v (peer_of side) receives after (counted Poster many (with_posts peers (waiting sender))) (counted Owner (2 * length own.packets + 1) (emptied own)) (record {
      own_guard = still_guarded_for keys Poster Owner many (with_posts peers (waiting sender)).guard (subst (λ (g : Option Guard). IsGuardedFor keys Owner g) (sym (posted_guard peers (waiting sender))) guarded);
      own_counters = other_counters many _ (with_posts peers (waiting sender)).guard
          (subst (λ (g : Option Guard). HasCounters Owner (2 * length (with_posts peers (waiting sender)).packets + 1) g) (sym (posted_guard peers (waiting sender)))
          (subst (λ (n : ℕ). HasCounters Owner (2 * n + 1) peers.guard) (sym long) counters));
      lawful = subst (λ (bs : List Box). All IsLawfulBox bs) there delivered.answered.lawful;
      own_box = ap (λ (n : List ℕ). box_of n after) own_is ∙ ap (box_of (peers_box sender)) (sym there) ∙ delivered.peers_box;
      peers_box = ap (λ (n : List ℕ). box_of n after) peers_is ∙ ap (box_of (own_box sender)) (sym there) ∙ delivered.own_box;
    }) next.carried next.past (ps ++ positions_of sender) whole expected).1

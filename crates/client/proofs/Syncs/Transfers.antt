-- A sync whose replies are those of a relay.
use Rattle.std.proofs.Common.{Err, List, Ok, Result, [], ap, arith, inl, inr, length, refl, subst, sym, true, ℕ, ◌++◌, ◌∙◌, ◌∷◌, ◌≡◌, ◌≤◌, append_assoc}
use Rattle.std.specs.Prelude.{All, IfSome, map}
use Rattle.std.specs.List.{AllByRecursion}
use Rattle.std.proofs.lemmas.List.{length-map}
use Rattle.boxes.specs.Posts.{Post}
use Rattle.dr_base.specs.declared.limits.TheConstants.{OUTBOX_LIMIT}
use Rattle.dr_ports.specs.Wires.{IsAhead, Port, Told}
use Rattle.kem_laws.specs.Mechanism.{Mechanism}
use Rattle.relay_core.specs.Boxes.{Box}
use Rattle.relay_core.specs.Lawful.{IsLawfulBox}
use Rattle.relay_core.specs.Streams.{reply_bytes, served}
use Rattle.relay_pipe.specs.Asking.{fault_at}
use Rattle.relay_pipe.specs.declared.faults.PeerFault.{PeerFault}
use Rattle.relay_wire.specs.Names.{is_name}
use Rattle.relay_wire.specs.Replies.{IsLawfulReplied, Replied}
use Rattle.relay_wire.specs.Requests.{Asked}
use Rattle.session_model.specs.Clients.{Client}
use Rattle.sync_model.specs.Carried.{IsCarried, replied_bytes, request_bytes}
use Rattle.sync_model.specs.Courses.{as_list, course_of, made_requests}
use Rattle.sync_model.specs.Moves.{Ending, ended, over}
use Rattle.sync_model.specs.Parties.{Party}
use Rattle.sync_model.specs.Transfers.{CanTransfer, HasRoomForAll, HasRoom, sent_all, taken_all}
use Rattle.sync_model.specs.declared.more.More.{More}
use Rattle.sync_model.proofs.Arriving.{can_transfer, ends_collected, ends_delivered, ends_lawful, no_more}
use Rattle.sync_model.proofs.Asking.{ArePackets, are_made}
use Rattle.sync_model.proofs.Meeting.{outbox_kept, outbox_leaves}
use Rattle.sync_model.proofs.Pending.{not_cut, not_unread, pending}
use Rattle.client.specs.Syncing.Lines.{own_box, peers_box}
use Rattle.client.specs.Syncing.Moments.{Moment}
use Rattle.client.specs.Syncing.Parties.{client_party, waiting}
use Rattle.client.specs.Syncing.SoFar.{Talked}
use Rattle.client.specs.Syncing.Syncs.{EndsSync, IsNoReply, IsSyncOver, IsUnheard, SyncsBy, is_cut, is_unread}
use Rattle.client.specs.Syncing.Transfers.{Carries, CarriesReplies, Collected, Delivered, HasBoxes, HaveAnswered, IsPast, IsUnfailing, Transfers}
use Rattle.client.specs.declared.syncing.faults.SyncFault.{SyncFault}
use Rattle.client.specs.declared.syncing.faults.SyncFault.TheVariants.{Closed, Link, Peer, Refused, Store, Write}
use Rattle.client.proofs.Syncs.Parties.{MayPost, boxes_apart, drops_one, keeps_outbox}
use Rattle.client.proofs.Syncs.Carrying.{came, came_all}

no_items : (items : List Post) → map (λ (i : Post). i.packet) items ≡ [] → items ≡ []
no_items [] is = refl
no_items (item ∷ items) is = absurd (let e : item.packet ∷ map (λ (i : Post). i.packet) items ≡ [] = is in cc)

-- ---- a client that may post what stands in its outbox

module _ (k : Mechanism) (prefix : List ℕ) (first : Client) where
  abbrev mine : Party Client
  mine = client_party k prefix first

  module _ (posts : MayPost first) (replies : List Replied) (lawful : AllByRecursion IsLawfulReplied replies) (boxes : List Box) where
    -- ---- a course that is past, by replies that are a relay's

    module _ (own peers : Box) (has : HasBoxes mine boxes own peers) (room : HasRoom mine first own.packets)
        (is_carried : IsCarried mine first boxes replies) (ending : Ending) (is_over : (course_of mine first replies).wait ≡ over ending) where
      can : CanTransfer mine first boxes own peers
      can = can_transfer mine first boxes own peers (boxes_apart first) has.lawful has.own_box has.peers_box room has.own_guard has.own_counters (drops_one k) (keeps_outbox k)

      abbrev after : List Box
      after = (served boxes (request_bytes (course_of mine first replies).requests)).next

      answered : HaveAnswered mine first replies boxes after
      answered = record { boxes_are = refl; lawful = ends_lawful mine first boxes own peers can replies is_carried ending is_over }

      collected : Collected mine first replies boxes own
      collected =
          let past = ends_collected mine first boxes own peers can replies is_carried ending is_over in
          record { after = after; answered = answered; own_box = past.own_box; count = past.count; keeps = past.state }

      delivered : HasRoomForAll mine.keys (mine.outbox first) peers → Delivered mine first replies boxes own peers
      delivered fits =
          let at = ends_delivered mine first boxes own peers can replies is_carried ending is_over fits in
          let taken = taken_all mine first own.packets in
          record {
            ends = at.waits;
            after = after;
            answered = answered;
            own_box = at.own_box;
            peers_box = at.peers_box;
            keeps = at.state;
            leaves = no_items (course_of mine first replies).state.outbox (ap waiting at.state
                ∙ ap (λ (n : ℕ). waiting (sent_all mine n taken)) (ap length (sym (outbox_kept mine (keeps_outbox k) own.packets first)))
                ∙ outbox_leaves mine taken (drops_one k));
          }

    -- ---- the replies of a link that carries a relay's

    module _ (lawful_boxes : All IsLawfulBox boxes) where
      abbrev carried : (more : List ℕ) → length (course_of mine first replies).requests ≡ length replies
          → replied_bytes replies ++ more ≡ reply_bytes (served boxes (request_bytes (made_requests mine (course_of mine first replies)))) → IsCarried mine first boxes replies
      carried more waited bytes =
          let made = are_made mine (drops_one k) (keeps_outbox k) posts.own posts.peers first replies posts.packets lawful in
          record {
            lawful_boxes = lawful_boxes;
            lawful_requests = made.lawful;
            lawful_replies = lawful;
            few = (let few = made.few in let size = posts.few in omega (arith, few, size, length-map first.outbox (λ (i : Post). i.packet)));
            waited = waited;
            more = more;
            carried = bytes;
          }

      module _ (a b : Moment) (start now : Port) (same : a.client.kept ≡ first) (carries : CarriesReplies boxes start) (ahead : IfSome now.told (λ (t : Told). IsAhead t.now))
          (unfailing : IsUnfailing a b start now) where
        is_carried : (ending : Ending) → (course_of mine first replies).wait ≡ over ending → Talked mine first replies start now → IsCarried mine first boxes replies
        is_carried ending is_over talked =
            let asked = (course_of mine first replies).requests in
            let there = came boxes start now carries (replied_bytes replies) (request_bytes asked) talked.told ahead in
            carried there.more talked.waited
            (there.whole ∙ ap (λ (xs : List Asked). reply_bytes (served boxes (request_bytes xs))) (sym (no_more mine first replies ending is_over)))

        -- a reply that was not heard
        heard : (fault : PeerFault) → IsUnheard mine first replies start now fault → ⊥
        heard fault unheard = by_reply fault unheard.came
          where
            by_reply : (what : PeerFault) → IsNoReply now unheard.rest what → ⊥
            by_reply what (is_unread bad whole reads) =
                let there = came boxes start now carries (replied_bytes replies ++ unheard.rest) (request_bytes (made_requests mine (course_of mine first replies))) unheard.told ahead in
                let is = carried (unheard.rest ++ there.more) unheard.waited (sym (append_assoc (replied_bytes replies) unheard.rest there.more) ∙ there.whole) in
                not_unread unheard.rest there.more bad (pending mine first boxes replies is unheard.asked (ap as_list unheard.waits)) whole reads
            by_reply what (is_cut partial end) =
                let all = came_all boxes start now carries (replied_bytes replies ++ unheard.rest) (request_bytes (made_requests mine (course_of mine first replies))) unheard.told end in
                let is = carried unheard.rest unheard.waited all in
                not_cut unheard.rest (pending mine first boxes replies is unheard.asked (ap as_list unheard.waits)) partial

        by_end : (ending : Ending) → IsSyncOver mine replies ending a b start now → IsCarried mine first boxes replies × IsPast mine first replies
        by_end ending ends =
            let is_over : (course_of mine first replies).wait ≡ over ending = ap (λ (x : Client). (course_of mine x replies).wait) (sym same) ∙ ends.is_over in
            let talked : Talked mine first replies start now = subst (λ (x : Client). Talked mine x replies start now) same ends.talked in
            (is_carried ending is_over talked, (ending, is_over))

        pub carried_past : (result : Result More SyncFault) → EndsSync mine replies a b start now result → IsCarried mine first boxes replies × IsPast mine first replies
        carried_past (Ok which) ends = by_end (ended which) ends
        carried_past (Err (Closed call)) ends = absurd ends
        carried_past (Err Link) ends = absurd (unfailing.link ends.1.rose)
        carried_past (Err (Peer at what)) (inl stopped) = by_end stopped.0 stopped.2
        carried_past (Err (Peer at what)) (inr unheard) =
            absurd (heard (fault_at at what) (subst (λ (x : Client). IsUnheard mine x replies start now (fault_at at what)) same unheard.1))
        carried_past (Err (Refused refusal)) ends = by_end ends.0 ends.2
        carried_past (Err (Store call)) ends = absurd (unfailing.disk call ends.rose)
        carried_past (Err Write) ends = absurd (unfailing.sink ends.wrote.rose)

-- what a client may post is what its names and its outbox allow
pub may_post : (first : Client) (own peers : List ℕ) → own ≡ own_box first → peers ≡ peers_box first → is_name own ≡ true → is_name peers ≡ true
    → ArePackets (waiting first) → length first.outbox ≤ OUTBOX_LIMIT → MayPost first
may_post first own peers own_is peers_is own_lawful peers_lawful packets few = record {
  own = subst (λ (name : List ℕ). is_name name ≡ true) own_is own_lawful;
  peers = subst (λ (name : List ℕ). is_name name ≡ true) peers_is peers_lawful;
  packets = packets;
  few = few;
}

pub transfers : (k : Mechanism) (prefix : List ℕ) (first : Client) (replies : List Replied) → MayPost first → AllByRecursion IsLawfulReplied replies
    → Transfers (client_party k prefix first) first replies
transfers k prefix first replies posts lawful = λ boxes own peers has room is past. (
  collected k prefix first posts replies lawful boxes own peers has room is past.0 past.1,
  λ fits. delivered k prefix first posts replies lawful boxes own peers has room is past.0 past.1 fits,
)

pub carries : (k : Mechanism) (prefix : List ℕ) (a b : Moment) (start now : Port) (result : Result More SyncFault) (replies : List Replied)
    → MayPost a.client.kept → IfSome now.told (λ (t : Told). IsAhead t.now)
    → SyncsBy (client_party k prefix a.client.kept) replies a b start now result
    → Carries (client_party k prefix a.client.kept) replies a b start now
carries k prefix a b start now result replies posts ahead syncs = λ boxes lawful_boxes tells unfailing.
    carried_past k prefix a.client.kept posts replies syncs.lawful boxes lawful_boxes a b start now refl tells ahead unfailing result syncs.ends

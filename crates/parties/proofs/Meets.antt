-- A sync over a link to a relay in memory is a scene.
use Rattle.std.proofs.Common.{◌≡◌, inl, inr, ℕ, ◌≤◌, List, [], ◌++◌, length, true, Option, Some, Result, Ok, Err, refl, sym, ◌∙◌, ap, subst, arith, append-nil}
use Rattle.std.specs.Prelude.{All, OnOk}
use Rattle.std.specs.List.{AllByRecursion}
use Rattle.std.proofs.lemmas.List.{length-map}
use Rattle.boxes.specs.Posts.{Post}
use Rattle.dr_base.specs.declared.limits.TheConstants.{OUTBOX_LIMIT}
use Rattle.dr_disk.specs.State.{all_pass}
use Rattle.dr_ports.specs.MemoryWires.{nothing_comes, plain}
use Rattle.dr_ports.specs.Wires.{Port}
use Rattle.dr_ports.specs.Writing.{TookBeginning}
use Rattle.kem_laws.specs.Mechanism.{Mechanism}
use Rattle.relay_wire.specs.Names.{is_name}
use Rattle.relay_wire.specs.Requests.{Asked}
use Rattle.relay_wire.specs.Replies.{IsLawfulReplied, Replied}
use Rattle.relay_core.specs.Boxes.{Box}
use Rattle.relay_core.specs.Lawful.{IsLawfulBox}
use Rattle.relay_core.specs.Streams.{reply_bytes, served}
use Rattle.relay_pipe.specs.Exchanging.{Exchanges}
use Rattle.relay_pipe.specs.declared.faults.PeerFault.{PeerFault}
use Rattle.relay_pipe.specs.declared.faults.PeerKind.{PeerKind}
use Rattle.relay_pipe.specs.Asking.{fault_at}
use Rattle.session_model.specs.Clients.{Client}
use Rattle.sync_model.specs.Parties.{Party}
use Rattle.sync_model.specs.Moves.{Ending, ended, inbox_full, box_is_full, no_such_box, denied_by, over, wrong}
use Rattle.sync_model.specs.Courses.{Course, all_lines, as_list, asked_now, course_of}
use Rattle.sync_model.specs.Carried.{IsCarried, replied_bytes, request_bytes}
use Rattle.relay_wire.specs.Framed.{request_frame}
use Rattle.sync_model.specs.Scenes.{scene}
use Rattle.sync_model.specs.Transfers.{Meeting}
use Rattle.sync_model.specs.declared.more.More.{More}
use Rattle.sync_model.proofs.Answering.{never_wrong}
use Rattle.sync_model.proofs.Arriving.{no_more}
use Rattle.sync_model.proofs.Asking.{ArePackets, are_made}
use Rattle.sync_model.proofs.Reading.{bytes_last}
use Rattle.relay_link.specs.Connections.{Behind, LinkConnection, IsLawfulConnection, behind_of, boxes_now, fresh_connection, connection_is_ahead, connection_port, connection_wire}
use Rattle.relay_link.specs.Playing.{IsSynced, synced}
use Rattle.relay_link.specs.declared.limits.TheConstants.{REPLY_LIMIT}
use Rattle.relay_link.proofs.Bringing.{brought}
use Rattle.relay_link.proofs.Playing.{always_read, broken, never_ends, shown_so, ended as ends_so}
use Rattle.client.specs.Syncing.Arrivals.{OpensArrived}
use Rattle.client.specs.Syncing.Lines.{own_box, peers_box}
use Rattle.client.specs.Syncing.Moments.{Moment, Wrote, WroteBeginning}
use Rattle.client.specs.Syncing.Parties.{client_party, waiting}
use Rattle.client.specs.Syncing.Rounds.{sync_fault_of}
use Rattle.client.specs.Syncing.SoFar.{Stands, Talked}
use Rattle.client.specs.Syncing.Syncs.{EndsSync, IsNoReply, IsSyncOver, IsUnheard, IsUnwritten, Syncs, is_cut, is_unread}
use Rattle.client.specs.Syncing.Transfers.{CarriesReplies, Transfers}
use Rattle.client.proofs.Syncs.Carrying.{came}
use Rattle.client.proofs.Syncs.Parties.{drops_one, keeps_outbox}
use Rattle.client.specs.declared.syncing.faults.SyncFault.{SyncFault}
use Rattle.client.specs.declared.syncing.faults.SyncFault.TheVariants.{Closed, Link, Peer, Refused, Store, Write}
use Rattle.dr_ports.proofs.WritingLemmas.{took_of_first}
use Rattle.parties.specs.GoingOver.{IsServedSync}
use Rattle.parties.specs.Meetings.{EndsBy, Plays, Reaches, IsOpenAtRest}

module _ (k : Mechanism) (prefix : List ℕ) (kept : ℕ) (boxes : List Box) (a b : Moment) (now : LinkConnection)
    (own : is_name (own_box a.client.kept) ≡ true) (peers : is_name (peers_box a.client.kept) ≡ true) (packets : ArePackets (waiting a.client.kept))
    (lawful_boxes : All IsLawfulBox boxes) (passes : a.disk.fate ≡ all_pass) (stands : behind_of now ≡ behind_of (fresh_connection kept boxes))
    (lawful : IsLawfulConnection now) (later : a.sink.faults ≤ b.sink.faults) where
  abbrev first : Client
  first = a.client.kept

  abbrev p : Party Client
  p = client_party k prefix first

  abbrev m : Meeting Client
  m = scene p kept first boxes

  abbrev start : Port
  start = connection_port (fresh_connection kept boxes)

  abbrev end : Port
  end = connection_port now

  carries : CarriesReplies boxes start
  carries = record {
    told = record { now = connection_wire (fresh_connection kept boxes); before = []; coming = nothing_comes; line = plain };
    tells = refl;
    gives = λ put. refl;
  }

  few : kept ≤ REPLY_LIMIT
  few = omega (arith, lawful.few, ap (λ (b : List ℕ → Behind). (b []).kept) stands)

  module _ (replies : List Replied) (lawful_replies : AllByRecursion IsLawfulReplied replies) where
    abbrev course : Course Client
    course = course_of p first replies

    syncs_so : (rest put : List ℕ) → length course.requests ≡ length replies
        → Exchanges (replied_bytes replies ++ rest) (request_bytes course.requests ++ put) start end
        → IsSynced p kept first boxes replies rest put now
    syncs_so rest put waited told = record {
      lawful_boxes = lawful_boxes;
      lawful_requests = (are_made p (drops_one k) (keeps_outbox k) own peers first replies packets lawful_replies).lawful;
      lawful_replies = lawful_replies;
      few = few;
      waited = waited;
      brought = brought boxes kept (replied_bytes replies ++ rest) (request_bytes course.requests ++ put) now told stands lawful;
    }

    rested : Stands p replies a b → IsOpenAtRest b
    rested stood = record { is_open = stood.is_open; ready = stood.ready; passes = stood.fate passes }

    reached : m ≡ synced p first replies now → Stands p replies a b → Reaches m b (boxes_now now)
    reached is stood = record {
      keeps = stood.keeps ∙ ap (λ (x : Meeting Client). x.course.state) (sym is);
      rests = rested stood;
      boxes_are = ap (λ (x : Meeting Client). x.boxes) (sym is);
    }

    -- no more was sent than the requests that were answered
    talked_so : Talked p first replies start end → IsSynced p kept first boxes replies [] [] now
    talked_so talked =
        syncs_so [] [] talked.waited
        (subst (λ (g : List ℕ). Exchanges g (request_bytes course.requests ++ []) start end) (sym (append-nil (replied_bytes replies)))
        (subst (λ (q : List ℕ). Exchanges (replied_bytes replies) q start end) (sym (append-nil (request_bytes course.requests))) talked.told))

    -- the course has ended
    over_so : (ending : Ending) → IsSyncOver p replies ending a b start end → m ≡ synced p first replies now
    over_so ending is = ends_so p kept first boxes replies now (talked_so is.talked) ending is.is_over

    -- a write failed in a beginning of the lines
    unwritten : IsUnwritten p replies a b start end → WroteBeginning (all_lines p m.course) a b
    unwritten is =
        let all = shown_so p kept first boxes replies now (talked_so is.talked) in record {
          beginning = subst (TookBeginning a.sink.taken b.sink.taken) (sym all.1) (took_of_first a.sink.taken b.sink.taken (all_lines p course) all.0 is.wrote.beginning);
          rose = is.wrote.rose;
        }

    ends_by : (ending : Ending) → IsSyncOver p replies ending a b start end → Reaches m b (boxes_now now) × EndsBy p m a b ending
    ends_by ending is =
        let same = over_so ending is in
        let wrote = subst (λ (c : Course Client). Wrote (all_lines p c) a b) (ap (λ (x : Meeting Client). x.course) (sym same)) is.wrote in
        (reached same is.stands, (ap (λ (x : Meeting Client). x.course.wait) same ∙ is.is_over, wrote))

    -- it doesn't end wrong
    not_wrong : (ending : Ending) (at : ℕ) (what : PeerKind) → sync_fault_of ending ≡ Some (Peer at what) → IsSyncOver p replies ending a b start end
        → ⊥
    not_wrong (ended which) at what is ends = absurd (cc)
    not_wrong inbox_full at what is ends = absurd (cc)
    not_wrong box_is_full at what is ends = absurd (cc)
    not_wrong no_such_box at what is ends = absurd (cc)
    not_wrong (denied_by rule) at what is ends = absurd (cc)
    not_wrong wrong at what is ends = never_wrong p kept first boxes (ap (λ (x : Meeting Client). x.course.wait) (over_so wrong ends) ∙ ends.is_over)

    -- a reply comes
    not_unheard : (fault : PeerFault) → IsUnheard p first replies start end fault → ⊥
    not_unheard fault is = by_came fault is.rest (syncs_so is.rest (request_frame is.asked) is.waited told) is.came
      where
        told : Exchanges (replied_bytes replies ++ is.rest) (request_bytes course.requests ++ request_frame is.asked) start end
        told = subst (λ (q : List ℕ). Exchanges (replied_bytes replies ++ is.rest) q start end)
            (ap (λ (o : Option Asked). request_bytes (course.requests ++ as_list o)) is.waits ∙ bytes_last request_frame course.requests is.asked) is.told

        by_came : (f : PeerFault) (rest : List ℕ) → IsSynced p kept first boxes replies rest (request_frame is.asked) now
            → IsNoReply end rest f → ⊥
        by_came f rest so (is_unread bad whole reads) = always_read p kept first boxes replies rest now is.asked so is.waits bad whole reads
        by_came f rest so (is_cut partial ends) = never_ends p kept first boxes replies rest now is.asked so is.waits partial ends

    -- the replies are the relay's, where the course has come to its end
    carried_so : (ending : Ending) → course.wait ≡ over ending → Talked p first replies start end → length first.outbox ≤ OUTBOX_LIMIT
        → IsCarried p first boxes replies
    carried_so ending is_over talked most =
        let there = came boxes start end carries (replied_bytes replies) (request_bytes course.requests) talked.told (connection_is_ahead now) in
        let made = are_made p (drops_one k) (keeps_outbox k) own peers first replies packets lawful_replies in
        record {
          lawful_boxes = lawful_boxes;
          lawful_requests = made.lawful;
          lawful_replies = lawful_replies;
          few = (let few = made.few in omega (arith, few, most, length-map first.outbox (λ (i : Post). i.packet)));
          waited = talked.waited;
          more = there.more;
          carried = there.whole ∙ ap (λ (xs : List Asked). reply_bytes (served boxes (request_bytes xs))) (sym (no_more p first replies ending is_over));
        }

    served_so : (ending : Ending) → IsSyncOver p replies ending a b start end → length first.outbox ≤ OUTBOX_LIMIT
        → Transfers p first replies → OpensArrived k prefix first replies
        → IsServedSync k prefix first b.client.kept boxes (boxes_now now)
    served_so ending ends most transfers opens = record {
      replies = replies;
      served = record { carried = carried_so ending ends.is_over ends.talked most; past = (ending, ends.is_over) };
      keeps = ends.stands.keeps;
      boxes_are = (talked_so ends.talked).brought.boxes_are
          ∙ ap (λ (put : List ℕ). (served boxes put).next) (append-nil (request_bytes course.requests));
      transfers = transfers;
      opens = opens;
    }

    by_ends : (result : Result More SyncFault) → EndsSync p replies a b start end result → Plays p m a b (boxes_now now) result
    by_ends (Ok more) ends = ends_by (ended more) ends
    by_ends (Err (Refused refusal)) ends = let e = ends_by ends.0 ends.2 in (e.0, (ends.0, ends.1, e.1))
    by_ends (Err (Peer at what)) (inl ends) = not_wrong ends.0 at what ends.1 ends.2
    by_ends (Err (Peer at what)) (inr ends) = not_unheard (fault_at at what) ends.1
    by_ends (Err Link) ends =
        let cut = ends.1 in
        let rose = cut.rose in
        let same : m ≡ synced p first replies now =
        broken p kept first boxes replies cut.rest cut.put now (syncs_so cut.rest cut.put cut.waited cut.told) cut.asked cut.waits cut.left cut.split (omega (arith, rose)) in (
          reached same ends.0,
          (cut.asked, ap (λ (x : Meeting Client). asked_now p x.course) same ∙ cut.waits),
          subst (λ (c : Course Client). Wrote c.lines a b) (ap (λ (x : Meeting Client). x.course) (sym same)) ends.2,
        )
    by_ends (Err Write) ends = (rested ends.stands, unwritten ends, later)
    by_ends (Err (Store call)) ends = ends.fate passes
    by_ends (Err (Closed call)) ends = ends

  pub plays : (result : Result More SyncFault) → Syncs p a b start end result → Plays p m a b (boxes_now now) result
  plays result syncs = by_ends syncs.replies syncs.syncs.lawful result syncs.syncs.ends

  -- where it came to its end, that was by the relay's replies
  pub comes_to_end : (result : Result More SyncFault) (syncs : Syncs p a b start end result) → length first.outbox ≤ OUTBOX_LIMIT
      → Transfers p first syncs.replies → OpensArrived k prefix first syncs.replies
      → OnOk result (IsServedSync k prefix first b.client.kept boxes (boxes_now now))
  comes_to_end (Ok which) syncs most transfers opens =
      served_so syncs.replies syncs.syncs.lawful (ended which) syncs.syncs.ends most transfers opens
  comes_to_end (Err fault) syncs most transfers opens = tt

-- A sync of a script fetches packets that were said, and posts no others.
use Rattle.std.proofs.Common.{List, None, Option, Some, [], ap, false, refl, subst, suc, sym, true, zero, Bool, ℕ, ◌∷◌, ◌≡◌}
use Rattle.std.specs.Prelude.{All, IfSome, if◌then◌else◌, option_map}
use Rattle.relay_guard.specs.Guards.{Token}
use Rattle.std.proofs.lemmas.List.Elements.{All-head, All-tail}
use Rattle.dr_base.specs.declared.position.Side.{Side}
use Rattle.dr_base.specs.Position.{peer_of}
use Rattle.dr_model.specs.Machines.Acts.{Act, taking}
use Rattle.dr_model.specs.Machines.WorldActs.{act_in, event_of}
use Rattle.dr_model.specs.Machines.WorldSides.{kept_in}
use Rattle.dr_model.specs.Machines.Worlds.{World}
use Rattle.dr_model.specs.Theorems.Fairness.{IsUnforged}
use Rattle.dr_model.specs.Theorems.Acting.{IsFairAct}
use Rattle.dr_model.specs.Theorems.LawfulWorlds.{IsLawfulWorld}
use Rattle.dr_model.proofs.Acting.ActsFollowing.{act_leaves}
use Rattle.kem_laws.specs.Mechanism.{IsLawfulMechanism, Mechanism}
use Rattle.relay_core.specs.Boxes.{Answer, Box, Kept, answer_in, answer_of, answers_of, after_box, is_named, of_first, oldest}
use Rattle.relay_core.proofs.Judged.{IsAnswered, is_answered, is_denied, is_served}
use Rattle.relay_link.specs.Connections.{kept_before}
use Rattle.relay_wire.specs.Requests.{Asked, bare_request, fetches}
use Rattle.sync_model.specs.Carried.{relay_after}
use Rattle.sync_model.specs.Courses.{as_list}
use Rattle.sync_model.specs.Moves.{Wait, acking, asked_in, posting_of, fetching, over, posting}
use Rattle.sync_model.specs.Parties.{Party}
use Rattle.sync_model.specs.Tokens.{tagged}
use Rattle.sync_model.specs.Scenes.{IsFairNext, MeetsFairly, scene, without_reply}
use Rattle.sync_model.specs.Simulation.{AreAlike, IsFairReply}
use Rattle.sync_model.specs.Transfers.{Meeting, answered, begins, meet_times, meets}
use Rattle.sync_model.proofs.Alike.{read_alike}
use Rattle.client.specs.Syncing.Parties.{oldest_sent, waiting, world_party}
use Rattle.duet.specs.Outcomes.{WorldBeside}
use Rattle.scripts.specs.Sides.{side_text}
use Rattle.duet.specs.Shuts.{Shuts, shut_of}
use Rattle.duet.proofs.Moving.{if_any, if_none, one_of}
use Rattle.duet.proofs.SaidBoxes.{AsksOnly, HoldsOnly, IsHonest, IsSaidPacket, KeepsShut, boxes_weaker, honest_next, outbox_said, relay_holds, unforged}

-- ---- one reply

-- with a token or without one
abbrev fetch_of : List ℕ → Option Token → Asked
fetch_of name token = record { name = name; ask = fetches; token = token }

-- a fetch brings a packet of the boxes
module _ {S : Type 0} (Is : S → List ℕ → Type 0) (s : S) (n : ℕ) where
  oldest_is : (packets : List Kept) → All (λ (kept : Kept). Is s kept.packet) packets → IsFairReply Is s (fetching n) (oldest packets)
  oldest_is [] are = tt
  oldest_is (kept ∷ more) are = All-head (λ (x : Kept). Is s x.packet) kept more are

  -- or it is denied
  fetched_in : (box : Box) (name : List ℕ) (token : Option Token) → HoldsOnly (Is s) box
      → IsFairReply Is s (fetching n) (answer_in box (fetch_of name token)).reply
  unfolding answer_of
  fetched_in box name token holds = by_answer (is_answered box (fetch_of name token))
    where
      by_answer : IsAnswered box (fetch_of name token) (answer_in box (fetch_of name token))
          → IsFairReply Is s (fetching n) (answer_in box (fetch_of name token)).reply
      by_answer (is_served reply packets) = subst (IsFairReply Is s (fetching n)) (sym reply) (oldest_is box.packets holds)
      by_answer (is_denied rule last still) = subst (λ (a : Answer). IsFairReply Is s (fetching n) a.reply) (sym still) tt

  fetched_is : (name : List ℕ) (token : Option Token) (boxes : List Box) → All (HoldsOnly (Is s)) boxes
      → IsFairReply Is s (fetching n) (answers_of boxes (fetch_of name token)).reply
  unfolding answers_of
  fetched_is name token [] hold = tt
  fetched_is name token (box ∷ boxes) hold = by_name (is_named name box) (fetched_is name token boxes (All-tail (HoldsOnly (Is s)) box boxes hold))
    where
      by_name : (named : Bool) → IsFairReply Is s (fetching n) (answers_of boxes (fetch_of name token)).reply
          → IsFairReply Is s (fetching n) (if named then of_first (answer_in box (fetch_of name token)) boxes else after_box box (answers_of boxes (fetch_of name token))).reply
      by_name true more = fetched_in box name token (All-head (HoldsOnly (Is s)) box boxes hold)
      by_name false more = more

-- a post sends the oldest packet of the outbox
oldest_posted : (Is : List ℕ → Type 0) (name : List ℕ) (packets : List (List ℕ)) → All Is packets
    → IfSome (posting_of name packets) (λ (asked : Asked). AsksOnly Is asked.ask)
oldest_posted Is name [] are = tt
oldest_posted Is name (packet ∷ packets) are = All-head Is packet packets are

module _ (k : Mechanism) (law : IsLawfulMechanism k) (side : Side) (start : World) (shuts : Shuts (Option Act))
    (unshut : shut_of shuts side ≡ None) where
  abbrev party : Party World
  party = world_party k (side_text side) side start

  abbrev Fair : World → List ℕ → Type 0
  Fair turn packet = IsUnforged k turn side packet

  -- a world and the boxes where a sync stands
  abbrev beside : World → List Box → WorldBeside
  beside w boxes = record { ends = w; boxes = boxes; shuts = shuts }

  abbrev at : Meeting World → WorldBeside
  at m = beside m.course.state m.boxes

  -- what a sync asks posts no other packets than these
  asks_said : (w : World) (wait : Wait) → IfSome (asked_in party w wait) (λ (asked : Asked). AsksOnly (IsSaidPacket k w) asked.ask)
  asks_said w (fetching n) = tt
  asks_said w (acking n number) = tt
  asks_said w (posting which) = oldest_posted (IsSaidPacket k w) party.peers (waiting (kept_in k w side)) (outbox_said k w side)
  asks_said w (over ending) = tt

  -- one world, which is honest beside the boxes
  abbrev AreOne : List Box → World → World → Type 0
  AreOne boxes v w = (v ≡ w) × IsHonest k (beside w boxes)

  -- the other side keeps what it kept
  abbrev Unmoved : World → World → Side → Type 0
  Unmoved w next y = kept_in k next y ≡ kept_in k w y

  other_keeps : (w : World) (act : Act) → IsLawfulWorld k w → IsFairAct k w side act
      → KeepsShut k shuts w (act_in k w side act).next
  other_keeps w act lawful fair = λ x.
      let next = (act_in k w side act).next in
      one_of (λ (y : Side). IfSome (shut_of shuts y) (λ _. Unmoved w next y)) side x
      (if_none (λ _. Unmoved w next side) (shut_of shuts side) unshut)
      (if_any (Unmoved w next (peer_of side)) (shut_of shuts (peer_of side)) (act_leaves k w side act law lawful fair))

  -- what a sync does to it keeps it so
  keeps : (boxes : List Box) → AreAlike party party (AreOne boxes) Fair
  keeps boxes = record {
    own = refl;
    peers = refl;
    keys = refl;
    stored_line = λ number. refl;
    end_line = λ which. refl;
    outbox = λ v w are. ap party.outbox are.0;
    sent = λ v w are. (
      ap party.sent are.0,
      honest_next k (beside w boxes) (event_of side oldest_sent) are.1 tt
          (other_keeps w oldest_sent are.1.lawful tt),
    );
    takes = λ v w packet are fair. record {
      line = ap (λ (x : World). (party.take x packet).line) are.0;
      full = ap (λ (x : World). (party.take x packet).full) are.0;
      next = (
        ap (λ (x : World). (party.take x packet).next) are.0,
        honest_next k (beside w boxes) (event_of side (taking packet)) are.1 tt
            (other_keeps w (taking packet) are.1.lawful fair),
      );
    };
  }

  module _ (m : Meeting World) (honest : IsHonest k (at m)) where
    abbrev w : World
    w = m.course.state

    -- what is asked, with its token
    abbrev with_token : Option Asked → Option Asked
    with_token o = option_map (tagged party.keys m.course.tokens) o

    -- the packet that comes at the next reply, if one comes, is fair
    reply_fair : (wait : Wait) (asked : Asked) → asked_in party w wait ≡ Some asked
        → IsFairReply Fair w wait (answers_of m.boxes (tagged party.keys m.course.tokens asked)).reply
    reply_fair (fetching n) asked is =
        let Replied : Option Asked → Type 0 = λ o. IfSome o (λ (a : Asked). IsFairReply Fair w (fetching n) (answers_of m.boxes (tagged party.keys m.course.tokens a)).reply) in
        subst Replied is
        (fetched_is Fair w n party.own (tagged party.keys m.course.tokens (bare_request party.own fetches)).token m.boxes
        (boxes_weaker (IsSaidPacket k w) (Fair w) (λ packet. unforged k w side packet honest.lawful) m.boxes honest.boxes))
    reply_fair (acking n number) asked is = tt
    reply_fair (posting which) asked is = tt
    reply_fair (over ending) asked is = tt

    next_fair : (o : Option Asked) → asked_in party w m.course.wait ≡ o → IsFairNext party Fair m (with_token o)
    next_fair None is = tt
    next_fair (Some asked) is = reply_fair m.course.wait asked is

    -- the request that waits leaves the boxes so
    asked_holds : (o : Option Asked) → asked_in party w m.course.wait ≡ o
        → All (HoldsOnly (IsSaidPacket k w)) (relay_after m.boxes (as_list (with_token o)))
    asked_holds None is = honest.boxes
    asked_holds (Some asked) is =
        relay_holds (IsSaidPacket k w) m.boxes (tagged party.keys m.course.tokens asked) honest.boxes
        (subst (λ (o : Option Asked). IfSome o (λ (a : Asked). AsksOnly (IsSaidPacket k w) a.ask)) is (asks_said w m.course.wait))

    answered_honest : (o : Option Asked) → asked_in party w m.course.wait ≡ o → IsHonest k (at (answered party m (with_token o)))
    answered_honest None is = honest
    answered_honest (Some asked) is =
        let sends = tagged party.keys m.course.tokens asked in
        let boxes = (answers_of m.boxes sends).next in
        let stands : IsHonest k (beside w boxes) = record { lawful = honest.lawful; boxes = asked_holds (Some asked) is; shuts = honest.shuts } in
        (read_alike party party (AreOne boxes) Fair (keeps boxes) m.course m.course (answers_of m.boxes sends).reply
        (record { state = (refl, stands); acts = refl; lines = refl; requests = refl; wait = refl; tokens = refl }) (reply_fair m.course.wait asked is)).state.1

    meets_honest : IsHonest k (at (meets party m))
    meets_honest = answered_honest (asked_in party w m.course.wait) refl

    without_honest : IsHonest k (at (without_reply party m))
    without_honest = record { lawful = honest.lawful; boxes = asked_holds (asked_in party w m.course.wait) refl; shuts = honest.shuts }

  -- ---- a sync

  -- each packet that is fetched is fair
  fair_times : (n : ℕ) (m : Meeting World) → IsHonest k (at m) → MeetsFairly party Fair n m
  fair_times zero m honest = tt
  fair_times (suc n) m honest = (next_fair m honest (asked_in party m.course.state m.course.wait) refl, fair_times n (meets party m) (meets_honest m honest))

  honest_times : (n : ℕ) (m : Meeting World) → IsHonest k (at m) → IsHonest k (at (meet_times party n m))
  honest_times zero m honest = honest
  honest_times (suc n) m honest = honest_times n (meets party m) (meets_honest m honest)

  module _ (boxes : List Box) (honest : IsHonest k (beside start boxes)) (lost : Option ℕ) where
    pub sync_fair : MeetsFairly party Fair (kept_before lost) (begins party start boxes)
    sync_fair = fair_times (kept_before lost) (begins party start boxes) honest

    pub sync_honest : IsHonest k (at (scene party (kept_before lost) start boxes))
    sync_honest = without_honest (meet_times party (kept_before lost) (begins party start boxes)) (honest_times (kept_before lost) (begins party start boxes) honest)

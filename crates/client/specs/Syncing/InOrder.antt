-- A sync reply by reply: what stands on the disk while each request is sent, and what a crash may
-- leave until the step of its reply is made. The disks and links between two replies are values of
-- the types that the caller chose: what is claimed for all such types is claimed for those whose
-- values are just the states that a disk and a link went through.
use Rattle.std.specs.Prelude.{Bool, Err, List, Ok, Result, Some, [], drop, false, if◌then◌else◌, not, true, ℕ, ◌&&◌, ◌+◌, ◌++◌, ◌∷◌, ◌≡◌, ◌≤◌, ◌⊎◌}
use Rattle.std.specs.List.{sum_by}
use Rattle.dr_disk.specs.Spans.{HavePassed}
use Rattle.dr_disk.specs.State.{DiskState}
use Rattle.dr_ports.specs.States.{SinkState}
use Rattle.dr_ports.specs.Wires.{Port}
use Rattle.relay_pipe.specs.Exchanging.{Exchanges}
use Rattle.relay_wire.specs.Framed.{reply_text, request_frame}
use Rattle.relay_wire.specs.Replies.{Replied, stored}
use Rattle.relay_wire.specs.Requests.{Asked, Asking, acks}
use Rattle.session_model.specs.Clients.{Client}
use Rattle.slot_store.specs.Store.{SlotStore}
use Rattle.sync_model.specs.Carried.{request_bytes}
use Rattle.sync_model.specs.Courses.{asked_now, awaited, course_of, made_requests}
use Rattle.sync_model.specs.Moves.{Wait, ended, over, waits_by}
use Rattle.sync_model.specs.Parties.{Party, SideAct, sending, taking}
use Rattle.sync_model.specs.Tokens.{Tokens}
use Rattle.sync_model.specs.declared.more.More.{More}
use Rattle.client.specs.Clients.{ClientNow, IsReady}
use Rattle.client.specs.Outcomes.{IsReplacing}
use Rattle.client.specs.declared.syncing.faults.SyncFault.{SyncFault}
use Rattle.client.specs.declared.syncing.faults.SyncFault.TheVariants.{Store}
use Rattle.client.specs.Syncing.Moments.{IsCounted, Moment, moment}
use Rattle.client.specs.Syncing.Rounds.{RoundEnd, goes_on, stops}
use Rattle.client.specs.Syncing.SoFar.{SoFar}
use Rattle.client.specs.Syncing.Syncs.{HasRecord, Syncs}

-- each image is at rest for what is kept
pub record IsAtRestFor (kept : Client) (disk : DiskState) : Type 0 where
  pub store : SlotStore
  pub ready : IsReady kept store disk

-- ---- counted

abbrev pub is_ack : Asking → Bool
is_ack (acks number) = true
is_ack _ = false

-- how many of these requests acknowledge, behind one that does or doesn't: where two do in a row,
-- the second is the first once more
abbrev pub acks_after : Bool → List Asked → ℕ
acks_after behind [] = 0
acks_after behind (asked ∷ more) =
    (if is_ack asked.ask && not behind then 1 else 0) + acks_after (is_ack asked.ask) more

abbrev pub acks_among : List Asked → ℕ
acks_among requests = acks_after false requests

-- packets that were taken among acts, and packets that the relay keeps among replies

abbrev pub take_count : SideAct → ℕ
take_count (taking packet) = 1
take_count (sending n) = 0

abbrev pub kept_count : Replied → ℕ
kept_count (stored number) = 1
kept_count _ = 0

-- ---- what is at rest

-- a crash between two moments may have left these bytes
abbrev pub IsLeftBetween : DiskState → DiskState → List ℕ → Type 0
IsLeftBetween start now c = now.image c ⊎ now.since start.moment c

-- ---- one reply

module _ (p : Party Client) (first : Client) where
  -- what is kept once the steps of these replies are made
  abbrev pub kept_after : List Replied → Client
  kept_after replies = (course_of p first replies).state

  -- The request that waits behind these replies was sent and its reply was read, and then its step
  -- was begun: meanwhile each crash left the record from before it or the one from after it.
  pub record IsTurn (replies : List Replied) (reply : Replied) (disk next : DiskState)
      (link later : Port) : Type 0 where
    pub asked : Asked
    pub waits : asked_now p (course_of p first replies) ≡ Some asked
    pub told : Exchanges (reply_text reply) (request_frame asked) link later
    pub during : IsReplacing (kept_after replies) (kept_after (replies ++ reply ∷ [])) disk next

  -- a beginning of the request that waits behind these replies was sent, and no reply to it was
  -- made a step of
  pub record IsAwaited (replies : List Replied) (disk next : DiskState) (link later : Port)
      : Type 0 where
    pub got : List ℕ
    pub put : List ℕ
    pub left : List ℕ
    pub split : request_bytes (awaited p (course_of p first replies)) ≡ put ++ left
    pub told : Exchanges got put link later
    pub during : IsReplacing (kept_after replies) (kept_after replies) disk next
    pub idle : HavePassed 0 disk next

  -- ---- reply by reply

  module _ {X Y : Type 0} (state : X → DiskState) (port : Y → Port) (start : X) (from : Y) where
    -- These replies were read and their steps made: before the next request was sent, the disk was
    -- at rest for the step. A step made just the calls on the disk that replace its record, or
    -- none.
    pub data AreStepped : List Replied → X → Y → Type 0 where
      none_yet : IsAtRestFor first (state start) → AreStepped [] start from
      one_more : (replies : List Replied) (reply : Replied) (disk next : X) (link later : Y)
          → AreStepped replies disk link
          → IsTurn replies reply (state disk) (state next) (port link) (port later)
          → IsCounted (kept_after replies) (kept_after (replies ++ reply ∷ []))
          (state disk) (state next)
          → IsAtRestFor (kept_after (replies ++ reply ∷ [])) (state next)
          → AreStepped (replies ++ reply ∷ []) next later

    -- all their steps were made, and then no more was
    pub record EndsBehind (replies : List Replied) (now : X) (last : Y) : Type 0 where
      pub disk : X
      pub link : Y
      pub stepped : AreStepped replies disk link
      pub awaits : IsAwaited replies (state disk) (state now) (port link) (port last)

    -- a call on the disk failed in the last one's step: nothing was sent since that reply was read
    pub record BreaksOffIn (replies : List Replied) (now : X) (last : Y) : Type 0 where
      pub before : List Replied
      pub reply : Replied
      pub split : replies ≡ before ++ reply ∷ []
      pub disk : X
      pub link : Y
      pub stepped : AreStepped before disk link
      pub turn : IsTurn before reply (state disk) (state now) (port link) (port last)

    abbrev pub EndsInOrder : List Replied → X → Y → Result More SyncFault → Type 0
    EndsInOrder replies now last (Err (Store call)) = BreaksOffIn replies now last
    EndsInOrder replies now last _ = EndsBehind replies now last

    -- ---- a moment

    -- These bytes may have been left at a moment at which these replies were read and their steps
    -- made, and of the next request at most all was sent: at rest, or while the step of its reply
    -- is made.
    pub data IsSyncMoment (replies : List Replied) (c : List ℕ) : Type 0 where
      between : (disk : X) (link : Y) → AreStepped replies disk link → (state disk).image c
          → IsSyncMoment replies c
      within : (reply : Replied) (disk next : X) (link later : Y) → AreStepped replies disk link
          → IsTurn replies reply (state disk) (state next) (port link) (port later)
          → IsLeftBetween (state disk) (state next) c → IsSyncMoment replies c

  -- Bytes with the record from after these replies, or from after one more. As many packets were
  -- taken by then as are acknowledged by all requests that were made behind these replies, and no
  -- packet has left the outbox but the oldest ones, no more than the replies say that the relay
  -- keeps.
  pub record IsBehindSent (replies : List Replied) (c : List ℕ) : Type 0 where
    pub front : List Replied
    pub reach : (front ≡ replies) ⊎ ((reply : Replied) × (front ≡ replies ++ reply ∷ []))
    pub has : HasRecord (kept_after front) c
    pub taken : acks_among (made_requests p (course_of p first replies))
        ≤ sum_by take_count (course_of p first front).acts
    pub gone : ℕ
    pub few : gone ≤ sum_by kept_count front
    pub outbox : p.outbox (kept_after front) ≡ drop gone (p.outbox first)

-- ---- a sync in order

-- the values of a caller at one moment: the client, its disk, the link and the sink
pub record Spot (X Y Z : Type 0) : Type 0 where
  pub client : ClientNow
  pub disk : X
  pub link : Y
  pub sink : Z

abbrev pub spot : {X Y Z : Type 0} → ClientNow → X → Y → Z → Spot X Y Z
spot client disk link sink = record { client = client; disk = disk; link = link; sink = sink }

module _ {X Y Z : Type 0} (state : X → DiskState) (port : Y → Port) (taken : Z → SinkState)
    (p : Party Client) where
  abbrev pub moment_at : Spot X Y Z → Moment
  moment_at a = moment a.client (state a.disk) (taken a.sink)

  -- a sync so far, reply by reply
  pub record InOrder (a b : Spot X Y Z) (wait : Wait) (tokens : Tokens) : Type 0 where
    pub far : SoFar p (moment_at a) (moment_at b) (port a.link) (port b.link) wait tokens
    pub stepped : AreStepped p a.client.kept state port a.disk a.link far.replies b.disk
        b.link

  -- a sync, reply by reply
  pub record SyncsInOrder (a b : Spot X Y Z) (result : Result More SyncFault) : Type 0 where
    pub syncs : Syncs p (moment_at a) (moment_at b) (port a.link) (port b.link) result
    pub order : EndsInOrder p a.client.kept state port a.disk a.link syncs.replies b.disk
        b.link result

  -- where a round leaves it, with the counters then
  abbrev pub Leaves : Tokens → Spot X Y Z → Spot X Y Z → RoundEnd → Type 0
  Leaves tokens a b (goes_on wait) = InOrder a b wait tokens
  Leaves tokens a b (stops fault) = SyncsInOrder a b (Err fault)

  -- its two parts
  abbrev pub Collects : Spot X Y Z → Spot X Y Z → Tokens → Result More SyncFault → Type 0
  Collects a b tokens (Ok more) = InOrder a b (waits_by (p.outbox b.client.kept) more) tokens
  Collects a b tokens (Err fault) = SyncsInOrder a b (Err fault)

  abbrev pub Posts : More → Spot X Y Z → Spot X Y Z → Tokens → Result Unit SyncFault → Type 0
  Posts which a b tokens (Ok u) = InOrder a b (over (ended which)) tokens
  Posts which a b tokens (Err fault) = SyncsInOrder a b (Err fault)

-- One round of a sync: a request with its token, and what is made of its reply.
use Rattle.std.specs.Prelude.{Bool, Err, List, None, Ok, Option, Result, Some, [], ⊤, false, if◌then◌else◌, true, ◌<◌, ◌≡◌, ℕ}
use Rattle.dr_ports.specs.Wires.{Port}
use Rattle.dr_disk.specs.Spans.{HavePassed}
use Rattle.dr_disk.specs.declared.call.Call.{Call}
use Rattle.relay_pipe.specs.Asking.{IsBroken, IsFaulty, IsReplied, fault_at}
use Rattle.relay_core.specs.Boxes.{role_of}
use Rattle.relay_wire.specs.Framed.{request_frame}
use Rattle.relay_pipe.specs.declared.faults.PeerKind.{PeerKind}
use Rattle.relay_pipe.specs.declared.faults.PeerKind.TheVariants.{Wrong}
use Rattle.relay_wire.specs.Replies.{Replied}
use Rattle.relay_wire.specs.Requests.{Asked}
use Rattle.relay_wire.specs.Seen.{replied_of}
use Rattle.relay_wire.specs.declared.reply.Reply.{Reply}
use Rattle.session_model.specs.Clients.{Client}
use Rattle.sync_model.specs.Moves.{Ending, denied_by, Move, Wait, acking, box_is_full, ended, fetching, goes, inbox_full, move, no_such_box, over, waits_by, wrong}
use Rattle.sync_model.specs.Parties.{Party}
use Rattle.sync_model.specs.Tokens.{SyncKeys, Tokens, is_repeated, tagged, tokens_by}
use Rattle.sync_model.specs.declared.more.More.TheVariants.{End}
use Rattle.client.specs.declared.syncing.steps.Acked.{Acked}
use Rattle.client.specs.declared.syncing.steps.Acked.TheVariants.{Again as AskedAgain, Done}
use Rattle.client.specs.declared.syncing.steps.Fetched.{Fetched}
use Rattle.client.specs.declared.syncing.steps.Fetched.TheVariants.{Again, Empty, Item}
use Rattle.client.specs.declared.syncing.faults.SyncFault.{SyncFault}
use Rattle.client.specs.declared.syncing.faults.SyncFault.TheVariants.{Closed, Link, Peer, Refused, Store, Write}
use Rattle.client.specs.declared.syncing.faults.SyncRefusal.TheVariants.{BoxFull, Denied, InboxFull, Unknown}
use Rattle.client.specs.Syncing.Moments.{BrokenOff, Moment, Moved, Wrote, WroteBeginning}

-- how a round ends: the sync goes on and waits for another reply, or it stops
pub data RoundEnd : Type 0 where
  goes_on : Wait → RoundEnd
  stops : SyncFault → RoundEnd

abbrev pub round_turn : Wait → Result Unit SyncFault → RoundEnd
round_turn next (Ok u) = goes_on next
round_turn next (Err fault) = stops fault

-- a packet was fetched, of this number; or none stood, and the packets that wait are next; or the
-- oldest is asked for once more
abbrev pub fetched_as : List (List ℕ) → ℕ → Result Fetched SyncFault → RoundEnd
fetched_as packets n (Ok Empty) = goes_on (waits_by packets End)
fetched_as packets n (Ok (Item number)) = goes_on (acking n number)
fetched_as packets n (Ok Again) = goes_on (fetching n)
fetched_as packets n (Err fault) = stops fault

-- where that was made until an answer came: the packet's number, if one stood
abbrev pub fetched_on : List (List ℕ) → ℕ → Result (Option ℕ) SyncFault → RoundEnd
fetched_on packets n (Ok None) = goes_on (waits_by packets End)
fetched_on packets n (Ok (Some number)) = goes_on (acking n number)
fetched_on packets n (Err fault) = stops fault

-- the packet of this number is acknowledged, or is to be once more
abbrev pub acked_as : Wait → ℕ → ℕ → Result Acked SyncFault → RoundEnd
acked_as next n number (Ok Done) = goes_on next
acked_as next n number (Ok AskedAgain) = goes_on (acking n number)
acked_as next n number (Err fault) = stops fault

-- what the end of a course is called, where it isn't one without a fault
abbrev pub sync_fault_of : Ending → Option SyncFault
sync_fault_of (ended which) = None
sync_fault_of inbox_full = Some (Refused InboxFull)
sync_fault_of box_is_full = Some (Refused BoxFull)
sync_fault_of no_such_box = Some (Refused Unknown)
sync_fault_of (denied_by rule) = Some (Refused (Denied rule))
sync_fault_of wrong = Some (Peer 2 Wrong)

-- ---- what is made of a reply

-- what the move says is done, or cut off by a call that failed
pub data MovesTo (m : Move Client) (a b : Moment) : RoundEnd → Type 0 where
  went_on : (next : Wait) → m.wait ≡ next → Moved m.state a b → Wrote m.lines a b → MovesTo m a b (goes_on next)
  came_to_end : (ending : Ending) (fault : SyncFault) → m.wait ≡ over ending → sync_fault_of ending ≡ Some fault → Moved m.state a b
      → Wrote m.lines a b → MovesTo m a b (stops fault)
  was_unwritten : Moved m.state a b → WroteBeginning m.lines a b → MovesTo m a b (stops Write)
  was_unstored : (call : Call) → BrokenOff m.state call a b → Wrote [] a b → MovesTo m a b (stops (Store call))

-- the move asks for nothing to be done
pub data Idles (p : Party Client) (s : Client) (m : Move Client) : RoundEnd → Type 0 where
  idles_on : (next : Wait) → m ≡ goes p s next → Idles p s m (goes_on next)
  idles_to_end : (ending : Ending) (fault : SyncFault) → m ≡ goes p s (over ending) → sync_fault_of ending ≡ Some fault
      → Idles p s m (stops fault)

-- what comes of a reply: its request is made once more, before which nothing is done, or the move
abbrev pub heard_as : Party Client → Client → Wait → Replied → Bool → Move Client
heard_as p s wait reply again = if again then goes p s wait else move p s wait reply

-- how often the request that waits may still be made again
abbrev pub repeats_left : Tokens → ℕ
repeats_left tokens = if tokens.again then 0 else 1

-- ---- a request

module _ (keys : Option SyncKeys) (old new : Tokens) (asked : Asked) (start now : Port) where
  -- The request went out with its token and its reply was read: whether it is made once more, and
  -- the counters then.
  pub record IsHeard (reply : Replied) (again : Bool) : Type 0 where
    pub replied : IsReplied (tagged keys old asked) reply start now
    pub repeats : is_repeated keys old reply ≡ again
    pub counts : new ≡ tokens_by (role_of asked.ask) old reply again

  abbrev pub GetsReply : Result (Option Reply) SyncFault → Type 0
  GetsReply (Ok (Some reply)) = IsHeard (replied_of reply) false
  GetsReply (Ok None) = (reply : Replied) × IsHeard reply true
  GetsReply (Err Link) = IsBroken (request_frame (tagged keys old asked)) start now
  GetsReply (Err (Peer at kind)) =
      IsFaulty (request_frame (tagged keys old asked)) start now (fault_at at kind)
  GetsReply (Err (Closed call)) = ⊥
  GetsReply (Err (Refused refusal)) = ⊥
  GetsReply (Err (Store call)) = ⊥
  GetsReply (Err Write) = ⊥

  -- its reply was read, with what was made of it; or none was, and nothing was done
  pub data Hears (Makes : Replied → Bool → RoundEnd → Type 0) (Still : Type 0) : RoundEnd → Type 0
    where
      heard : (reply : Replied) (again : Bool) (turn : RoundEnd) → IsHeard reply again
          → Makes reply again turn → Hears Makes Still turn
      was_broken : IsBroken (request_frame (tagged keys old asked)) start now → Still
          → Hears Makes Still (stops Link)
      was_unheard : (at : ℕ) (kind : PeerKind)
          → IsFaulty (request_frame (tagged keys old asked)) start now (fault_at at kind) → Still
          → Hears Makes Still (stops (Peer at kind))

-- a request is made once more only where it may be
abbrev pub FetchesOnce : Tokens → Tokens → Result Fetched SyncFault → Type 0
FetchesOnce old new (Ok Again) = repeats_left new < repeats_left old
FetchesOnce old new _ = ⊤

abbrev pub AcksOnce : Tokens → Tokens → Result Acked SyncFault → Type 0
AcksOnce old new (Ok AskedAgain) = repeats_left new < repeats_left old
AcksOnce old new _ = ⊤

-- nothing was done, nor written, and no call on the disk was made
abbrev pub IsUnmoved : Moment → Moment → Type 0
IsUnmoved a b = Moved a.client.kept a b × Wrote [] a b × HavePassed 0 a.disk b.disk

-- a round: the request with its token, and what the party makes of its reply
abbrev pub IsRound : Party Client → Wait → Asked → Tokens → Tokens → Moment → Moment → Port → Port
    → RoundEnd → Type 0
IsRound p wait asked old new a b start now turn =
    Hears p.keys old new asked start now
    (λ reply again turning. MovesTo (heard_as p a.client.kept wait reply again) a b turning)
    (IsUnmoved a b) turn

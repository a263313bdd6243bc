-- A request is sent, and its reply awaited.
use Rattle.std.specs.Prelude.{◌≡◌, ◌≤◌, ◌++◌, ℕ, List, length, drop, Result, Ok, Err}
use Rattle.relay_wire.specs.Framed.{request_frame, reply_text}
use Rattle.dr_ports.specs.Ports.{Rose}
use Rattle.dr_ports.specs.declared.pipe.Part.TheVariants.{Flow, Gate}
use Rattle.dr_ports.specs.Wires.{Port, EndsAt}
use Rattle.relay_wire.specs.Frames.{Held, IsFrame, IsPartial}
use Rattle.relay_wire.specs.Requests.{Asked}
use Rattle.relay_wire.specs.Replies.{Replied, IsLawfulReplied, read_reply}
use Rattle.relay_wire.specs.Seen.{replied_of}
use Rattle.relay_wire.specs.declared.reply.BadReply.{BadReply}
use Rattle.relay_wire.specs.declared.reply.BadReply.TheVariants.{Frame as NoFrame, Kind as NoKind, Size as NoSize}
use Rattle.relay_wire.specs.declared.reply.Reply.{Reply}
use Rattle.relay_pipe.specs.Exchanging.{Exchanges}
use Rattle.relay_pipe.specs.declared.faults.AskFault.{AskFault}
use Rattle.relay_pipe.specs.declared.faults.AskFault.TheVariants.{Pipe, Peer}
use Rattle.relay_pipe.specs.declared.faults.PeerFault.{PeerFault}
use Rattle.relay_pipe.specs.declared.faults.PeerKind.{PeerKind}
use Rattle.relay_pipe.specs.declared.faults.PeerKind.TheVariants.{Frame, Kind, Size, Ended}

-- a fault of the peer's, at a place of the reply
abbrev pub fault_at : ℕ → PeerKind → PeerFault
fault_at at kind = record { at = at; kind = kind }

-- the fault of a frame that is no reply
abbrev pub peer_fault : BadReply → PeerFault
peer_fault NoFrame = fault_at 0 Frame
peer_fault NoKind = fault_at 2 Kind
peer_fault NoSize = fault_at 3 Size

-- No count of its faults falls, no connection failed to begin, and behind it stands what stood
-- there.
pub record LeavesLink {L B : Type 0} (port : L → Port) (behind : L → B) (old new : L) : Type 0 where
  pub flow : (port old).faults Flow ≤ (port new).faults Flow
  pub gate : (port new).faults Gate ≡ (port old).faults Gate
  pub stands : behind new ≡ behind old

-- the reply was read
pub record IsReplied (asked : Asked) (reply : Replied) (start now : Port) : Type 0 where
  pub told : Exchanges (reply_text reply) (request_frame asked) start now
  pub lawful : IsLawfulReplied reply
  pub quiet : now.faults Flow ≡ start.faults Flow

-- a call on the pipe failed: it took a beginning of the request, and gave less than a frame
pub record IsBroken (put : List ℕ) (start now : Port) : Type 0 where
  pub taken : List ℕ
  pub left : List ℕ
  pub got : List ℕ
  pub split : put ≡ taken ++ left
  pub told : Exchanges got taken start now
  pub partial : IsPartial got
  pub rose : Rose (start.faults Flow) (now.faults Flow)

-- a whole frame came that is no reply, or the pipe ended before one was whole
pub data IsFaulty (put : List ℕ) (start now : Port) : PeerFault → Type 0 where
  unread : (frame : List ℕ) (bad : BadReply) → Exchanges frame put start now → IsFrame frame
      → read_reply (drop 2 frame) ≡ Err bad → now.faults Flow ≡ start.faults Flow → IsFaulty put start now (peer_fault bad)
  cut : (got : List ℕ) → Exchanges got put start now → IsPartial got → EndsAt now → now.faults Flow ≡ start.faults Flow
      → IsFaulty put start now (fault_at (length got) Ended)

-- why no reply was read
abbrev pub FailsToAsk : Asked → Port → Port → AskFault → Type 0
FailsToAsk asked start now Pipe = IsBroken (request_frame asked) start now
FailsToAsk asked start now (Peer fault) = IsFaulty (request_frame asked) start now fault

-- the request was sent, and a whole frame came
pub record IsPulled (asked : Asked) (held : Held) (start now : Port) : Type 0 where
  pub told : Exchanges held.bytes (request_frame asked) start now
  pub whole : IsFrame held.bytes
  pub place : held.place ≡ 0
  pub quiet : now.faults Flow ≡ start.faults Flow

abbrev pub Asks : Asked → Port → Port → Result Reply AskFault → Type 0
Asks asked start now (Ok reply) = IsReplied asked (replied_of reply) start now
Asks asked start now (Err fault) = FailsToAsk asked start now fault

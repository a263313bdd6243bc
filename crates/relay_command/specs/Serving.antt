-- A relay whose boxes were opened and that listens: it serves.
use Rattle.std.specs.Prelude.{◌≡◌, ◌⊎◌, ◌<◌, ◌≤◌, ℕ, List, [], ◌∷◌, ◌++◌, length}
use Rattle.dr_disk.specs.declared.call.Call.{Call}
use Rattle.dr_disk.specs.Spans.{IsQuiet, Span}
use Rattle.dr_disk.specs.State.{DiskState}
use Rattle.dr_ports.specs.Ports.{Rose}
use Rattle.dr_ports.specs.States.{SinkState}
use Rattle.dr_ports.specs.Wires.{Port}
use Rattle.dr_ports.specs.declared.pipe.Part.TheVariants.{Flow, Gate}
use Rattle.endings.specs.Ends.{Ends}
use Rattle.endings.specs.declared.ending.Ending.{Ending}
use Rattle.endings.specs.declared.ending.Ending.TheVariants.{DiskFault, Done, LinkFault}
use Rattle.relay_core.specs.Boxes.{Box}
use Rattle.relay_core.specs.Streams.{Exchange, reply_bytes, reply_frame, served}
use Rattle.relay_server.specs.Places.{IsSameBehind}
use Rattle.relay_server.specs.FrameByFrame.{IsServerAtRest}
use Rattle.relay_server.specs.Serving.{LastOrBefore}
use Rattle.relay_command.specs.Connections.{AreServed, Connection, HasRisen, IsBegun, ConnectionStanding, WereReached, behind_all, lines_behind, port_line}

-- what stands at entry
abbrev pub entry_standing : List Box → Port → ConnectionStanding
entry_standing boxes door = record { boxes = boxes; told = door.told; faults = door.faults Flow }

-- These connections came, in turn. Meanwhile each image was an earlier one of these, or stood for the boxes after a beginning of the
-- frames of one of them, and what lies after the boxes' areas is that of an image at the start.
pub record HaveCome (earlier : List ℕ → Type 0) (turns : List Connection → Type 0) (s : ConnectionStanding) (xs : List Connection)
    (start now : DiskState) (door : Port) : Type 0 where
  pub told : door.told ≡ (behind_all s xs).told
  pub faults : door.faults Flow ≡ (behind_all s xs).faults
  pub in_turn : turns xs
  pub during : Span start now (λ c. (earlier c ⊎ WereReached s xs c) × IsSameBehind (length s.boxes) start c)

-- and they were served, and then all is at rest
pub record WereServed (earlier : List ℕ → Type 0) (turns : List Connection → Type 0) (s : ConnectionStanding) (xs : List Connection)
    (start now : DiskState) (door : Port) : Type 0 where
  pub come : HaveCome earlier turns s xs start now door
  pub each : AreServed s xs
  pub rests : IsServerAtRest (behind_all s xs).boxes now
  pub quiet : IsQuiet start now

-- A call on the disk failed in a connection: less was sent than the replies to what came, by the last one, and each image
-- stands for the boxes after all that came, or for those before the last of it.
pub record IsConnectionStopped (s : ConnectionStanding) (x : Connection) (now : DiskState) : Type 0 where
  pub last : Exchange
  pub replies : reply_bytes (served s.boxes x.got) ≡ x.put ++ reply_frame last
  pub begun : IsBegun s x
  pub stands : LastOrBefore s.boxes (served s.boxes x.got).next x.got now
  pub later : s.faults ≤ x.faults

abbrev pub relay_lines : ℕ → ConnectionStanding → List Connection → List ℕ
relay_lines port s xs = port_line port ++ lines_behind 0 s xs

-- How it ends, with its lines. Where the lines were cut there may be fewer connections.
pub data ServesConnections (earlier : List ℕ → Type 0) (turns : List Connection → Type 0) (s : ConnectionStanding) (port count : ℕ)
    (start now : DiskState) (from door : Port) (code : ℕ)
    : Ending → List ℕ → Type 0 where
  -- the next connection couldn't be accepted
  was_unaccepted : (xs : List Connection) → WereServed earlier turns s xs start now door → length xs < count
      → HasRisen (from.faults Gate) (door.faults Gate)
      → ServesConnections earlier turns s port count start now from door code LinkFault (relay_lines port s xs)
  -- a call on the disk failed while the next connection was served
  was_stopped : (xs : List Connection) (x : Connection) (call : Call)
      → HaveCome earlier turns s (xs ++ x ∷ []) start now door → AreServed s xs
      → IsConnectionStopped (behind_all s xs) x now → length xs < count → Rose (start.faults call) (now.faults call)
      → door.faults Gate ≡ from.faults Gate
      → ServesConnections earlier turns s port count start now from door code DiskFault (relay_lines port s xs)
  -- all were served, with status 0
  went_on : (xs : List Connection) → WereServed earlier turns s xs start now door → length xs ≤ count → (code ≡ 0 → length xs ≡ count)
      → door.faults Gate ≡ from.faults Gate
      → ServesConnections earlier turns s port count start now from door code Done (relay_lines port s xs)

-- and what was written of them
pub record RelayRuns (turns : List Connection → Type 0) (s : ConnectionStanding) (port count : ℕ) (start now : DiskState) (from door : Port)
    (old new : SinkState) (code : ℕ) : Type 0 where
  pub ending : Ending
  pub lines : List ℕ
  pub came : ServesConnections (λ c. ⊥) turns s port count start now from door code ending lines
  pub ends : Ends ending lines old new code

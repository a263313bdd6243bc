-- The connections of a relay in turn, on a disk: between two of them all is at rest, so what a crash leaves never goes
-- back behind the latest connection.
use Rattle.std.specs.Prelude.{◌≡◌, List, [], ◌∷◌, ◌++◌, ℕ, option_map}
use Rattle.dr_disk.specs.Spans.{Span}
use Rattle.dr_disk.specs.State.{DiskState}
use Rattle.dr_ports.specs.Wires.{Port, next_of}
use Rattle.relay_server.specs.Serving.{Exchanges}
use Rattle.relay_server.specs.FrameByFrame.{IsServerAtRest, IsInOrder, IsMoment}
use Rattle.relay_command.specs.Connections.{Connection, ConnectionStanding, behind_all}

-- A connection was accepted at a door that told what stood before it, and served frame by frame,
-- from one disk on until another; its pipe gave and took what it is said to.
pub record WasServed {X Y : Type 0} (state : X → DiskState) (port_of : Y → Port) (s : ConnectionStanding)
    (start now : X) (x : Connection) : Type 0 where
  pub accepted : Y
  pub served : Y
  pub told : (port_of accepted).told ≡ option_map next_of s.told
  pub exchanges : Exchanges x.got x.put (port_of accepted) (port_of served)
  pub in_order : IsInOrder state port_of s.boxes x.got start now accepted served

-- These connections came in turn: before each the disk is at rest for the boxes that those before it left.
pub data CameInTurn {X Y : Type 0} (state : X → DiskState) (port_of : Y → Port) (s : ConnectionStanding) (start : X)
    : List Connection → X → Type 0 where
  none_came : CameInTurn state port_of s start [] start
  one_came : (xs : List Connection) (x : Connection) (disk next : X)
      → CameInTurn state port_of s start xs disk → IsServerAtRest (behind_all s xs).boxes (state disk)
      → WasServed state port_of (behind_all s xs) disk next x
      → CameInTurn state port_of s start (xs ++ x ∷ []) next
  -- nothing new could be left meanwhile
  left_alone : (xs : List Connection) (disk next : X) → CameInTurn state port_of s start xs disk
      → Span (state disk) (state next) (λ c. ⊥) → CameInTurn state port_of s start xs next

-- These bytes may have been left in the connection after these, at a moment at which the replies to these frames of it
-- were sent whole, and no other.
pub record WasLeftIn {X Y : Type 0} (state : X → DiskState) (port_of : Y → Port) (s : ConnectionStanding) (start : X)
    (xs : List Connection) (frames : List (List ℕ)) (c : List ℕ) : Type 0 where
  pub disk : X
  pub accepted : Y
  pub came : CameInTurn state port_of s start xs disk
  pub moment : IsMoment state port_of (behind_all s xs).boxes disk accepted frames c

-- Connections one after the other, whether they ended or a crash cut them, and the counters that
-- were answered as served over them.
use Rattle.std.specs.Prelude.{◌≡◌, ℕ, List, [], ◌∷◌, ◌++◌, Option, Some, None}
use Rattle.dr_disk.specs.State.{DiskState}
use Rattle.dr_ports.specs.Wires.{Port}
use Rattle.relay_core.specs.Boxes.{Box}
use Rattle.relay_core.specs.Counters.{counters}
use Rattle.relay_core.specs.Streams.{told}
use Rattle.relay_guard.specs.declared.guard.Role.{Role}
use Rattle.relay_server.specs.FrameByFrame.{AreAnswered, after_frames}
use Rattle.relay_server.specs.Reading.{StandsForBoxes}
use Rattle.relay_server.specs.Reopening.{specs_of_boxes}

-- one connection: the frames whose replies were sent whole, and one more, which the boxes answered
-- without that, if there is one
pub record Session : Type 0 where
  pub sent : List (List ℕ)
  pub unsent : Option (List ℕ)

abbrev pub frame_in : Option (List ℕ) → List (List ℕ)
frame_in None = []
frame_in (Some frame) = frame ∷ []

-- the boxes past it
abbrev pub boxes_past : List Box → Session → List Box
boxes_past boxes session = (after_frames boxes (session.sent ++ frame_in session.unsent)).next

abbrev pub boxes_past_all : List Box → List Session → List Box
boxes_past_all boxes [] = boxes
boxes_past_all boxes (session ∷ more) = boxes_past_all (boxes_past boxes session) more

-- the counters under the key of a role that were answered as served for the box of a name
abbrev pub counters_in : Role → List ℕ → List Box → Session → List ℕ
counters_in role name boxes session =
    counters role (told name (after_frames boxes session.sent).exchanges)

abbrev pub counters_over : Role → List ℕ → List Box → List Session → List ℕ
counters_over role name boxes [] = []
counters_over role name boxes (session ∷ more) =
    counters_in role name boxes session ++ counters_over role name (boxes_past boxes session) more

-- ---- what becomes of boxes

-- these boxes are past a connection on which the replies to these frames were sent whole
pub record ArePast (boxes next : List Box) (sent : List (List ℕ)) : Type 0 where
  pub unsent : Option (List ℕ)
  pub next_is : next ≡ boxes_past boxes (record { sent = sent; unsent = unsent })

-- Bytes that stand for such boxes, which were made by what these were made by: a server is opened
-- with them again.
pub record StandsForPast (boxes : List Box) (sent : List (List ℕ)) (c : List ℕ) : Type 0 where
  pub next : List Box
  pub past : ArePast boxes next sent
  pub stands : StandsForBoxes next c
  pub made : specs_of_boxes next ≡ specs_of_boxes boxes

-- a connection after which a server goes on with these boxes
pub record GoesOn {X Y : Type 0} (state : X → DiskState) (port : Y → Port) (boxes next : List Box)
    (start : X) (from : Y) : Type 0 where
  pub sent : List (List ℕ)
  pub behind : List Box
  pub disk : X
  pub pipe : Y
  pub answered : AreAnswered state port boxes start from sent behind disk pipe
  pub past : ArePast boxes next sent

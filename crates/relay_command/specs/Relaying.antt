-- The command as a whole: the names, the look at the areas, the door, and what follows.
use Rattle.std.specs.Prelude.{◌≡◌, ◌+◌, ℕ, List, [], length, Result, Ok, Err}
use Rattle.dr_ports.specs.Ports.{Rose}
use Rattle.dr_disk.specs.declared.call.Call.{Call}
use Rattle.dr_disk.specs.Spans.{Span}
use Rattle.dr_disk.specs.State.{DiskState}
use Rattle.dr_ports.specs.States.{SinkState}
use Rattle.dr_ports.specs.Wires.{Port}
use Rattle.endings.specs.Ends.{Ends}
use Rattle.endings.specs.declared.ending.Ending.{Ending}
use Rattle.endings.specs.declared.ending.Ending.TheVariants.{BadBox, BoxKeys as OtherKeys, BoxName as OtherName, DamagedArea, DiskFault, LinkFault, NoMemory}
use Rattle.relay_core.specs.Boxes.{Box}
use Rattle.relay_server.specs.Durable.{ServerNow}
use Rattle.relay_server.specs.Areas.{HasLooked}
use Rattle.relay_server.specs.Looking.{IsLooked}
use Rattle.relay_server.specs.Opening.{AreBoxesRead, IsOpening, IsServerUnopened}
use Rattle.relay_server.specs.declared.errors.ServerOpenError.{ServerOpenError}
use Rattle.relay_server.specs.declared.errors.ServerOpenError.TheVariants.{BoxKeys, BoxName, Damaged, Memory, StoreFault}
use Rattle.relay_server.specs.FrameByFrame.{IsServerAtRest}
use Rattle.relay_command.specs.Connections.{IsHeard, CouldNotListen, listening}
use Rattle.relay_command.specs.InTurn.{CameInTurn}
use Rattle.relay_command.specs.Names.{AreNames, IsFirstBad, specs_of}
use Rattle.relay_command.specs.Serving.{ServesConnections, entry_standing}

-- how it ends where the look is refused
abbrev pub ending_after_look : ServerOpenError → Ending
ending_after_look Memory = NoMemory
ending_after_look (StoreFault call) = DiskFault
ending_after_look (Damaged area slot at) = DamagedArea area slot at
ending_after_look (BoxName k) = OtherName (k + 1)
ending_after_look (BoxKeys k) = OtherKeys (k + 1)

-- A server has looked at its areas; or why it hasn't, and how it ends then.
abbrev pub Looks : List (List ℕ) → DiskState → DiskState → Result ServerNow Ending → Type 0
Looks words start now (Ok looked) =
    IsLooked (specs_of words) looked start now × HasLooked (length (specs_of words)) start now
Looks words start now (Err ending) =
    (error : ServerOpenError) × IsServerUnopened (specs_of words) start now error
    × HasLooked (length (specs_of words)) start now × (ending ≡ ending_after_look error)

-- How it ends, with its lines, on a disk and a door.
pub data Relays {X Y : Type 0} (state : X → DiskState) (port_of : Y → Port)
    (words : List (List ℕ)) (port count : ℕ) (start now : X) (from door : Y) (code : ℕ)
    : Ending → List ℕ → Type 0 where
  -- a word names no box, and nothing is touched
  had_bad_box : (k : ℕ) → IsFirstBad words k → now ≡ start → door ≡ from
      → Relays state port_of words port count start now from door code (BadBox k) []
  -- There is no memory, or an area was refused. The areas were only looked at, and the door is not
  -- touched.
  was_unopened : AreNames words → (error : ServerOpenError)
      → IsServerUnopened (specs_of words) (state start) (state now) error
      → HasLooked (length (specs_of words)) (state start) (state now) → door ≡ from
      → Relays state port_of words port count start now from door code (ending_after_look error) []
  -- it couldn't listen at the port, and the areas were only looked at
  was_unheard : AreNames words → (looked : ServerNow)
      → IsLooked (specs_of words) looked (state start) (state now)
      → HasLooked (length (specs_of words)) (state start) (state now)
      → CouldNotListen (port_of from) (port_of door)
      → Relays state port_of words port count start now from door code LinkFault []
  -- it listens, and a call on the disk failed while empty boxes were put
  was_unsettled : AreNames words → (boxes : List Box)
      → AreBoxesRead (specs_of words) boxes (state start)
      → Span (state start) (state now) (IsOpening (specs_of words) (state start))
      → (call : Call) → Rose ((state start).faults call) ((state now).faults call)
      → IsHeard port (port_of from) (port_of door)
      → Relays state port_of words port count start now from door code DiskFault []
  -- the boxes that were read are served, from the disk on that the opening left
  was_opened : AreNames words → (boxes : List Box)
      → AreBoxesRead (specs_of words) boxes (state start) → (opened : X)
      → Span (state start) (state opened) (IsOpening (specs_of words) (state start))
      → IsServerAtRest boxes (state opened) → (ending : Ending) (lines : List ℕ)
      → ServesConnections (IsOpening (specs_of words) (state start))
      (λ xs. CameInTurn state port_of (listening port (entry_standing boxes (port_of from))) opened
      xs now)
      (listening port (entry_standing boxes (port_of from))) port count (state start) (state now)
      (port_of from) (port_of door) code ending lines
      → Relays state port_of words port count start now from door code ending lines

-- and what was written of them
pub record RunsRelay {X Y : Type 0} (state : X → DiskState) (port_of : Y → Port)
    (words : List (List ℕ)) (port count : ℕ) (start now : X) (from door : Y)
    (old new : SinkState) (code : ℕ) : Type 0 where
  pub ending : Ending
  pub lines : List ℕ
  pub came : Relays state port_of words port count start now from door code ending lines
  pub ends : Ends ending lines old new code

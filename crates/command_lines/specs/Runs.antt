-- A command as a whole: how it ended, its lines, what was written of them, and how it counts the
-- calls that fail.
use Rattle.std.specs.Prelude.{List, Ok, Some, [], option_map, ℕ, ◌≡◌, ◌≤◌}
use Rattle.dr_base.specs.declared.position.Side.{Side}
use Rattle.dr_disk.specs.State.{DiskState}
use Rattle.dr_model.specs.Machines.WorldSides.{kept_in}
use Rattle.dr_model.specs.Machines.Worlds.{World}
use Rattle.dr_model.specs.Theorems.Fairness.{IsUnforged}
use Rattle.dr_model.specs.Theorems.LawfulWorlds.{IsLawfulWorld}
use Rattle.dr_ports.specs.States.{SinkState, SourceState}
use Rattle.endings.specs.Ends.{Ends}
use Rattle.endings.specs.declared.ending.Ending.{Ending}
use Rattle.endings.specs.declared.ending.Ending.TheVariants.{NotHex}
use Rattle.kem_laws.specs.Mechanism.{Mechanism}
use Rattle.session_model.specs.Clients.{Client}
use Rattle.session_record.specs.Record.{record_read}
use Rattle.client.specs.Cells.{Cell}
use Rattle.client.specs.Opening.{CellReadsAsSide}
use Rattle.client.specs.Receipts.{HaveArrived}
use Rattle.command_lines.specs.Asking.{asked_take}
use Rattle.command_lines.specs.InWorlds.{RunsActAt}
use Rattle.command_lines.specs.Inputs.{IsInput, IsNoInput, packet_in_hex}
use Rattle.command_lines.specs.Places.{Place}
use Rattle.command_lines.specs.declared.input.TheConstants.{PACKET_TEXT_LIMIT}

pub record Runs (comes : Ending → List ℕ → Type 0) (old new : SinkState) (code : ℕ) : Type 0 where
  pub ending : Ending
  pub lines : List ℕ
  pub came : comes ending lines
  pub ends : Ends ending lines old new code

-- A command that comes to this, and counts what failed: status 0 says that no write failed and no
-- other call, as `others` says, and the count of the writes doesn't fall.
pub record RunsAndCounts (comes : Ending → List ℕ → Type 0) (others : Type 0) (old new : SinkState)
    (code : ℕ) : Type 0 where
  pub runs : Runs comes old new code
  pub quiet : code ≡ 0 → others × (new.faults ≡ old.faults)
  pub later : old.faults ≤ new.faults

-- ---- taking

-- bytes that tell the truth of a side's texts: each that waits in the world, and doesn't for the
-- client whose record they have there, was opened by the other side
abbrev pub CellTellsTruly : Cell → Mechanism → World → Side → List ℕ → Type 0
CellTellsTruly cell k w side c = (after : Client)
    → option_map (record_read k) (cell.record_in c) ≡ Some (Ok after)
    → HaveArrived w side (kept_in k w side) after

-- In each world that the disk reads at entry, where the packet isn't forged: each own text that
-- waits there, and doesn't in what a read gives at exit, was opened by the other side.
abbrev pub CellEndsTruly : Cell → Mechanism → List ℕ → DiskState → DiskState → Type 0
CellEndsTruly cell k packet start now = (w : World) (side : Side) → IsLawfulWorld k w
    → CellReadsAsSide cell k w side start → IsUnforged k w side packet
    → (s : List ℕ) → now.seen ≡ Some s → CellTellsTruly cell k w side s

-- The source holds no packet, and the disk is left alone; or the session takes it.
pub data RunsTakeAt (place : Place) {X : Type 0} (state : X → DiskState) (k : Mechanism)
    (from to : SourceState) (start now : X) : Ending → List ℕ → Type 0 where
  had_no_packet : (ending : Ending)
      → IsNoInput PACKET_TEXT_LIMIT packet_in_hex NotHex from to ending → now ≡ start
      → RunsTakeAt place state k from to start now ending []
  had_packet : (packet : List ℕ) (ending : Ending) (lines : List ℕ)
      → IsInput PACKET_TEXT_LIMIT packet_in_hex from to packet
      → RunsActAt place state k (asked_take k packet) start now ending lines
      → CellEndsTruly place.cell k packet (state start) (state now)
      → RunsTakeAt place state k from to start now ending lines

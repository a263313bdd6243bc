-- What a client's disk holds, before a command and after it.
use Rattle.std.specs.Prelude.{List, ℕ}
use Rattle.dr_base.specs.declared.position.Side.{Side}
use Rattle.dr_disk.specs.State.{DiskState}
use Rattle.dr_model.specs.Machines.Worlds.{World}
use Rattle.kem_laws.specs.Mechanism.{Mechanism}
use Rattle.session_model.specs.Clients.{Client}
use Rattle.slot_store.specs.AtRest.{IsReadAtRest}
use Rattle.slot_store.specs.Store.{HasArea}
use Rattle.client.specs.Cells.{client_cell}
use Rattle.client.specs.Clients.{client_area}
use Rattle.client.specs.Opening.{IsReadNewest, IsUnopened}
use Rattle.client.specs.Syncing.InOrder.{IsAtRestFor}
use Rattle.client.specs.declared.refusals.OpenRefusal.{OpenRefusal}
use Rattle.command_lines.specs.Places.{HasRecordUnharmedInCell, IsReadOrEitherInCell, LeavesAsReadInCell, LeavesEitherInCell, LeavesPlaceAtRest, Place, ReadsAsKeptInCell, RunsOnInCell, StandsForOneInCell, StandsOpen, StaysSoundInCell}
use Rattle.session_commands.specs.Opening.{ending_of_open}

-- the disk has room for a client's area
abbrev pub HasClientRoom : DiskState → Type 0
HasClientRoom disk = HasArea client_area disk

-- each image is at rest for the record of what a client keeps
abbrev pub IsClientAtRest : Client → DiskState → Type 0
IsClientAtRest = IsAtRestFor

-- what a read gives is at rest, for a record in the newest version if it has one
abbrev pub IsClientReadAtRest : DiskState → Type 0
IsClientReadAtRest disk = IsReadAtRest client_area disk × IsReadNewest disk

-- where a client is alone on its disk
abbrev pub client_place : Mechanism → Place
client_place k = record {
  cell = client_cell;
  rests = IsAtRestFor;
  read_at_rest = IsClientReadAtRest;
  Refusal = OpenRefusal;
  ending = ending_of_open;
  refused = λ state start now refusal. IsUnopened state k start now refusal;
}

-- ---- what is said of a place, there

abbrev pub ReadsAsKept : Mechanism → DiskState → Client → Type 0
ReadsAsKept = ReadsAsKeptInCell client_cell

abbrev pub StaysSound : DiskState → List ℕ → Type 0
StaysSound = StaysSoundInCell client_cell

abbrev pub HasRecordUnharmed : Client → DiskState → List ℕ → Type 0
HasRecordUnharmed = HasRecordUnharmedInCell client_cell

abbrev pub IsReadOrEither : Mechanism → Client → Client → DiskState → List ℕ → Type 0
IsReadOrEither = IsReadOrEitherInCell client_cell

abbrev pub LeavesAsRead : Mechanism → DiskState → DiskState → Type 0
LeavesAsRead = LeavesAsReadInCell client_cell

abbrev pub LeavesEither : Mechanism → Client → Client → DiskState → DiskState → Type 0
LeavesEither = LeavesEitherInCell client_cell

abbrev pub LeavesAtRest : Mechanism → Client → Client → DiskState → DiskState → Type 0
LeavesAtRest k = LeavesPlaceAtRest (client_place k) k

abbrev pub ClientStandsOpen : Mechanism → Client → DiskState → DiskState → Type 0
ClientStandsOpen k = StandsOpen (client_place k) k

-- ---- in worlds

abbrev pub StandsForOne : Mechanism → Side → World → World → DiskState → List ℕ → Type 0
StandsForOne = StandsForOneInCell client_cell

abbrev pub RunsOn : Mechanism → Side → World → World → DiskState → DiskState → Type 0
RunsOn = RunsOnInCell client_cell

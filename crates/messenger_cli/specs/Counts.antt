-- How the ports of a run count the calls that fail.
use Rattle.std.specs.Prelude.{◌≡◌, ◌≤◌, ℕ}
use Rattle.dr_disk.specs.Spans.{IsQuiet}
use Rattle.dr_disk.specs.State.{DiskState}
use Rattle.dr_ports.specs.declared.pipe.Part.{Part}
use Rattle.dr_ports.specs.declared.pipe.Part.TheVariants.{Gate}
use Rattle.session_commands.specs.Disks.{HasClientRoom}
use Rattle.book_commands.specs.Opening.{HasBookRoom}
use Rattle.relay_command.specs.declared.relaying.TheConstants.{RELAY_DISK_SIZE}
use Rattle.messenger_cli.specs.Held.{PortTypes, PortsNow, Seen}

-- the disks have room for a session, for a relay's boxes, and for a book
pub record HaveRoom (disk relay_disk book : DiskState) : Type 0 where
  pub session : HasClientRoom disk
  pub boxes : RELAY_DISK_SIZE ≤ relay_disk.size
  pub rows : HasBookRoom book

-- no call on a disk, no read, no write, no draw and no call on the link failed, and no listening
-- or accepting of the door
pub record IsQuietRun {P : PortTypes} (seen : Seen P)
    (old new : PortsNow P) : Type 0 where
  pub disk : IsQuiet (seen.disk old.disk) (seen.disk new.disk)
  pub relay_disk : IsQuiet (seen.relay_disk old.relay_disk) (seen.relay_disk new.relay_disk)
  pub book : IsQuiet (seen.book old.book) (seen.book new.book)
  pub source : (seen.source new.source).faults ≡ (seen.source old.source).faults
  pub sink : (seen.sink new.sink).faults ≡ (seen.sink old.sink).faults
  pub draws : (seen.draws new.draws).faults ≡ (seen.draws old.draws).faults
  pub link : (part : Part) → (seen.link new.link).faults part ≡ (seen.link old.link).faults part
  pub door : (seen.door new.door).faults Gate ≡ (seen.door old.door).faults Gate

-- status 0 says that none failed; and no count of reads or of writes falls
pub record CountsFaults {P : PortTypes} (seen : Seen P)
    (old new : PortsNow P) (code : ℕ) : Type 0 where
  pub quiet : code ≡ 0 → IsQuietRun seen old new
  pub reads : (seen.source old.source).faults ≤ (seen.source new.source).faults
  pub writes : (seen.sink old.sink).faults ≤ (seen.sink new.sink).faults

-- a run that comes to this, and counts what failed
pub record IsRun {P : PortTypes}
    (comes : Seen P → PortsNow P → PortsNow P → ℕ → Type 0)
    (seen : Seen P) (old new : PortsNow P) (code : ℕ) : Type 0 where
  pub comes_to : comes seen old new code
  pub counts : CountsFaults seen old new code

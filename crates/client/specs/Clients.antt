-- A client on a disk.
use Rattle.std.specs.Prelude.{None, Option, Some, ◌≡◌}
use Rattle.dr_disk.specs.State.{Always, DiskState}
use Rattle.dr_disk.specs.declared.call.Call.{Call}
use Rattle.session_model.specs.Clients.{Client}
use Rattle.session_record.specs.Record.{record_text}
use Rattle.slot_store.specs.Store.{HasArea, Rests, SlotStore, content}
use Rattle.slot_store.specs.Areas.{Area}
use Rattle.client.specs.declared.client.TheConstants.{AREA_PAGES, AREA_UPPER, RECORD_PAGES}

-- where a client lies on its disk
abbrev pub client_area : Area
client_area = record { start = 0; upper = AREA_UPPER; pages = AREA_PAGES; most = RECORD_PAGES }

pub record ClientNow : Type 0 where
  -- what it keeps
  pub kept : Client
  pub store : SlotStore
  -- the call on the disk that closed it
  pub closed : Option Call

-- the disk is at rest for the record of what is kept
pub record IsReady (kept : Client) (store : SlotStore) (disk : DiskState) : Type 0 where
  pub area : store.area ≡ client_area
  pub within : HasArea client_area disk
  pub holds : content store ≡ Some (record_text kept)
  pub rests : Always (Rests store) disk

-- an open client, whose disk is at rest for what it keeps
abbrev pub IsOpenOn : ClientNow → DiskState → Type 0
IsOpenOn client disk = (client.closed ≡ None) × IsReady client.kept client.store disk

-- where a client is open, this disk is at rest for what it keeps
abbrev pub MayActOn : ClientNow → DiskState → Type 0
MayActOn client disk = client.closed ≡ None → IsReady client.kept client.store disk

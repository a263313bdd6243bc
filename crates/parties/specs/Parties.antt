-- One side: a client on a disk in memory whose calls all pass, which is open, or was closed by a call that failed.
use Rattle.std.specs.Prelude.{List, None, Ok, Option, Result, Some, option_map, ℕ, ⊤, ◌≡◌}
use Rattle.dr_disk.specs.MemoryDisks.{state_of}
use Rattle.dr_disk.specs.State.{DiskState, all_pass}
use Rattle.dr_disk.specs.declared.call.Call.{Call}
use Rattle.dr_disk.specs.declared.memory.MemoryDisk.{MemoryDisk}
use Rattle.session_model.specs.Clients.{Client}
use Rattle.kem_laws.specs.Mechanism.{Mechanism}
use Rattle.session_record.specs.Record.{record_read, record_text}
use Rattle.slot_store.specs.Records.{stored_record}
use Rattle.slot_store.specs.Store.{HasArea}
use Rattle.client.specs.Clients.{ClientNow, IsReady, client_area}
use Rattle.client.specs.Opening.{ReadsClient}
use Rattle.client.specs.declared.refusals.BeginRefusal.{BeginRefusal}
use Rattle.client.specs.declared.refusals.BeginRefusal.TheVariants.{Memory as FirstMemory, NoPair}
use Rattle.client.specs.declared.refusals.OpenRefusal.{OpenRefusal}
use Rattle.client.specs.declared.refusals.OpenRefusal.TheVariants.{Memory}
use Rattle.parties.specs.Shuts.{Shut}

-- the client whose record the bytes of a disk have; this one where they have none
abbrev pub read_or : Client → Option (Result Client ℕ) → Client
read_or kept (Some (Ok found)) = found
read_or kept _ = kept

unfoldable pub found_on : Mechanism → Client → MemoryDisk → Client
found_on k kept disk = read_or kept (option_map (record_read k) (stored_record client_area disk.platter.bytes.items))

-- what was left of a side, by the call that closed its client
abbrev pub shut_by : Mechanism → Client → MemoryDisk → Option Call → Option (Shut Client)
shut_by k kept disk None = None
shut_by k kept disk (Some call) = Some (record { call = call; left = found_on k kept disk })

-- an open client: its disk is at rest for what it keeps
pub record IsHeld (client : ClientNow) (disk : MemoryDisk) : Type 0 where
  pub is_open : client.closed ≡ None
  pub ready : IsReady client.kept client.store (state_of disk)
  pub passes : (state_of disk).fate ≡ all_pass

-- a closed one: what its disk's reads give has a client's record
pub record IsClosedParty (k : Mechanism) (disk : MemoryDisk) : Type 0 where
  pub within : HasArea client_area (state_of disk)
  pub reads : ReadsClient k (state_of disk)
  pub passes : (state_of disk).fate ≡ all_pass

abbrev pub IsParty : Mechanism → ClientNow → MemoryDisk → Option Call → Type 0
IsParty k client disk None = IsHeld client disk
IsParty k client disk (Some call) = IsClosedParty k disk

-- why no client is begun on a disk of zeros whose calls all pass
abbrev pub IsFirstRefusal : BeginRefusal → Type 0
IsFirstRefusal FirstMemory = ⊤
IsFirstRefusal NoPair = ⊤
IsFirstRefusal _ = ⊥

-- the bytes of a disk have the record of what a client keeps
abbrev pub DiskHasRecord : Client → DiskState → Type 0
DiskHasRecord kept disk = (s : List ℕ) → disk.seen ≡ Some s → stored_record client_area s ≡ Some (record_text kept)

-- what its reads give is read as what a client keeps
abbrev pub DiskReads : Mechanism → Client → DiskState → Type 0
DiskReads k kept disk =
    (s : List ℕ) → disk.seen ≡ Some s
    → option_map (record_read k) (stored_record client_area s) ≡ Some (Ok kept)

-- memory was wanting
abbrev pub IsWantOfMemory : OpenRefusal → Type 0
IsWantOfMemory Memory = ⊤
IsWantOfMemory _ = ⊥

-- What opening a client, or beginning one, does.
use Rattle.std.specs.Prelude.{Err, IfOk, List, None, Ok, Option, Result, Some, option_map, true, ℕ, ⊤, ◌+◌, ◌-◌, ◌<◌, ◌≡◌, ◌⊎◌}
use Rattle.dr_base.specs.Causes.{Rose}
use Rattle.dr_base.specs.declared.position.Side.{Side}
use Rattle.dr_disk.specs.Calls.{Unwritten}
use Rattle.dr_disk.specs.Spans.{HavePassed, IsQuiet, Span}
use Rattle.dr_disk.specs.State.{Always, DiskState, IsSettled}
use Rattle.dr_disk.specs.declared.call.Call.{Call}
use Rattle.dr_model.specs.Machines.Worlds.{World}
use Rattle.kem_laws.specs.Mechanism.{Mechanism}
use Rattle.session_model.specs.Clients.{Client}
use Rattle.session_record.specs.Lawful.{IsLawfulClient}
use Rattle.session_record.specs.Record.{record_read, record_text}
use Rattle.session_record.specs.Versions.{is_newest}
use Rattle.slot_store.specs.Reading.{AreaReading, damaged, no_content, area_reading}
use Rattle.slot_store.specs.Records.{stored_record}
use Rattle.slot_store.specs.Stops.{call_after, calls_of}
use Rattle.slot_store.specs.Store.{Rests, SlotStore, content}
use Rattle.slot_store.specs.declared.errors.OpenError.{OpenError}
use Rattle.slot_store.specs.declared.errors.OpenError.TheVariants.{Damaged as StoreDamaged, Memory as StoreMemory, StoreFault as DiskFault}
use Rattle.client.specs.Cells.{Cell, IsStoppedInCell, client_cell}
use Rattle.client.specs.Clients.{ClientNow, IsReady, client_area}
use Rattle.client.specs.InWorlds.{CellStandsFor, IsIn, StandsFor}
use Rattle.client.specs.declared.refusals.OpenRefusal.{OpenRefusal}
use Rattle.client.specs.declared.refusals.OpenRefusal.TheVariants.{Damaged, Memory, NoSession, StoreFault}

-- the place of the first fault of a text that is no record
abbrev pub fault_of : Result Client ℕ → Option ℕ
fault_of (Ok client) = None
fault_of (Err at) = Some at

abbrev pub client_record_fault : Mechanism → List ℕ → Option ℕ
client_record_fault k text = fault_of (record_read k text)

-- what a read gives is read as this
abbrev pub IsReadAs : Mechanism → DiskState → AreaReading → Type 0
IsReadAs k disk verdict = (s : List ℕ) → disk.seen ≡ Some s → area_reading (client_record_fault k) client_area s ≡ verdict

-- why a store's opening refuses a client
abbrev pub open_refusal : OpenError → OpenRefusal
open_refusal StoreMemory = Memory
open_refusal (DiskFault call) = StoreFault call
open_refusal (StoreDamaged slot at) = Damaged slot at

-- ---- records in the newest version

-- a record, or none, that is this one or the same client's in the newest version
abbrev pub IsSameOrNewest : Mechanism → Option (List ℕ) → Option (List ℕ) → Type 0
IsSameOrNewest k was now = (now ≡ was)
    ⊎ ((kept : Client) × (option_map (record_read k) was ≡ Some (Ok kept)) × IsLawfulClient k kept × (now ≡ Some (record_text kept)))

-- Bytes with the record that was read, or with the same client's in the newest version, and read without damage where those
-- were. Outside the place they are the same.
pub record IsAsReadInCell (cell : Cell) (k : Mechanism) (start : DiskState) (c : List ℕ)
    : Type 0 where
  pub read : List ℕ
  pub told : start.seen ≡ Some read
  pub same : IsSameOrNewest k (cell.record_in read) (cell.record_in c)
  pub undamaged : cell.undamaged read → cell.undamaged c
  pub outside : cell.outside read c

-- an image of that moment, or one as what was read then
abbrev pub IsEntryOrAsReadInCell : Cell → Mechanism → DiskState → List ℕ → Type 0
IsEntryOrAsReadInCell cell k start c = start.image c ⊎ IsAsReadInCell cell k start c

-- where what a read gives has a record, it is in the newest version
abbrev pub IsReadNewestInCell : Cell → DiskState → Type 0
IsReadNewestInCell cell disk =
    (s text : List ℕ) → disk.seen ≡ Some s → cell.record_in s ≡ Some text → is_newest text ≡ true

-- what a read gives has a client's record, in whatever version, and is read without damage
pub record ReadsClientInCell (cell : Cell) (k : Mechanism) (disk : DiskState) : Type 0 where
  pub kept : Client
  pub bytes : List ℕ
  pub told : disk.seen ≡ Some bytes
  pub has : option_map (record_read k) (cell.record_in bytes) ≡ Some (Ok kept)
  pub undamaged : cell.undamaged bytes

-- what a read gives stands for a side of a world
pub record CellReadsAsSide (cell : Cell) (k : Mechanism) (w : World) (side : Side)
    (disk : DiskState) : Type 0 where
  pub bytes : List ℕ
  pub told : disk.seen ≡ Some bytes
  pub stands : CellStandsFor cell k w side bytes

-- while a place is opened in the world that a read stands for, and in each ending, a crash leaves
-- what one might have left at
-- entry, or what stands for it, and a read gives what does
pub record StandsInOpening (cell : Cell) (k : Mechanism) (w : World) (side : Side)
    (start now : DiskState) : Type 0 where
  pub any_moment : Span start now (λ c. start.image c ⊎ CellStandsFor cell k w side c)
  pub reads : (s : List ℕ) → now.seen ≡ Some s → CellStandsFor cell k w side s

-- ---- where a client lies

abbrev pub IsAsRead : Mechanism → DiskState → List ℕ → Type 0
IsAsRead = IsAsReadInCell client_cell

abbrev pub IsEntryOrAsRead : Mechanism → DiskState → List ℕ → Type 0
IsEntryOrAsRead = IsEntryOrAsReadInCell client_cell

abbrev pub IsReadNewest : DiskState → Type 0
IsReadNewest = IsReadNewestInCell client_cell

abbrev pub ReadsClient : Mechanism → DiskState → Type 0
ReadsClient = ReadsClientInCell client_cell

abbrev pub ReadsAsSide : Mechanism → World → Side → DiskState → Type 0
ReadsAsSide = CellReadsAsSide client_cell

-- ---- how an opening ends

-- A client that was opened keeps what was read. Each image is as what was read, and at rest for the record in the newest version.
pub record IsClientOpened (k : Mechanism) (client : ClientNow) (start now : DiskState) : Type 0 where
  pub is_open : client.closed ≡ None
  pub ready : IsReady client.kept client.store now
  pub read : (s : List ℕ) → start.seen ≡ Some s
      → option_map (record_read k) (stored_record client_area s) ≡ Some (Ok client.kept)
  pub alike : Always (IsAsRead k start) now
  pub settled : IsSettled now
  pub quiet : IsQuiet start now

-- at rest for the record that was read
pub record RestsAsOpened (start now : DiskState) : Type 0 where
  pub store : SlotStore
  pub area : store.area ≡ client_area
  pub rests : Always (Rests store) now
  pub read : (s : List ℕ) → start.seen ≡ Some s → stored_record client_area s ≡ content store

-- why no client was opened
abbrev pub IsUnopened : {X : Type 0} → (X → DiskState) → Mechanism → X → X → OpenRefusal → Type 0
IsUnopened state k start now Memory = now ≡ start
IsUnopened state k start now (StoreFault call) = Rose ((state start).faults call) ((state now).faults call)
IsUnopened state k start now (Damaged slot at) =
    IsReadAs k (state start) (damaged slot at) × IsQuiet (state start) (state now) × Unwritten (state start) (state now)
IsUnopened state k start now NoSession = IsReadAs k (state start) no_content × IsQuiet (state start) (state now)

-- a refusal that says nothing of what was read: memory was wanting, or a call on the disk failed
abbrev pub SaysNothing : OpenRefusal → Type 0
SaysNothing Memory = ⊤
SaysNothing (StoreFault call) = ⊤
SaysNothing _ = ⊥

-- one sync is all that was called besides reads, but where memory was wanting or a call failed
abbrev pub HasOneSync : DiskState → DiskState → Result ClientNow OpenRefusal → Type 0
HasOneSync start now (Err Memory) = ⊤
HasOneSync start now (Err (StoreFault call)) = ⊤
HasOneSync start now _ = HavePassed 1 start now

-- what an opening does where the client's area was read at rest for a record in the newest version: no byte is written
pub record IsLeftAtRest (start now : DiskState) (result : Result ClientNow OpenRefusal) : Type 0 where
  pub unwritten : Unwritten start now
  pub one_sync : HasOneSync start now result

-- ---- a record in an earlier version

-- The same client's record in the newest version was to replace this one, and a call failed, of
-- this kind: by how many writes and syncs passed, which of the two each crash leaves, and a read
-- gives. The call that failed is the one that came next.
pub record IsMigrationStopped (text : List ℕ) (kept : Client) (call : Call) (start now : DiskState) : Type 0 where
  pub stopped : IsStoppedInCell client_cell (Some text) (Some (record_text kept)) start now
  pub few : (l m : ℕ) → start.passed ≡ Some l → now.passed ≡ Some m
      → m < l + calls_of (Some text) (Some (record_text kept))
  pub kind : (l m : ℕ) → start.passed ≡ Some l → now.passed ≡ Some m
      → call ≡ call_after (Some text) (Some (record_text kept)) (m - l)

-- it replaced it, by just the writes and syncs that this takes
abbrev pub IsMigrated : List ℕ → Client → DiskState → DiskState → Result Unit Call → Type 0
IsMigrated text kept start now (Ok u) =
    HavePassed (calls_of (Some text) (Some (record_text kept))) start now
IsMigrated text kept start now (Err call) = IsMigrationStopped text kept call start now

-- What an opening does where the client's area was read at rest for this record, which is in an
-- earlier version: one sync, and what replaces it. Where a call fails, no byte was written, or it
-- is known which of the two stands.
abbrev pub OpensMigrating : {X : Type 0} → (X → DiskState) → Mechanism → List ℕ → X → X
    → Result ClientNow OpenRefusal → Type 0
OpensMigrating state k text start now (Ok client) =
    HavePassed (1 + calls_of (Some text) (Some (record_text client.kept))) (state start) (state now)
OpensMigrating {X = X} state k text start now (Err (StoreFault call)) =
    Unwritten (state start) (state now)
    ⊎ ((mid : X) × (kept : Client) × (record_read k text ≡ Ok kept)
    × HavePassed 1 (state start) (state mid) × IsMigrationStopped text kept call (state mid) (state now))
OpensMigrating state k text start now (Err _) = ⊤

-- ---- in worlds

-- Opening a client in the world that a read stands for: the client keeps a side of it, and each image stands for it.
-- Meanwhile, and in each ending, a crash leaves what one might have left at entry, or what stands for it, and a read gives
-- what does.
pub record OpensIn (k : Mechanism) (w : World) (side : Side) (start now : DiskState) (result : Result ClientNow OpenRefusal)
    : Type 0 where
  pub client : IfOk result (λ client. IsIn k w side client × Always (StandsFor k w side) now)
  pub any_moment : Span start now (λ c. start.image c ⊎ StandsFor k w side c)
  pub reads : (s : List ℕ) → now.seen ≡ Some s → StandsFor k w side s

-- What beginning a client does.
use Rattle.std.specs.Prelude.{IsNone, IsSome, List, None, Some, [], ℕ, ◌≡◌, ◌⊎◌}
use Rattle.bodies.specs.declared.format.Format.{Format}
use Rattle.dr_base.specs.Causes.{Rose}
use Rattle.dr_base.specs.declared.key.Key32.{Key32}
use Rattle.dr_base.specs.declared.position.Side.{Side}
use Rattle.dr_disk.specs.Calls.{Unwritten}
use Rattle.dr_disk.specs.Spans.{IsQuiet}
use Rattle.dr_disk.specs.State.{DiskState}
use Rattle.kem_laws.specs.Mechanism.{Mechanism}
use Rattle.session_model.specs.BoxKeys.{relay_keys_of}
use Rattle.session_model.specs.Clients.{Client}
use Rattle.session_model.specs.Schedule.{agreement_seed}
use Rattle.session_model.specs.States.{opening_state}
use Rattle.session_record.specs.Record.{client_of, record_text}
use Rattle.slot_store.specs.Reading.{IsEntryOrLike, IsUndamaged, damaged, holds, no_content, area_reading}
use Rattle.slot_store.specs.Records.{stored_record}
use Rattle.slot_store.specs.Store.{KeepsOutsideArea}
use Rattle.slot_store.specs.declared.errors.OpenError.{OpenError}
use Rattle.slot_store.specs.declared.errors.OpenError.TheVariants.{Damaged as StoreDamaged, Memory as StoreMemory, StoreFault as DiskFault}
use Rattle.client.specs.Clients.{ClientNow, IsReady, client_area}
use Rattle.client.specs.Opening.{IsReadAs, RestsAsOpened, client_record_fault}
use Rattle.client.specs.declared.begin.Begin.{Begin}
use Rattle.client.specs.declared.refusals.BeginRefusal.{BeginRefusal}
use Rattle.client.specs.declared.refusals.BeginRefusal.TheVariants.{Damaged, Exists, Memory, NoPair, StoreFault}

-- what a side begins with, of these
abbrev pub begin_of : Side → Format → Key32 → Begin
begin_of side format key = record { side = side; format = format; key = key }

-- the agreement seed of its key has a pair
abbrev pub HasPair : Mechanism → Begin → Type 0
HasPair k begin = IsSome (k.meaning.pair_of (agreement_seed begin.key.bytes))

-- a side at the beginning of a conversation, with the keys of its boxes at a relay
abbrev pub begun_client : Mechanism → Begin → Client
begun_client k begin =
    client_of (opening_state k begin.key.bytes begin.side begin.format) [] [] (Some (relay_keys_of begin.key.bytes))

-- bytes with the first record of a client, read without damage, which is put only where what was read held none and the key has a
-- pair; outside the client's area they are as they were
pub record IsFirst (k : Mechanism) (begin : Begin) (start : DiskState) (c : List ℕ) : Type 0 where
  pub none : IsReadAs k start no_content
  pub pair : HasPair k begin
  pub holds : stored_record client_area c ≡ Some (record_text (begun_client k begin))
  pub undamaged : IsUndamaged client_area c
  pub outside : KeepsOutsideArea client_area start c

-- what a crash may leave while a client is begun: what one might have left at entry, or what is like what was read, or,
-- where that held no record, the first one
abbrev pub IsEntryOrFirst : Mechanism → Begin → DiskState → List ℕ → Type 0
IsEntryOrFirst k begin start c = IsEntryOrLike client_area start c ⊎ IsFirst k begin start c

-- why a store's opening refuses a client that is begun
abbrev pub begin_refusal : OpenError → BeginRefusal
begin_refusal StoreMemory = Memory
begin_refusal (DiskFault call) = StoreFault call
begin_refusal (StoreDamaged slot at) = Damaged slot at

-- A client that was begun, where no table was open.
pub record IsClientBegun (k : Mechanism) (begin : Begin) (client : ClientNow)
    (start now : DiskState) : Type 0 where
  pub is_open : client.closed ≡ None
  pub keeps : client.kept ≡ begun_client k begin
  pub ready : IsReady client.kept client.store now
  pub read : IsReadAs k start no_content
  pub pair : HasPair k begin
  pub quiet : IsQuiet start now

-- what a read gives is a record
abbrev pub HoldsRecord : Mechanism → DiskState → Type 0
HoldsRecord k disk = (s : List ℕ) → disk.seen ≡ Some s → (text : List ℕ) × (area_reading (client_record_fault k) client_area s ≡ holds text)

-- why no client was begun
abbrev pub IsUnbegun : {X : Type 0} → (X → DiskState) → Mechanism → Begin → X → X
    → BeginRefusal → Type 0
IsUnbegun state k begin start now Memory = now ≡ start
IsUnbegun state k begin start now (StoreFault call) =
    Rose ((state start).faults call) ((state now).faults call)
IsUnbegun state k begin start now (Damaged slot at) =
    IsReadAs k (state start) (damaged slot at) × IsQuiet (state start) (state now)
    × Unwritten (state start) (state now)
IsUnbegun state k begin start now Exists =
    HoldsRecord k (state start) × IsQuiet (state start) (state now) × RestsAsOpened (state start) (state now)
IsUnbegun state k begin start now NoPair =
    IsReadAs k (state start) no_content
    × IsNone (k.meaning.pair_of (agreement_seed begin.key.bytes))
    × IsQuiet (state start) (state now)

-- The boxes are loaded, and each area without a record gets an empty box's.
use Rattle.std.specs.Prelude.{◌≡◌, ◌≢◌, ℕ, ◌<◌, ◌≤◌, List, length, slice_get, Option, Some, None, Result, OnOk}
use Rattle.dr_disk.specs.declared.call.Call.{Call}
use Rattle.dr_disk.specs.Spans.{IsQuiet, Span}
use Rattle.dr_disk.specs.State.{DiskState, Always}
use Rattle.slot_store.specs.Records.{stored_record}
use Rattle.slot_store.specs.Store.{Rests, SlotStore, content}
use Rattle.relay_core.specs.Boxes.{Box, empty_box, spec_of}
use Rattle.relay_core.specs.Loading.{Fits}
use Rattle.relay_core.specs.Record.{IsRecordOf}
use Rattle.relay_core.specs.declared.limits.TheConstants.{RELAY_LIMIT}
use Rattle.relay_core.specs.declared.loading.Loaded.{Loaded}
use Rattle.relay_core.specs.declared.loading.Loaded.TheVariants.{OtherKeys, OtherName, Taken}
use Rattle.relay_server.specs.Durable.{FailsByCall}
use Rattle.relay_server.specs.Places.{area_of, HasRoomForAreas, SameBehind}
use Rattle.relay_server.specs.Opening.{StaysOrBegins}
use Rattle.relay_server.specs.Reading.{AreNoWorse}
use Rattle.relay_server.specs.declared.errors.ServerOpenError.{ServerOpenError}
use Rattle.relay_server.specs.declared.errors.ServerOpenError.TheVariants.{BoxKeys, BoxName, Damaged, Memory, StoreFault}

-- a box is the one of its store's record, with the name and the keys that it had; without a record
-- it is as it was
abbrev pub IsBoxKept : Box → Box → Option (List ℕ) → Type 0
IsBoxKept was box None = box ≡ was
IsBoxKept was box (Some text) = IsRecordOf box text × (spec_of box ≡ spec_of was)

-- the first n boxes were loaded
pub record AreLoaded (n : ℕ) (old boxes : List Box) (stores : List SlotStore) : Type 0 where
  pub count : length boxes ≡ length old
  pub loaded : (k : ℕ) (was box : Box) (store : SlotStore) → k < n → slice_get old k ≡ Some was
      → slice_get boxes k ≡ Some box → slice_get stores k ≡ Some store
      → IsBoxKept was box (content store)
  pub others : (k : ℕ) → n ≤ k → slice_get boxes k ≡ slice_get old k

-- a store's record is that of a box that differs so
abbrev pub IsOthers : Loaded → Box → Option (List ℕ) → Type 0
IsOthers how was None = ⊥
IsOthers how was (Some text) = (box : Box) × IsRecordOf box text × Fits how (spec_of was) box

-- the first store with the record of another box
pub record IsFirstOthers (how : Loaded) (k : ℕ) (old : List Box) (stores : List SlotStore)
    : Type 0 where
  pub inside : k < length old
  pub before : (j : ℕ) (was : Box) (store : SlotStore) → j < k → slice_get old j ≡ Some was
      → slice_get stores j ≡ Some store → (box : Box) × IsBoxKept was box (content store)
  pub here : (was : Box) (store : SlotStore) → slice_get old k ≡ Some was
      → slice_get stores k ≡ Some store → IsOthers how was (content store)

-- why they aren't loaded
abbrev pub AreUnloaded : List Box → List SlotStore → ServerOpenError → Type 0
AreUnloaded old stores (BoxName k) = IsFirstOthers OtherName k old stores
AreUnloaded old stores (BoxKeys k) = IsFirstOthers OtherKeys k old stores
AreUnloaded old stores Memory = ⊥
AreUnloaded old stores (StoreFault call) = ⊥
AreUnloaded old stores (Damaged area slot at) = ⊥

-- what became of the box at a place, by its store's record
abbrev pub IsLoadedAt : ℕ → List Box → List Box → Option (List ℕ) → Type 0
IsLoadedAt k old new text =
    (length new ≡ length old) × ((j : ℕ) → j ≢ k → slice_get new j ≡ slice_get old j)
    × ((was box : Box) → slice_get old k ≡ Some was → slice_get new k ≡ Some box → IsBoxKept was box text)

-- ---- empty boxes

-- a store has a record of its box; from the n-th on it may have none, and its box is empty then
abbrev pub HasBox : ℕ → ℕ → Box → Option (List ℕ) → Type 0
HasBox n k box None = (n ≤ k) × (box ≡ empty_box (spec_of box))
HasBox n k box (Some text) = IsRecordOf box text

pub record AreFilled (n : ℕ) (boxes : List Box) (stores : List SlotStore) (disk : DiskState) : Type 0 where
  pub few : length boxes ≤ RELAY_LIMIT
  pub count : length stores ≡ length boxes
  pub within : HasRoomForAreas (length boxes) disk
  pub areas : (k : ℕ) (store : SlotStore) → slice_get stores k ≡ Some store → store.area ≡ area_of k
  pub rests : (k : ℕ) (store : SlotStore) → slice_get stores k ≡ Some store → Always (Rests store) disk
  pub each : (k : ℕ) (store : SlotStore) (box : Box) → slice_get stores k ≡ Some store
      → slice_get boxes k ≡ Some box → HasBox n k box (content store)

pub record IsFilling (boxes : List Box) (start : DiskState) (c : List ℕ) : Type 0 where
  pub entry : List ℕ
  pub image : start.image entry
  pub each : (k : ℕ) (box : Box) → slice_get boxes k ≡ Some box
      → StaysOrBegins (spec_of box) (stored_record (area_of k) entry) (stored_record (area_of k) c)
  pub undamaged : AreNoWorse (length boxes) entry c
  pub outside : SameBehind (length boxes) entry c

-- ---- what a call left

-- It says whether the box at a place was loaded from its store's record, and else how that differs.
abbrev pub LoadsSo : Loaded → ℕ → List Box → List Box → Option (List ℕ) → Type 0
LoadsSo Taken place old new text = IsLoadedAt place old new text
LoadsSo how place old new text =
    (was : Box) → slice_get old place ≡ Some was → IsOthers how was text

pub record LoadsAt (place : ℕ) (old new : List Box) (text : Option (List ℕ)) (result : Loaded)
    : Type 0 where
  pub so : LoadsSo result place old new text
  pub count : length new ≡ length old

-- The first n boxes have their records, and empty boxes' were put meanwhile. An error is a call that
-- failed; without one no call failed.
pub record Fills {T : Type 0} (n : ℕ) (boxes : List Box) (stores : List SlotStore)
    (start now : DiskState) (result : Result T Call) : Type 0 where
  pub filled : OnOk result (AreFilled n boxes stores now)
  pub any_moment : Span start now (IsFilling boxes start)
  pub fault : FailsByCall start now result
  pub quiet : OnOk result (IsQuiet start now)

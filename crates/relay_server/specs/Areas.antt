-- The areas of a relay, opened one after the other.
use Rattle.std.specs.Prelude.{◌≡◌, ℕ, ◌<◌, List, length, slice_get, Option, Some, None}
use Rattle.dr_base.specs.Causes.{Rose}
use Rattle.dr_disk.specs.Spans.{IsQuiet, Span}
use Rattle.dr_disk.specs.State.{DiskState, Always}
use Rattle.slot_store.specs.Reading.{IsLikeRead, AreaReading, damaged, holds, no_content}
use Rattle.slot_store.specs.Records.{stored_record}
use Rattle.slot_store.specs.Store.{Rests, SlotStore, content}
use Rattle.dr_disk.specs.Calls.{Unwritten}
use Rattle.slot_store.specs.AtRest.{IsReadAtRest}
use Rattle.relay_server.specs.Places.{area_of, SameBehind, UnwrittenBehind}
use Rattle.relay_server.specs.Reading.{AreNoWorse, area_read, box_fault}
use Rattle.relay_server.specs.Opening.{IsFirstDamaged, OfRead}
use Rattle.relay_server.specs.declared.errors.ServerOpenError.{ServerOpenError}
use Rattle.relay_server.specs.declared.errors.ServerOpenError.TheVariants.{BoxKeys, BoxName, Damaged, Memory, StoreFault}

-- what a store was read as
abbrev pub store_reading : Option (List ℕ) → AreaReading
store_reading None = no_content
store_reading (Some text) = holds text

-- one area was opened
pub record IsAreaOpened (k : ℕ) (store : SlotStore) (start now : DiskState) : Type 0 where
  pub area : store.area ≡ area_of k
  pub clean : (text : List ℕ) → content store ≡ Some text → box_fault text ≡ None
  pub read : (s : List ℕ) → start.seen ≡ Some s → area_read k s ≡ store_reading (content store)
  pub rests : Always (Rests store) now
  pub alike : Always (IsLikeRead (area_of k) start) now
  pub quiet : IsQuiet start now

-- why one wasn't
abbrev pub IsAreaRefused : ℕ → DiskState → DiskState → ServerOpenError → Type 0
IsAreaRefused k start now Memory = IsQuiet start now
IsAreaRefused k start now (StoreFault call) = Rose (start.faults call) (now.faults call)
IsAreaRefused k start now (Damaged area slot at) =
    (area ≡ k) × IsQuiet start now × ((s : List ℕ) → start.seen ≡ Some s → area_read k s ≡ damaged slot at)
    × Unwritten start now
IsAreaRefused k start now (BoxName j) = ⊥
IsAreaRefused k start now (BoxKeys j) = ⊥

-- Each of this many areas has the record that one image of that moment has there, and is read without
-- damage where that is. What lies in none of them is the same.
pub record IsLikeEntry (count : ℕ) (start : DiskState) (c : List ℕ) : Type 0 where
  pub entry : List ℕ
  pub image : start.image entry
  pub same : (k : ℕ) → k < count → stored_record (area_of k) c ≡ stored_record (area_of k) entry
  pub undamaged : AreNoWorse count entry c
  pub outside : SameBehind count entry c

-- what a read gives has each of this many areas at rest
abbrev pub AreAtRest : ℕ → DiskState → Type 0
AreAtRest count disk = (k : ℕ) → k < count → IsReadAtRest (area_of k) disk

-- This many areas were looked at: nothing was begun, and where they were read at rest no byte was
-- written.
pub record HasLooked (count : ℕ) (start now : DiskState) : Type 0 where
  pub during : Span start now (IsLikeEntry count start)
  pub still : AreAtRest count start → Unwritten start now

-- the first n of this many areas were opened
pub record AreOpened (n count : ℕ) (stores : List SlotStore) (start now : DiskState) : Type 0 where
  pub count_is : length stores ≡ n
  pub looked : HasLooked count start now
  pub quiet : IsQuiet start now
  pub areas : (k : ℕ) (store : SlotStore) → slice_get stores k ≡ Some store → store.area ≡ area_of k
  pub clean : (k : ℕ) (store : SlotStore) (text : List ℕ) → slice_get stores k ≡ Some store → content store ≡ Some text → box_fault text ≡ None
  pub rests : (k : ℕ) (store : SlotStore) → slice_get stores k ≡ Some store → Always (Rests store) now
  pub read : OfRead start (λ s. (k : ℕ) (store : SlotStore) → slice_get stores k ≡ Some store → area_read k s ≡ store_reading (content store))
  pub untouched : UnwrittenBehind n start now

-- Why they weren't. Nothing was written to a damaged area, nor to those after it.
abbrev pub AreRefused : ℕ → DiskState → DiskState → ServerOpenError → Type 0
AreRefused count start now Memory = IsQuiet start now
AreRefused count start now (StoreFault call) = Rose (start.faults call) (now.faults call)
AreRefused count start now (Damaged area slot at) = (area < count) × IsQuiet start now × OfRead start (IsFirstDamaged count area slot at)
    × UnwrittenBehind area start now
AreRefused count start now (BoxName k) = ⊥
AreRefused count start now (BoxKeys k) = ⊥

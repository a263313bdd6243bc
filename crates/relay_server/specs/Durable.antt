-- A relay on a disk: its boxes, each a record in an area of its own.
use Rattle.std.specs.Prelude.{◌≡◌, ◌⊎◌, ℕ, ◌<◌, ◌≤◌, Bool, true, List, length, slice_get, Option, Some, None, Result, IfErr, OnOk}
use Rattle.dr_base.specs.Causes.{Rose}
use Rattle.dr_disk.specs.declared.call.Call.{Call}
use Rattle.dr_disk.specs.State.{DiskState, Always}
use Rattle.dr_disk.specs.Called.{Called, itself}
use Rattle.dr_disk.specs.Calls.{Unwritten}
use Rattle.dr_disk.specs.Spans.{HavePassed, IsQuiet, Span}
use Rattle.slot_store.specs.Store.{IsOldOrNew, HasArea, KeepsOutsideArea, Rests, SlotStore, content}
use Rattle.slot_store.specs.Stops.{calls_of}
use Rattle.relay_core.specs.Boxes.{Box}
use Rattle.relay_core.specs.Record.{box_text}
use Rattle.relay_core.specs.declared.limits.TheConstants.{RELAY_LIMIT}
use Rattle.relay_server.specs.Places.{IsSameBehind, area_of}
use Rattle.relay_server.specs.Reading.{HasRecordOf, StandsForBoxes}

-- a server: its boxes, and a store for each
pub record ServerNow : Type 0 where
  pub boxes : List Box
  pub stores : List SlotStore

-- Each image is at rest for the boxes.
pub record IsServerReady (server : ServerNow) (disk : DiskState) : Type 0 where
  pub few : length server.boxes ≤ RELAY_LIMIT
  pub count : length server.stores ≡ length server.boxes
  pub within : (k : ℕ) → k < length server.boxes → HasArea (area_of k) disk
  pub areas : (k : ℕ) (store : SlotStore) → slice_get server.stores k ≡ Some store → store.area ≡ area_of k
  pub holds : (k : ℕ) (store : SlotStore) (box : Box) → slice_get server.stores k ≡ Some store → slice_get server.boxes k ≡ Some box → HasRecordOf box (content store)
  pub rests : (k : ℕ) (store : SlotStore) → slice_get server.stores k ≡ Some store → Always (Rests store) disk

-- bytes that stand for the boxes from before a request or from after it
abbrev pub StandsForEitherBoxes : List Box → List Box → List ℕ → Type 0
StandsForEitherBoxes before after c = StandsForBoxes before c ⊎ StandsForBoxes after c

-- an error is a call that failed
abbrev pub FailsByCall : {T : Type 0} → DiskState → DiskState → Result T Call → Type 0
FailsByCall start now result = IfErr result (λ call. Rose (start.faults call) (now.faults call))

-- What an answer left on the disk: meanwhile and then each image stands for the boxes from before
-- it or from after it. An error is a call that failed. Without one no call failed, and each image
-- is at rest for the boxes from after it.
pub record LeavesBoxes {T : Type 0} (old new : ServerNow)
    (start now : DiskState) (result : Result T Call) : Type 0 where
  pub any_moment : Span start now (λ c. StandsForEitherBoxes old.boxes new.boxes c
      × IsSameBehind (length old.boxes) start c)
  pub at_return : Always (StandsForEitherBoxes old.boxes new.boxes) now
  pub ready : OnOk result (IsServerReady new now)
  pub fault : FailsByCall start now result
  pub quiet : OnOk result (IsQuiet start now)

-- What an answer calls: where a box changed, just the writes and syncs that replace its record by
-- the new one; else none, and no byte is written.
abbrev pub CallsForChange : {T : Type 0} → Option ℕ → ServerNow → ServerNow → DiskState → DiskState → Result T Call → Type 0
CallsForChange None old new start now result = Unwritten start now × HavePassed 0 start now
CallsForChange (Some k) old new start now result =
    (store : SlotStore) (box : Box) → slice_get old.stores k ≡ Some store → slice_get new.boxes k ≡ Some box
    → Called (calls_of (content store) (Some (box_text box))) itself start now result

-- one record was replaced, or a call on the disk failed meanwhile
pub record IsReplaced (text : List ℕ) (old new : SlotStore) (start now : DiskState) (done : Bool) : Type 0 where
  pub any_moment : Span start now (IsOldOrNew start old.area (content old) (Some text))
  pub same : new.area ≡ old.area
  pub holds : done ≡ true → content new ≡ Some text
  pub rests : done ≡ true → Always (Rests new) now
  pub outside : done ≡ true → Always (KeepsOutsideArea old.area start) now

-- What the area of a box is read as, and the bytes that stand for boxes.
use Rattle.std.specs.Prelude.{◌≡◌, ◌<◌, ℕ, List, Option, Some, None, Result, Ok, Err, slice_get}
use Rattle.dr_disk.specs.State.{DiskState}
use Rattle.slot_store.specs.Reading.{AreaReading, IsUndamaged, area_reading, damaged, holds, no_content}
use Rattle.slot_store.specs.Records.{stored_record}
use Rattle.relay_core.specs.Boxes.{Box}
use Rattle.relay_core.specs.Record.{IsRecordOf, box_read}
use Rattle.relay_server.specs.Places.{area_of}

-- ---- what an area is read as

-- the place of the first fault of a text that is no box's record
abbrev pub box_fault_of : Result Box ℕ → Option ℕ
box_fault_of (Ok box) = None
box_fault_of (Err at) = Some at

abbrev pub box_fault : List ℕ → Option ℕ
box_fault text = box_fault_of (box_read text)

abbrev pub area_read : ℕ → List ℕ → AreaReading
area_read k s = area_reading box_fault (area_of k) s

-- no damage
abbrev pub IsUndamagedReading : AreaReading → Type 0
IsUndamagedReading no_content = Unit {0}
IsUndamagedReading (holds text) = Unit {0}
IsUndamagedReading (damaged slot at) = ⊥

-- ---- without damage

-- these bytes are read without damage in each of this many areas
abbrev pub AreUndamaged : ℕ → List ℕ → Type 0
AreUndamaged count c = (k : ℕ) → k < count → IsUndamaged (area_of k) c

-- the second are where the first are
abbrev pub AreNoWorse : ℕ → List ℕ → List ℕ → Type 0
AreNoWorse count d c = (k : ℕ) → k < count → IsUndamaged (area_of k) d → IsUndamaged (area_of k) c

-- the second are where an image of that moment is
abbrev pub KeepsUndamaged : ℕ → DiskState → List ℕ → Type 0
KeepsUndamaged count start c = (d : List ℕ) × start.image d × AreNoWorse count d c

-- ---- standing for boxes

-- there is a record, and it is one of this box
abbrev pub HasRecordOf : Box → Option (List ℕ) → Type 0
HasRecordOf box None = ⊥
HasRecordOf box (Some text) = IsRecordOf box text

-- the area of a box has a record of it, and is read without damage
pub record StandsForBox (k : ℕ) (box : Box) (c : List ℕ) : Type 0 where
  pub has : HasRecordOf box (stored_record (area_of k) c)
  pub undamaged : IsUndamaged (area_of k) c

-- bytes that stand for these boxes
abbrev pub StandsForBoxes : List Box → List ℕ → Type 0
StandsForBoxes boxes c = (k : ℕ) (box : Box) → slice_get boxes k ≡ Some box → StandsForBox k box c

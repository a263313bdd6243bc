-- What a relay leaves is read without damage, and is opened again with the same boxes.
use Rattle.std.specs.Prelude.{◌≡◌, ◌⊎◌, ℕ, ◌+◌, List, map, slice_get, Some}
use Rattle.dr_disk.specs.State.{Always, DiskState}
use Rattle.relay_core.specs.Boxes.{Box, spec_of}
use Rattle.relay_core.specs.declared.spec.BoxSpec.{BoxSpec}
use Rattle.relay_server.specs.Opening.{AreBoxesRead, IsServerUnopened}
use Rattle.relay_server.specs.Reading.{AreUndamaged, KeepsUndamaged, StandsForBoxes}
use Rattle.relay_server.specs.declared.errors.ServerOpenError.{ServerOpenError}
use Rattle.relay_server.specs.declared.errors.ServerOpenError.TheVariants.{BoxKeys, BoxName, Damaged, Memory, StoreFault}

-- ---- no damage comes

-- Between two moments no image came but one that stood, one that is read without damage where an
-- image that stood is, or one that is read without damage in each area.
abbrev pub LeavesUndamaged : ℕ → DiskState → DiskState → Type 0
LeavesUndamaged count a b =
    (c : List ℕ) → b.image c → a.image c ⊎ (KeepsUndamaged count a c ⊎ AreUndamaged count c)

-- at the first of these moments, and so at each, all areas are read without damage in each image
pub record StaysUndamaged {X : Type 0} (state : X → DiskState) (count : ℕ) (moments : List X)
    : Type 0 where
  pub first : (a : X) → slice_get moments 0 ≡ Some a → Always (AreUndamaged count) (state a)
  pub links : (n : ℕ) (a b : X) → slice_get moments n ≡ Some a
      → slice_get moments (n + 1) ≡ Some b → LeavesUndamaged count (state a) (state b)

-- ---- boxes that stand

abbrev pub specs_of_boxes : List Box → List BoxSpec
specs_of_boxes boxes = map spec_of boxes

-- what a read gives stands for these boxes
pub record ReadsBoxes (boxes : List Box) (disk : DiskState) : Type 0 where
  pub bytes : List ℕ
  pub told : disk.seen ≡ Some bytes
  pub stands : StandsForBoxes boxes bytes

-- an error that says nothing of what stands on the disk
abbrev pub SaysNothing : ServerOpenError → Type 0
SaysNothing Memory = Unit {0}
SaysNothing (StoreFault call) = Unit {0}
SaysNothing (Damaged area slot at) = ⊥
SaysNothing (BoxName k) = ⊥
SaysNothing (BoxKeys k) = ⊥

-- A disk that is read as these boxes is opened with these, or not at all, for want of memory or by a
-- call that failed.
pub record OpensAgain (boxes : List Box) (start now : DiskState) : Type 0 where
  pub boxes_are : (found : List Box) → AreBoxesRead (specs_of_boxes boxes) found start
      → found ≡ boxes
  pub refused : (error : ServerOpenError) → IsServerUnopened (specs_of_boxes boxes) start now error
      → SaysNothing error

-- A relay that is opened from a disk: area by area, then the records are loaded, then each area
-- without one gets an empty box's.
use Rattle.std.specs.Prelude.{◌≡◌, ◌⊎◌, ℕ, ◌<◌, List, length, slice_get, Option, Some, None}
use Rattle.dr_base.specs.Causes.{Rose}
use Rattle.dr_disk.specs.Spans.{IsQuiet}
use Rattle.dr_disk.specs.State.{DiskState}
use Rattle.slot_store.specs.Reading.{AreaReading, damaged, holds, no_content}
use Rattle.slot_store.specs.Records.{stored_record}
use Rattle.relay_core.specs.Boxes.{Box, empty_box, spec_of}
use Rattle.relay_core.specs.Loading.{Fits}
use Rattle.relay_core.specs.Record.{IsRecordOf, box_text}
use Rattle.relay_core.specs.declared.loading.Loaded.{Loaded}
use Rattle.relay_core.specs.declared.loading.Loaded.TheVariants.{OtherKeys, OtherName}
use Rattle.relay_core.specs.declared.spec.BoxSpec.{BoxSpec}
use Rattle.relay_server.specs.Durable.{IsServerReady, ServerNow}
use Rattle.relay_server.specs.Places.{area_of, SameBehind, UnwrittenBehind}
use Rattle.relay_server.specs.Reading.{AreNoWorse, IsUndamagedReading, area_read}
use Rattle.relay_server.specs.declared.errors.ServerOpenError.{ServerOpenError}
use Rattle.relay_server.specs.declared.errors.ServerOpenError.TheVariants.{BoxKeys, BoxName, Damaged, Memory, StoreFault}

-- ---- what an area is read as

-- the box by a spec: the record's, which has its name and its keys, or an empty one where no record
-- stands
abbrev pub GivesBox : BoxSpec → Box → AreaReading → Type 0
GivesBox spec box no_content = box ≡ empty_box spec
GivesBox spec box (holds text) = IsRecordOf box text × (spec_of box ≡ spec)
GivesBox spec box (damaged slot at) = ⊥

-- the record of a box that fits the spec so
abbrev pub HasOther : Loaded → BoxSpec → AreaReading → Type 0
HasOther how spec no_content = ⊥
HasOther how spec (holds text) = (box : Box) × IsRecordOf box text × Fits how spec box
HasOther how spec (damaged slot at) = ⊥

-- of what a read gives, on a disk that tells that
abbrev pub OfRead : DiskState → (List ℕ → Type 0) → Type 0
OfRead start P = (s : List ℕ) → start.seen ≡ Some s → P s

-- the first of this many areas that is damaged
pub record IsFirstDamaged (count k slot at : ℕ) (s : List ℕ) : Type 0 where
  pub inside : k < count
  pub before : (j : ℕ) → j < k → IsUndamagedReading (area_read j s)
  pub here : area_read k s ≡ damaged slot at

-- no area is damaged, and this is the first whose record isn't of its box: it differs so
pub record IsFirstOther (how : Loaded) (specs : List BoxSpec) (k : ℕ) (s : List ℕ) : Type 0 where
  pub inside : k < length specs
  pub whole : (j : ℕ) → j < length specs → IsUndamagedReading (area_read j s)
  pub before : (j : ℕ) (spec : BoxSpec) → j < k → slice_get specs j ≡ Some spec
      → (box : Box) × GivesBox spec box (area_read j s)
  pub here : (spec : BoxSpec) → slice_get specs k ≡ Some spec → HasOther how spec (area_read k s)

-- ---- what a crash leaves meanwhile

-- the record stayed, or an empty box's was put where none stood
abbrev pub StaysOrBegins : BoxSpec → Option (List ℕ) → Option (List ℕ) → Type 0
StaysOrBegins spec old new =
    (new ≡ old) ⊎ ((old ≡ None) × (new ≡ Some (box_text (empty_box spec))))

-- Area by area these bytes are those of an image of that moment, but for empty boxes that were put,
-- and are read without damage where that is. What lies after the areas is the same.
pub record IsOpening (specs : List BoxSpec) (start : DiskState) (c : List ℕ) : Type 0 where
  pub entry : List ℕ
  pub image : start.image entry
  pub each : (k : ℕ) (spec : BoxSpec) → slice_get specs k ≡ Some spec
      → StaysOrBegins spec (stored_record (area_of k) entry) (stored_record (area_of k) c)
  pub undamaged : AreNoWorse (length specs) entry c
  pub outside : SameBehind (length specs) entry c

-- ---- how it ends

-- A box for each spec, as its area is read.
pub record AreBoxesRead (specs : List BoxSpec) (boxes : List Box) (start : DiskState) : Type 0 where
  pub count : length boxes ≡ length specs
  pub made : (k : ℕ) (spec : BoxSpec) (box : Box) → slice_get specs k ≡ Some spec
      → slice_get boxes k ≡ Some box → spec_of box ≡ spec
  pub read : OfRead start (λ s. (k : ℕ) (spec : BoxSpec) (box : Box) → slice_get specs k ≡ Some spec
      → slice_get boxes k ≡ Some box → GivesBox spec box (area_read k s))

-- The server is ready, with the boxes that were read.
pub record IsServerOpened (specs : List BoxSpec) (server : ServerNow) (start now : DiskState)
    : Type 0 where
  pub ready : IsServerReady server now
  pub boxes : AreBoxesRead specs server.boxes start
  pub quiet : IsQuiet start now

-- An area has a record that isn't of its box. Nothing is damaged, and no call failed.
abbrev pub HasAnother : Loaded → List BoxSpec → DiskState → DiskState → ℕ → Type 0
HasAnother how specs start now k =
    (k < length specs) × IsQuiet start now × OfRead start (IsFirstOther how specs k)

-- Why no server was opened. Nothing was written to a damaged area, nor to those after it.
abbrev pub IsServerUnopened : List BoxSpec → DiskState → DiskState → ServerOpenError → Type 0
IsServerUnopened specs start now Memory = IsQuiet start now
IsServerUnopened specs start now (StoreFault call) = Rose (start.faults call) (now.faults call)
IsServerUnopened specs start now (Damaged area slot at) =
    (area < length specs) × IsQuiet start now
    × OfRead start (IsFirstDamaged (length specs) area slot at) × UnwrittenBehind area start now
IsServerUnopened specs start now (BoxName k) = HasAnother OtherName specs start now k
IsServerUnopened specs start now (BoxKeys k) = HasAnother OtherKeys specs start now k

-- Where the boxes of a relay lie on its disk: each has an area of two halves.
use Rattle.std.specs.Prelude.{◌≡◌, ◌<◌, ◌≤◌, ◌+◌, ◌*◌, ℕ, List, Vec, Some, length, slice_index}
use Rattle.dr_base.specs.declared.limits.TheConstants.{PAGE}
use Rattle.dr_disk.specs.State.{Always, DiskState}
use Rattle.slot_store.specs.Areas.{Area, HasRecordMemory, IsOutsideArea}
use Rattle.relay_core.specs.declared.limits.TheConstants.{RELAY_LIMIT}
use Rattle.relay_core.specs.declared.spec.BoxSpec.{BoxSpec}
use Rattle.relay_server.specs.declared.limits.TheConstants.{BOX_PAGES, HALF_SIZE, RECORD_PAGES, UPPER_START}

-- how many bytes the halves of this many areas have
abbrev pub halves_size : ℕ → ℕ
halves_size n = HALF_SIZE * n

-- the area of a box: the lower halves follow one another, and the upper ones do so from `UPPER_START` on
abbrev pub area_of : ℕ → Area
area_of k = record {
  start = halves_size k;
  upper = UPPER_START + halves_size k;
  pages = BOX_PAGES;
  most = RECORD_PAGES;
}

-- bytes that have room for any record of a box, wherever its area lies
abbrev pub IsBoxRoom : List ℕ → Type 0
IsBoxRoom bytes = length bytes ≡ PAGE * RECORD_PAGES

-- memory in which such bytes can come to lie
abbrev pub HasBoxMemory : {Z : Type 0} → Vec ℕ Z → Type 0
HasBoxMemory text = HasRecordMemory (area_of 0) text

-- a disk has room for this many areas
abbrev pub HasRoomForAreas : ℕ → DiskState → Type 0
HasRoomForAreas n disk = UPPER_START + halves_size n ≤ disk.size

-- a relay has room for boxes of these specs, and a disk for their areas
pub record HasRoomFor (specs : List BoxSpec) (disk : DiskState) : Type 0 where
  pub few : length specs ≤ RELAY_LIMIT
  pub within : HasRoomForAreas (length specs) disk

-- what lies in none of this many areas of the one is the same in the other
pub record SameBehind (n : ℕ) (d c : List ℕ) : Type 0 where
  pub size : length c ≡ length d
  pub outside : (i : ℕ) → ((k : ℕ) → k < n → IsOutsideArea (area_of k) i) → slice_index c i ≡ slice_index d i

-- what lies in none of this many areas is as an image of that moment has it
abbrev pub IsSameBehind : ℕ → DiskState → List ℕ → Type 0
IsSameBehind n start c = (d : List ℕ) × start.image d × SameBehind n d c

-- Nothing was written but in this many areas: all else is as it was, in each image and in what a
-- read gives.
pub record UnwrittenBehind (n : ℕ) (start now : DiskState) : Type 0 where
  pub read : (s r : List ℕ) → start.seen ≡ Some s → now.seen ≡ Some r → SameBehind n s r
  pub images : Always (IsSameBehind n start) now

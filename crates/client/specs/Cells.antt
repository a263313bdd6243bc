-- What a place on a disk holds: the record of one session, wherever it lies.
use Rattle.std.specs.Prelude.{List, Option, Some, if◌then◌else◌, true, ℕ, ◌-◌, ◌≡◌, ◌⊎◌}
use Rattle.dr_disk.specs.State.{DiskState}
use Rattle.dr_disk.specs.declared.call.Mode.{Mode}
use Rattle.slot_store.specs.Areas.{IsSameOutsideArea}
use Rattle.slot_store.specs.Reading.{IsUndamaged}
use Rattle.slot_store.specs.Records.{stored_record}
use Rattle.slot_store.specs.Stops.{shows, took}
use Rattle.client.specs.Clients.{client_area}

pub record Cell : Type 1 where
  -- the record that bytes have there
  pub record_in : List ℕ → Option (List ℕ)
  -- they are read there without damage
  pub undamaged : List ℕ → Type 0
  -- outside of it the second are as the first
  pub outside : List ℕ → List ℕ → Type 0

-- a client's, which is alone on its disk
abbrev pub client_cell : Cell
client_cell = record {
  record_in = stored_record client_area;
  undamaged = IsUndamaged client_area;
  outside = IsSameOutsideArea client_area;
}

-- outside of it these bytes are those of an image of that moment
abbrev pub KeepsOutsideCell : Cell → DiskState → List ℕ → Type 0
KeepsOutsideCell cell start c = (d : List ℕ) × start.image d × cell.outside d c

-- outside of it a read gives what it gave
abbrev pub ReadsOutsideCell : Cell → DiskState → DiskState → Type 0
ReadsOutsideCell cell start now =
    (s : List ℕ) → now.seen ≡ Some s → (r : List ℕ) × (start.seen ≡ Some r) × cell.outside r s

-- ---- what happened to the disk while one record was replaced by another

-- the record is the old one or the new one, and is read without damage; nothing outside the place
-- has changed
pub record IsOldOrNewInCell (cell : Cell) (start : DiskState) (old new : Option (List ℕ))
    (c : List ℕ) : Type 0 where
  pub either : (cell.record_in c ≡ old) ⊎ (cell.record_in c ≡ new)
  pub undamaged : cell.undamaged c
  pub frame : KeepsOutsideCell cell start c

-- after a call that failed: what a crash leaves, and what a read gives
pub record IsStoppedInCell (cell : Cell) (old new : Option (List ℕ)) (start now : DiskState)
    : Type 0 where
  pub crash : (l m : ℕ) (mode : Mode) (c : List ℕ) → start.passed ≡ Some l → now.passed ≡ Some m
      → now.leaves mode ≡ Some c
      → cell.record_in c ≡ (if took old new (m - l) mode then new else old)
  pub read : start.keeps ≡ true → (l m : ℕ) (s : List ℕ) → start.passed ≡ Some l
      → now.passed ≡ Some m → now.seen ≡ Some s
      → cell.record_in s ≡ (if shows old new (m - l) then new else old)

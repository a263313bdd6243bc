-- What callers see of a store: its record, and the bytes that it rests on.
use Rattle.std.specs.Prelude.{◌≡◌, ◌⊎◌, ℕ, ◌≤◌, List, Option}
use Rattle.dr_disk.specs.State.{DiskState}
use Rattle.pages.specs.Around.{KeepsOutside as KeepsAround, ReadsAround}
use Rattle.slot_store.specs.Areas.{Area, IsArea, layout_of, area_end}
use Rattle.slot_store.specs.AtRest.{IsAtRest}
use Rattle.slot_store.specs.Layout.{Mark}
use Rattle.slot_store.specs.Reading.{IsUndamaged}
use Rattle.slot_store.specs.Records.{stored_record}

-- where it lies, the record that was opened or put last, and where that lies
pub record SlotStore : Type 0 where
  pub area : Area
  pub mark : Mark
  pub content : Option (List ℕ)

abbrev pub content : SlotStore → Option (List ℕ)
content store = store.content

abbrev pub mark : SlotStore → Mark
mark store = store.mark

-- these bytes are at rest for the store's record
unfoldable pub Rests : SlotStore → List ℕ → Type 0
Rests store c = IsArea store.area × IsAtRest store.area store.mark store.content c

abbrev pub HasArea : Area → DiskState → Type 0
HasArea area disk = area_end area ≤ disk.size

-- outside of the area's tables and pages these bytes are those of an image of that moment
abbrev pub KeepsOutsideArea : Area → DiskState → List ℕ → Type 0
KeepsOutsideArea area = KeepsAround (layout_of area)

-- outside of the area's tables and pages a read gives what it gave
abbrev pub ReadsOutsideArea : Area → DiskState → DiskState → Type 0
ReadsOutsideArea area = ReadsAround (layout_of area)

-- the record is the old one or the new one, and is read without damage; nothing outside the area has changed
pub record IsOldOrNew (start : DiskState) (area : Area) (old new : Option (List ℕ)) (c : List ℕ) : Type 0 where
  pub either : (stored_record area c ≡ old) ⊎ (stored_record area c ≡ new)
  pub undamaged : IsUndamaged area c
  pub frame : KeepsOutsideArea area start c

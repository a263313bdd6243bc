-- What a store has room for.
use Rattle.paged_records.specs.declared.draft.Draft.{Draft}
use Rattle.paged_records.specs.declared.kept.Kept.{Kept}
use Rattle.paged_records.specs.Memory.{HasPlanRoom as HasBoundedPlans, HasRoomToLoad as HasBoundedRoom}
use Rattle.slot_store.specs.Areas.{Area, bounds_of}

-- for the plans of an area, with zeros for a page
abbrev pub HasPlanRoom : Area → Draft → Type 0
HasPlanRoom area = HasBoundedPlans (bounds_of area)

-- for a record of the area, and for the numbers of its pages; what it has is no longer than such a record
abbrev pub HasRoomToLoad : Area → Kept → Type 0
HasRoomToLoad area = HasBoundedRoom (bounds_of area)

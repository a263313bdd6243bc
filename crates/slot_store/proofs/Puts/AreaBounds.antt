-- An area's pages, as those that a record may have.
use Rattle.paged_records.specs.Bounded.{IsBounded}
use Rattle.slot_store.specs.Areas.{Area, IsArea, bounds_of}

pub area_bounds : (area : Area) → IsArea area → IsBounded (bounds_of area)
area_bounds area lawful =
    record { least = lawful.least; short = lawful.short; named = lawful.named }

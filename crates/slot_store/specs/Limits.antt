-- How many reads, writes and syncs opening makes at most, and how many reads a look.
use Rattle.std.specs.Prelude.{◌≡◌, ℕ, ◌+◌, ◌*◌, ◌≤◌}
use Rattle.pages.specs.Counted.{lookings, one_of, tidyings}
use Rattle.slot_store.specs.declared.errors.OpenError.{OpenError}
use Rattle.slot_store.specs.declared.errors.OpenError.TheVariants.{Damaged, Memory, StoreFault}
use Rattle.slot_store.specs.declared.limits.TheConstants.{LOOK_READS, OPENING_CALLS, OPENING_READS}
use Rattle.slot_store.specs.Areas.{Area, IsArea, layout_of}

-- both tables are tidied where there is no record, else the one that doesn't count
abbrev pub settlings : Area → ℕ
settlings area = 2 * tidyings (layout_of area)

-- a sync, and what is wiped
abbrev pub openings : Area → ℕ
openings area = 1 + settlings area

-- both tables are read, each gate by itself, and the record's pages
abbrev pub readings : Area → ℕ
readings area = 4 + area.most

-- the pages that are looked at besides, once where nothing is wiped
abbrev pub inspections : Area → ℕ
inspections area = readings area + lookings (layout_of area)

abbrev pub opening_reads : Area → ℕ
opening_reads area = readings area + 2 * lookings (layout_of area)

-- how many writes and syncs failed of an opening that was refused
abbrev pub faulted : OpenError → ℕ
faulted Memory = 0
faulted (StoreFault call) = one_of call
faulted (Damaged slot at) = 0

-- writes and syncs of an opening, and reads of a look and of an opening: of one area, by its pages,
-- and of every area
pub record HasLimits : Type 0 where
  pub opening : (area : Area) → IsArea area → openings area ≡ 2 * area.pages + 5
  pub most : (area : Area) → IsArea area → openings area ≤ OPENING_CALLS
  pub calls : OPENING_CALLS ≡ 131077
  pub looks : (area : Area) → IsArea area → inspections area ≡ area.pages + area.most + 3
  pub look_most : (area : Area) → IsArea area → inspections area ≤ LOOK_READS
  pub look_reads : LOOK_READS ≡ 67584
  pub reads : (area : Area) → IsArea area → opening_reads area ≡ 2 * area.pages + area.most + 2
  pub read_most : (area : Area) → IsArea area → opening_reads area ≤ OPENING_READS
  pub opening_reads_are : OPENING_READS ≡ 133119

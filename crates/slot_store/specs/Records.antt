-- The record that an area's bytes stand for.
use Rattle.std.specs.Prelude.{ℕ, List, Option, Some, None}
use Rattle.pages.specs.Snapshots.{Shot, no_shot, shot, snapshot, unclear}
use Rattle.record_pages.specs.Tables.{record_names, table_fault}
use Rattle.paged_records.specs.Faults.{record_in}
use Rattle.slot_store.specs.Areas.{Area, layout_of}

-- unless there is a fault
abbrev pub faultless : Option ℕ → List ℕ → Option (List ℕ)
faultless None text = Some text
faultless (Some at) text = None

-- of the newer open table, where it names pages of the area
abbrev pub record_shown : Area → Shot → Option (List ℕ)
record_shown area no_shot = None
record_shown area unclear = None
record_shown area (shot s) = faultless (table_fault 2 area.pages area.most s.table.body) (record_in s.table.body s.pages)

-- which table counts, with its pages
abbrev pub shot_in : Area → List ℕ → Shot
shot_in area c = snapshot record_names (layout_of area) c

-- the record that these bytes stand for
unfoldable pub stored_record : Area → List ℕ → Option (List ℕ)
stored_record area c = record_shown area (shot_in area c)

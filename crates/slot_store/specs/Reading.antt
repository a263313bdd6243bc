-- What an area reads as: no record, the newer table's record, or damage.
use Rattle.std.specs.Prelude.{◌≡◌, ◌⊎◌, ℕ, Bool, true, false, List, Option, Some, None}
use Rattle.dr_disk.specs.State.{DiskState}
use Rattle.pages.specs.Snapshots.{Shot, no_shot, shot, unclear}
use Rattle.paged_records.specs.Faults.{fault_in as fault_within, record_in}
use Rattle.slot_store.specs.Areas.{Area, IsSameOutsideArea, bounds_of}
use Rattle.slot_store.specs.Records.{stored_record, shot_in}

-- no record; a record; or the number of the damaged table, and the place: in the table, or a page's size and the place in the
-- record's pages
pub data AreaReading : Type 0 where
  no_content : AreaReading
  holds : List ℕ → AreaReading
  damaged : ℕ → ℕ → AreaReading

abbrev pub table_number : Bool → ℕ
table_number false = 0
table_number true = 1

-- of bytes that stand for this record, or for none
abbrev pub reading_of : Option (List ℕ) → AreaReading
reading_of None = no_content
reading_of (Some text) = holds text

-- the first fault of an open table and its pages
abbrev pub fault_in : (List ℕ → Option ℕ) → Area → List ℕ → List (List ℕ) → Option ℕ
fault_in fault_at area = fault_within fault_at (bounds_of area)

abbrev pub judged : Bool → Option ℕ → List ℕ → AreaReading
judged second None text = holds text
judged second (Some at) text = damaged (table_number second) at

-- where both tables are open and neither is newer, table 1 is damaged at its turn
abbrev pub read_as : (List ℕ → Option ℕ) → Area → Shot → AreaReading
read_as fault_at area no_shot = no_content
read_as fault_at area unclear = damaged 1 1
read_as fault_at area (shot s) =
    judged s.second (fault_in fault_at area s.table.body s.pages) (record_in s.table.body s.pages)

-- what these bytes are read as, under a grammar's place of the first fault
unfoldable pub area_reading : (List ℕ → Option ℕ) → Area → List ℕ → AreaReading
area_reading fault_at area c = read_as fault_at area (shot_in area c)

-- under any grammar that has it as a text these bytes are read as this record; or as none
abbrev pub OpensAs : Area → Option (List ℕ) → List ℕ → Type 0
OpensAs area None c = (fault_at : List ℕ → Option ℕ) → area_reading fault_at area c ≡ no_content
OpensAs area (Some text) c = (fault_at : List ℕ → Option ℕ) → fault_at text ≡ None → area_reading fault_at area c ≡ holds text

-- without damage: these bytes are read as the record that they stand for
abbrev pub IsUndamaged : Area → List ℕ → Type 0
IsUndamaged area c = OpensAs area (stored_record area c) c

-- the record is that of what was read at that moment, undamaged where that was, and so is all outside the area
pub record IsLikeRead (area : Area) (start : DiskState) (c : List ℕ) : Type 0 where
  pub read : List ℕ
  pub told : start.seen ≡ Some read
  pub same : stored_record area c ≡ stored_record area read
  pub undamaged : IsUndamaged area read → IsUndamaged area c
  pub outside : IsSameOutsideArea area read c

-- an image of that moment, or one like what was read then
abbrev pub IsEntryOrLike : Area → DiskState → List ℕ → Type 0
IsEntryOrLike area start c = start.image c ⊎ IsLikeRead area start c

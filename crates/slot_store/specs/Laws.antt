-- What holds of the words that callers see.
use Rattle.std.specs.Prelude.{◌≡◌, ℕ, ◌≤◌, List, ◌++◌, length, slice_index, Option, Some, None}
use Rattle.pages.specs.declared.layout.TheConstants.{LOWER_PAGES}
use Rattle.slot_store.specs.Areas.{Area, IsInArea, area_end}
use Rattle.slot_store.specs.AtRest.{IsAtRest}
use Rattle.slot_store.specs.Records.{stored_record}
use Rattle.slot_store.specs.Store.{Rests, SlotStore, content, mark}
use Rattle.slot_store.specs.Reading.{IsUndamaged, holds, no_content, area_reading}

-- bytes that are the same in the tables and pages of an area
pub record SameWithin (area : Area) (c d : List ℕ) : Type 0 where
  pub size : length c ≡ length d
  pub bytes : (i : ℕ) → IsInArea area i → slice_index c i ≡ slice_index d i

-- At rest an area has the store's record, which is read without damage, and no byte of it says more than the record and the mark;
-- and so the next opening leaves it as it is.
pub record IsResting : Type 0 where
  pub at_rest : (store : SlotStore) (c : List ℕ) → Rests store c → IsAtRest store.area (mark store) (content store) c
  pub record_of : (store : SlotStore) (c : List ℕ) → Rests store c → stored_record store.area c ≡ content store
  pub undamaged : (store : SlotStore) (c : List ℕ) → Rests store c → IsUndamaged store.area c
  pub same_bytes : (store other : SlotStore) (c d : List ℕ) → store.area ≡ other.area → mark store ≡ mark other → content store ≡ content other
      → length c ≡ length d → Rests store c → Rests other d → SameWithin store.area c d

-- What a store says of bytes, it says of those within its area alone.
pub record DependsOnAreaAlone : Type 0 where
  pub record_of : (area : Area) (c d : List ℕ) → SameWithin area c d → stored_record area c ≡ stored_record area d
  pub rests : (store : SlotStore) (c d : List ℕ) → SameWithin store.area c d → Rests store d → Rests store c
  pub reads : (fault_at : List ℕ → Option ℕ) (area : Area) (c d : List ℕ) → SameWithin area c d → area_reading fault_at area c ≡ area_reading fault_at area d

-- Bytes that are read without damage stand for what was read.
pub record IsRead : Type 0 where
  pub content : (fault_at : List ℕ → Option ℕ) (area : Area) (c text : List ℕ) → area_reading fault_at area c ≡ holds text → stored_record area c ≡ Some text
  pub fits_grammar : (fault_at : List ℕ → Option ℕ) (area : Area) (c text : List ℕ) → area_reading fault_at area c ≡ holds text → fault_at text ≡ None
  pub none : (fault_at : List ℕ → Option ℕ) (area : Area) (c : List ℕ) → area_reading fault_at area c ≡ no_content → stored_record area c ≡ None
  pub undamaged : (fault_at : List ℕ → Option ℕ) (area : Area) (c text : List ℕ) → area_reading fault_at area c ≡ holds text → IsUndamaged area c

-- an area that begins where the other does and has no fewer pages, and all pages of the other are
-- lower ones
pub record IsWider (area wider : Area) : Type 0 where
  pub start : wider.start ≡ area.start
  pub least : 2 ≤ area.pages
  pub lower : area.pages ≤ LOWER_PAGES
  pub pages : area.pages ≤ wider.pages
  pub most : area.most ≤ wider.most

-- What stands in an area stays there where more pages belong to it, wherever they lie, and more
-- bytes follow on the disk.
pub record StandsInWider : Type 0 where
  pub record_of : (area wider : Area) (c more text : List ℕ)
      → IsWider area wider → area_end area ≤ length c
      → stored_record area c ≡ Some text → stored_record wider (c ++ more) ≡ Some text
  pub content : (fault_at : List ℕ → Option ℕ) (area wider : Area) (c more text : List ℕ)
      → IsWider area wider → area_end area ≤ length c
      → area_reading fault_at area c ≡ holds text
      → area_reading fault_at wider (c ++ more) ≡ holds text
  pub none : (fault_at : List ℕ → Option ℕ) (area wider : Area) (c more : List ℕ)
      → IsWider area wider → area_end area ≤ length c
      → area_reading fault_at area c ≡ no_content
      → area_reading fault_at wider (c ++ more) ≡ no_content

-- Memory that opening needs besides a store's.
use Rattle.std.specs.Prelude.{◌≡◌, ◌+◌, ◌*◌, ℕ, false, length, replicate}
use Rattle.dr_base.specs.declared.limits.TheConstants.{PAGE}
use Rattle.slot_store.specs.declared.scratch.Scratch.{Scratch}
use Rattle.pages.specs.declared.rows.TheConstants.{ROW_PAGES}
use Rattle.dr_disk.specs.State.{DiskState}
use Rattle.slot_store.specs.Areas.{Area}
use Rattle.pages.specs.Judged.{table_with}
use Rattle.slot_store.specs.Settling.{AreTablesRead}
use Rattle.slot_store.specs.Store.{HasArea}

-- for both tables and the pages that are read at once, with no page marked
pub record IsScratch (area : Area) (scratch : Scratch) : Type 0 where
  pub first_long : length scratch.first.items + 1 ≡ PAGE
  pub second_long : length scratch.second.items + 1 ≡ PAGE
  pub room_long : length scratch.room.items ≡ PAGE * ROW_PAGES
  pub marks : scratch.named.items ≡ replicate area.pages false

-- both tables of an area were read into it, with these gates
pub record HasTables (area : Area) (first_gate second_gate : ℕ) (scratch : Scratch)
    (disk : DiskState) : Type 0 where
  pub within : HasArea area disk
  pub room : IsScratch area scratch
  pub read : AreTablesRead area (table_with first_gate scratch.first.items)
      (table_with second_gate scratch.second.items) disk

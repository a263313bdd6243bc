-- How an area is settled: what is asked of a disk, and what its calls leave.
use Rattle.std.specs.Prelude.{◌≡◌, ◌*◌, ℕ, List, Some, Result, OnOk}
use Rattle.dr_disk.specs.State.{Always, DiskState, IsSettled, OnSeen}
use Rattle.dr_disk.specs.Spans.{Span}
use Rattle.dr_disk.specs.declared.call.Call.{Call}
use Rattle.dr_disk.specs.Called.{Went, itself}
use Rattle.pages.specs.Runs.{IsUntouched}
use Rattle.pages.specs.Counted.{MakesAtMost, ReadsAtMost, lookings, one_of}
use Rattle.pages.specs.Snapshots.{kept_shot}
use Rattle.pages.specs.Judged.{AreTablesRead as ArePairRead}
use Rattle.pages.specs.Tables.{Table}
use Rattle.slot_store.specs.declared.pager.Pager.{Pager}
use Rattle.slot_store.specs.Areas.{Area, layout_of}
use Rattle.slot_store.specs.Limits.{settlings}
use Rattle.slot_store.specs.Layout.{laid}
use Rattle.slot_store.specs.Reading.{IsLikeRead}
use Rattle.slot_store.specs.Records.{shot_in}
use Rattle.slot_store.specs.Pager.{IsLaidFor, content, mark}
use Rattle.slot_store.specs.Store.{HasArea}

-- a disk that has the area, and on which a crash leaves what a read gives
pub record IsSettledArea (area : Area) (disk : DiskState) : Type 0 where
  pub within : HasArea area disk
  pub settled : IsSettled disk

-- both tables as they were read
abbrev pub AreTablesRead : Area → Table → Table → DiskState → Type 0
AreTablesRead area = ArePairRead (layout_of area)

-- a pager at rest on what was read
abbrev pub RestsAsRead : Area → DiskState → Pager → List ℕ → Type 0
RestsAsRead area start pager c = IsLaidFor pager c × IsLikeRead area start c

-- what counts in these bytes is the pager's record, or nothing where it has none
abbrev pub HasShot : Pager → List ℕ → Type 0
HasShot pager s = shot_in pager.area s ≡ kept_shot (laid (mark pager) (content pager))

-- All but the pager's record may be wiped: that is what counts, and a crash leaves what a read
-- gives.
pub record MaySettle (pager : Pager) (disk : DiskState) : Type 0 where
  pub ready : IsSettledArea pager.area disk
  pub shown : OnSeen (HasShot pager) disk

-- what a read gives is at rest for the pager
abbrev pub IsAtRestAsRead : Pager → DiskState → Type 0
IsAtRestAsRead pager disk = (s : List ℕ) × (disk.seen ≡ Some s) × IsLaidFor pager s

-- Each crash meanwhile leaves what was read. Where no call failed a crash then leaves what a read
-- gives, and the pager rests on it. Where it rested on what was read nothing is called but reads.
pub record Settles {T : Type 0} (pager : Pager) (start now : DiskState)
    (result : Result T Call) : Type 0 where
  pub any_moment : Span start now (IsLikeRead pager.area start)
  pub done : OnOk result (Always (RestsAsRead pager.area start pager) now)
  pub settled : OnOk result (IsSettled now)
  pub calls : Went itself start now result
  pub still : IsAtRestAsRead pager start → IsUntouched start now
  pub few : MakesAtMost (settlings pager.area) one_of start now result
  pub reads : ReadsAtMost (2 * lookings (layout_of pager.area)) start now

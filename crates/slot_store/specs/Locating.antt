-- What counts in an area whose tables were read.
use Rattle.std.specs.Prelude.{◌≡◌, ⊤, ℕ, true, List, Option, Some, None}
use Rattle.dr_disk.specs.State.{DiskState, OnSeen}
use Rattle.slot_store.specs.declared.locating.Located.{Located}
use Rattle.slot_store.specs.declared.locating.Located.TheVariants.{Faulty, Held}
use Rattle.slot_store.specs.declared.pager.Pager.{Pager}
use Rattle.slot_store.specs.Areas.{Area}
use Rattle.slot_store.specs.Found.{HasReadContent}
use Rattle.slot_store.specs.Pager.{content, mark}
use Rattle.slot_store.specs.Reading.{damaged, area_reading, reading_of}
use Rattle.slot_store.specs.Settling.{HasShot}

-- What counts in the bytes that were read is the pager's record, a text of the grammar, or none. Where there is none
-- the current table is table 1, so that the first put goes to table 0.
pub record HoldsWhatCounts (fault_at : List ℕ → Option ℕ) (area : Area) (disk : DiskState) (pager : Pager)
    : Type 0 where
  pub area_is : pager.area ≡ area
  pub shown : OnSeen (HasShot pager) disk
  pub read : OnSeen (λ s. area_reading fault_at area s ≡ reading_of (content pager)) disk
  pub text : (text : List ℕ) → content pager ≡ Some text → fault_at text ≡ None
  pub first : content pager ≡ None → (mark pager).second ≡ true

-- what counts was read by a reader
abbrev pub IsLocatedBy : {R : Type 0} → (R → List ℕ → Type 0) → R → R → Located → Type 0
IsLocatedBy has_read old new (Held pager) = HasReadContent has_read old new (content pager)
IsLocatedBy has_read old new (Faulty slot at) = ⊤

-- or they are damaged
abbrev pub IsLocated : (List ℕ → Option ℕ) → Area → DiskState → Located → Type 0
IsLocated fault_at area disk (Held pager) = HoldsWhatCounts fault_at area disk pager
IsLocated fault_at area disk (Faulty slot at) =
    OnSeen (λ s. area_reading fault_at area s ≡ damaged slot at) disk

-- Opening an area that is at rest.
use Rattle.std.specs.Prelude.{◌≡◌, ℕ, List, Option, Some, Result, OnOk}
use Rattle.dr_disk.specs.Calls.{Unwritten}
use Rattle.dr_disk.specs.Spans.{HavePassed}
use Rattle.dr_disk.specs.State.{DiskState}
use Rattle.slot_store.specs.Areas.{Area}
use Rattle.slot_store.specs.Layout.{IsLaidOut, IsMarked, Mark}

-- at rest for a record, whose table is open, or for none
pub record IsAtRest (area : Area) (mark : Mark) (text : Option (List ℕ)) (c : List ℕ) : Type 0 where
  pub laid_out : IsLaidOut area mark text c
  pub marked : (record_text : List ℕ) → text ≡ Some record_text → IsMarked area mark record_text

-- what a read gives is at rest
pub record IsReadAtRest (area : Area) (disk : DiskState) : Type 0 where
  pub bytes : List ℕ
  pub told : disk.seen ≡ Some bytes
  pub mark : Mark
  pub text : Option (List ℕ)
  pub rests : IsAtRest area mark text bytes

-- no byte was written, and where all went well one sync is all that was called besides reads
pub record IsLeft {T E : Type 0} (start now : DiskState) (result : Result T E) : Type 0 where
  pub unwritten : Unwritten start now
  pub one_sync : OnOk result (HavePassed 1 start now)

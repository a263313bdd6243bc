-- What opening a store gives, and why it is refused.
use Rattle.std.specs.Prelude.{◌≡◌, ℕ, true, List, Option, Some, None, is_some}
use Rattle.dr_base.specs.Causes.{Rose}
use Rattle.dr_disk.specs.declared.call.Call.{Call}
use Rattle.dr_disk.specs.State.{Always, DiskState, IsSettled, OnSeen}
use Rattle.dr_disk.specs.Spans.{HasFailedAsTold, HavePassed, IsQuiet}
use Rattle.dr_disk.specs.Calls.{Unwritten}
use Rattle.slot_store.specs.Areas.{Area}
use Rattle.slot_store.specs.declared.errors.OpenError.{OpenError}
use Rattle.slot_store.specs.declared.errors.OpenError.TheVariants.{Damaged, StoreFault}
use Rattle.slot_store.specs.declared.opening.Found.{Found}
use Rattle.slot_store.specs.AtRest.{IsAtRest}
use Rattle.slot_store.specs.Found.{found_as, has_content}
use Rattle.slot_store.specs.Layout.{Mark}
use Rattle.slot_store.specs.Reading.{IsLikeRead, damaged, area_reading}
use Rattle.slot_store.specs.Store.{Rests, SlotStore, content, mark}

-- The store's record is what was read, a text of the grammar, and a crash leaves it at rest. One that was read at
-- rest lies where it lay. Without a record the first put goes to table 0: the other one is the current.
pub record IsOpened (fault_at : List ℕ → Option ℕ) (place : Area) (start now : DiskState) (store : SlotStore) (what : Found) : Type 0 where
  pub area : store.area ≡ place
  pub read : OnSeen (λ s. area_reading fault_at place s ≡ found_as what (content store)) start
  pub text : (text : List ℕ) → content store ≡ Some text → fault_at text ≡ None
  pub found : is_some (content store) ≡ has_content what
  pub at_rest : Always (λ c. Rests store c × IsLikeRead place start c) now
  pub settled : IsSettled now
  pub first : content store ≡ None → (mark store).second ≡ true
  pub mark : (s : List ℕ) (mark' : Mark) (text : List ℕ) → start.seen ≡ Some s → IsAtRest place mark' (Some text) s → mark store ≡ mark'

-- An area is damaged where what was read is, and then the first sync is all that was called besides reads. A call is
-- named that failed, after which none was made.
pub record IsRefused (fault_at : List ℕ → Option ℕ) (area : Area) (start now : DiskState) (error : OpenError) : Type 0 where
  pub damaged : (slot at : ℕ) → error ≡ Damaged slot at → Unwritten start now × IsQuiet start now
      × HavePassed 1 start now × OnSeen (λ s. area_reading fault_at area s ≡ damaged slot at) start
  pub fault : (call : Call) → error ≡ StoreFault call → Rose (start.faults call) (now.faults call)
  pub ended : (call : Call) → error ≡ StoreFault call → HasFailedAsTold start now

-- What opening an area comes to, once its tables were read.
use Rattle.std.specs.Prelude.{◌≡◌, ◌+◌, ◌*◌, ⊤, ℕ, List, [], Option, Result, Ok, Err, IfOk}
use Rattle.dr_disk.specs.declared.call.Call.{Call}
use Rattle.dr_disk.specs.State.{DiskState, OnSeen}
use Rattle.dr_disk.specs.Spans.{Span}
use Rattle.dr_disk.specs.Called.{Went, itself}
use Rattle.pages.specs.Runs.{IsUntouched}
use Rattle.pages.specs.Counted.{MakesAtMost, ReadsAtMost, lookings, one_of}
use Rattle.paged_records.specs.declared.draft.Draft.{Draft}
use Rattle.slot_store.specs.declared.errors.OpenError.{OpenError}
use Rattle.slot_store.specs.declared.errors.OpenError.TheVariants.{Damaged, StoreFault}
use Rattle.paged_records.specs.declared.kept.Kept.{Kept}
use Rattle.slot_store.specs.declared.opening.Found.{Found}
use Rattle.slot_store.specs.declared.outcome.Outcome.{Outcome}
use Rattle.slot_store.specs.declared.outcome.Outcome.TheVariants.{Refused, Stored}
use Rattle.slot_store.specs.Areas.{Area, layout_of}
use Rattle.slot_store.specs.Limits.{settlings}
use Rattle.slot_store.specs.AtRest.{IsReadAtRest}
use Rattle.slot_store.specs.Memory.{HasRoomToLoad}
use Rattle.slot_store.specs.Memory.{HasPlanRoom}
use Rattle.slot_store.specs.Opened.{IsOpened}
use Rattle.slot_store.specs.Found.{HasReadContent}
use Rattle.slot_store.specs.Pager.{content, store_seen}
use Rattle.slot_store.specs.Reading.{IsLikeRead, damaged, area_reading}
use Rattle.slot_store.specs.Store.{SlotStore}

-- memory for a pager that has no record yet
pub record IsForStore (area : Area) (kept : Kept) (draft : Draft) : Type 0 where
  pub none : kept.len ≡ 0
  pub room : HasRoomToLoad area kept
  pub dropped : draft.plan.dropped.items ≡ []
  pub plans : HasPlanRoom area draft

-- a pager over what was read; or what was read is damaged, and nothing is called but reads
abbrev pub IsOutcome : (List ℕ → Option ℕ) → Area → DiskState → DiskState → Outcome → Type 0
IsOutcome fault_at area start now (Stored pager found) =
    IsOpened fault_at area start now (store_seen pager) found
IsOutcome fault_at area start now (Refused slot at) =
    IsUntouched start now × OnSeen (λ s. area_reading fault_at area s ≡ damaged slot at) start

-- what it comes to was read by a reader
abbrev pub IsOutcomeBy : {R : Type 0} → (R → List ℕ → Type 0) → R → R → Outcome → Type 0
IsOutcomeBy has_read old new (Stored pager found) = HasReadContent has_read old new (content pager)
IsOutcomeBy has_read old new (Refused slot at) = ⊤

-- Each crash meanwhile leaves what was read. What was read at rest stays as it is.
pub record OpensStore (fault_at : List ℕ → Option ℕ) (area : Area) (start now : DiskState)
    (result : Result Outcome Call) : Type 0 where
  pub found : IfOk result (IsOutcome fault_at area start now)
  pub any_moment : Span start now (IsLikeRead area start)
  pub still : IsReadAtRest area start → IsUntouched start now
  pub calls : Went itself start now result
  pub few : MakesAtMost (settlings area) one_of start now result
  pub reads : ReadsAtMost (area.most + 2 * lookings (layout_of area)) start now

-- as callers are told
abbrev pub opening_answer : Result Outcome Call → Result (SlotStore × Found) OpenError
opening_answer (Ok (Stored pager found)) = Ok (store_seen pager, found)
opening_answer (Ok (Refused slot at)) = Err (Damaged slot at)
opening_answer (Err call) = Err (StoreFault call)

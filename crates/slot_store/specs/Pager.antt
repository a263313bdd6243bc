-- What a pager has in memory: a record, where it lies, and what its last put left to wipe.
use Rattle.std.specs.Prelude.{ℕ, ◌==◌, Bool, List, take, Option, Some, None, if◌then◌else◌}
use Rattle.slot_store.specs.declared.pager.Pager.{Pager}
use Rattle.slot_store.specs.Layout.{IsLaidOut, IsPut, Mark}
use Rattle.slot_store.specs.Store.{SlotStore}

-- the record opened or put last; none where there is no turn
unfoldable pub content : Pager → Option (List ℕ)
content pager = if pager.turn == 0 then None else Some (take pager.kept.len pager.kept.bytes.items)

-- where that record lies
unfoldable pub mark : Pager → Mark
mark pager = record { second = pager.second; turn = pager.turn; numbers = pager.kept.numbers.items }

-- the pager that it is to callers
abbrev pub store_seen : Pager → SlotStore
store_seen pager = record { area = pager.area; mark = mark pager; content = content pager }

-- the last put replaced a record, which retiring wipes
unfoldable pub has_replaced : Pager → Bool
has_replaced pager = pager.replaced

-- these bytes are at rest for the pager's record
unfoldable pub IsLaidFor : Pager → List ℕ → Type 0
IsLaidFor pager c = IsLaidOut pager.area (mark pager) (content pager) c

-- these bytes have the pager's record, which was put and not yet retired
unfoldable pub Awaits : Pager → List ℕ → Type 0
Awaits pager c =
    IsPut pager.area (mark pager) (content pager) (has_replaced pager) pager.draft.plan.dropped.items c

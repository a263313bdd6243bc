-- What stands once a record was put, retired or replaced.
use Rattle.std.specs.Prelude.{◌≡◌, ℕ, List, length, Option, Some, Result, OnErr, is_some}
use Rattle.dr_disk.specs.State.{DiskState}
use Rattle.dr_disk.specs.Spans.{Span}
use Rattle.dr_disk.specs.declared.call.Call.{Call}
use Rattle.pages.specs.Stops.{retire_call}
use Rattle.record_pages.specs.Pages.{pages_in}
use Rattle.record_pages.specs.Plans.{changed_places, dropped}
use Rattle.slot_store.specs.declared.errors.StoreFault.{StoreFault}
use Rattle.slot_store.specs.declared.pager.Pager.{Pager}
use Rattle.slot_store.specs.Areas.{Area}
use Rattle.slot_store.specs.Records.{stored_record}
use Rattle.slot_store.specs.Stops.{IsStopped, retiring}
use Rattle.slot_store.specs.Layout.{free_in, next_mark, pages_held, table_for}
use Rattle.slot_store.specs.Pager.{Awaits, IsLaidFor, content, has_replaced, mark, store_seen}
use Rattle.slot_store.specs.Reading.{IsUndamaged}
use Rattle.slot_store.specs.Store.{IsOldOrNew, KeepsOutsideArea, ReadsOutsideArea, Rests, SlotStore}

-- the call that failed
abbrev pub call_of : StoreFault → Call
call_of fault = fault.call

-- how many writes and syncs the next retire makes
unfoldable pub retire_calls : Pager → ℕ
retire_calls pager = retiring pager.replaced (length pager.draft.plan.dropped.items)

-- which kind of call of that retire comes next, once this many have passed
unfoldable pub retire_kind : Pager → ℕ → Call
retire_kind pager passed = retire_call (length pager.draft.plan.dropped.items) passed

-- While one record takes another's place each crash leaves the one or the other, and outside of
-- the area a read gives what it gave. After a call that failed: which of the two there is.
pub record Replaces {T E : Type 0} (area : Area) (old new : Option (List ℕ))
    (start now : DiskState) (result : Result T E) : Type 0 where
  pub any_moment : Span start now (IsOldOrNew start area old new)
  pub reads : ReadsOutsideArea area start now
  pub stopped : OnErr result (IsStopped area old new start now)

-- a pager of the same area, whose record is this text and lies where the next one does
pub record IsNext (old new : SlotStore) (text : List ℕ) : Type 0 where
  pub area : new.area ≡ old.area
  pub mark : new.mark ≡ next_mark old.area old.content old.mark text

-- a pager in whose memory a text has taken the place of the record
pub record IsStaged (old new : Pager) (text : List ℕ) : Type 0 where
  pub next : IsNext (store_seen old) (store_seen new) text
  pub holds : content new ≡ Some text
  pub replaced : has_replaced new ≡ is_some (content old)
  -- what is to be written, and what is to be wiped
  pub free : new.draft.free.items ≡ free_in old.area old.kept.numbers.items
  pub places : new.draft.plan.places.items ≡ changed_places 0 (pages_held (content old)) (pages_in text)
  pub dropped : new.draft.plan.dropped.items
      ≡ dropped (pages_held (content old)) old.kept.numbers.items (pages_in text)
  pub body : new.draft.body.items ≡ table_for (mark new) text

-- each image has the text, which was put and not yet retired
abbrev pub HasPut : Pager → Pager → List ℕ → DiskState → List ℕ → Type 0
HasPut old new text start c = Awaits new c × (stored_record new.area c ≡ Some text) × KeepsOutsideArea old.area start c

-- the pager's record, at rest
abbrev pub HasRested : Pager → Pager → DiskState → List ℕ → Type 0
HasRested old new start c = IsLaidFor new c × (stored_record new.area c ≡ content new) × KeepsOutsideArea old.area start c

-- the pager's record, read without damage
abbrev pub KeepsRecord : Pager → DiskState → List ℕ → Type 0
KeepsRecord pager start c = (stored_record pager.area c ≡ content pager) × KeepsOutsideArea pager.area start c × IsUndamaged pager.area c

-- each image has the text, at rest
abbrev pub HasReplaced : SlotStore → SlotStore → List ℕ → DiskState → List ℕ → Type 0
HasReplaced old new text start c = Rests new c × (stored_record new.area c ≡ Some text) × KeepsOutsideArea old.area start c

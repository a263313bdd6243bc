-- How many calls a record's change makes, of which kind each is, and what stands where one of them failed.
use Rattle.std.specs.Prelude.{◌≡◌, ℕ, ◌+◌, ◌-◌, Bool, true, false, nat_lt, List, length, Option, Some, is_some, if◌then◌else◌}
use Rattle.dr_disk.specs.declared.call.Call.{Call}
use Rattle.dr_disk.specs.declared.call.Mode.{Mode}
use Rattle.dr_disk.specs.State.{DiskState}
use Rattle.pages.specs.Stops.{put_call, puts, retire_call, retires, put_shows as page_shows, put_took as page_took}
use Rattle.record_pages.specs.Plans.{changed}
use Rattle.slot_store.specs.Areas.{Area}
use Rattle.slot_store.specs.Layout.{pages_held}
use Rattle.slot_store.specs.Records.{stored_record}

-- c, the pages that are written: those of the new record that the old one doesn't have at their place
unfoldable pub writes_of : Option (List ℕ) → Option (List ℕ) → ℕ
writes_of old new = length (changed (pages_held old) (pages_held new))

-- d, the pages that are wiped: those of the old record that the new one doesn't have at their place
abbrev pub wipes_of : Option (List ℕ) → Option (List ℕ) → ℕ
wipes_of old new = writes_of new old

-- how many writes and syncs a retire makes that wipes so many pages, by whether a record was replaced
abbrev pub retiring : Bool → ℕ → ℕ
retiring true n = retires n
retiring false n = 0

-- how many writes and syncs it takes to put a record in place of another
abbrev pub putting : Option (List ℕ) → Option (List ℕ) → ℕ
putting old new = puts (writes_of old new)

-- how many writes and syncs it takes to replace a record by another
unfoldable pub calls_of : Option (List ℕ) → Option (List ℕ) → ℕ
calls_of old new = putting old new + retiring (is_some old) (wipes_of old new)

-- which kind of call of a replacement comes next, once this many writes and syncs have passed
unfoldable pub call_after : Option (List ℕ) → Option (List ℕ) → ℕ → Call
call_after old new passed =
    if nat_lt passed (putting old new) then put_call (writes_of old new) passed
    else retire_call (wipes_of old new) (passed - putting old new)

-- whether a crash of a kind leaves the new record, where this many writes and syncs passed and the next one failed
unfoldable pub took : Option (List ℕ) → Option (List ℕ) → ℕ → Mode → Bool
took old new n mode = page_took (writes_of old new) n mode

-- whether a read gives the new record then, on a disk on which a write that fails leaves what reads give
unfoldable pub shows : Option (List ℕ) → Option (List ℕ) → ℕ → Bool
shows old new n = page_shows (writes_of old new) n

-- After a call that failed while a record was being replaced: what a crash leaves, and what a read gives.
pub record IsStopped (area : Area) (old new : Option (List ℕ)) (start now : DiskState) : Type 0 where
  pub crash : (l m : ℕ) (mode : Mode) (c : List ℕ) → start.passed ≡ Some l → now.passed ≡ Some m → now.leaves mode ≡ Some c
      → stored_record area c ≡ (if took old new (m - l) mode then new else old)
  pub read : start.keeps ≡ true → (l m : ℕ) (s : List ℕ) → start.passed ≡ Some l → now.passed ≡ Some m → now.seen ≡ Some s
      → stored_record area s ≡ (if shows old new (m - l) then new else old)

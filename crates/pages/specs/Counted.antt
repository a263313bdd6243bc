-- How many writes and syncs are made at most.
use Rattle.std.specs.Prelude.{◌≡◌, ℕ, ◌+◌, ◌-◌, ◌≤◌, ◌==◌, if◌then◌else◌, Some, Result, Ok, Err}
use Rattle.dr_disk.specs.declared.call.Call.{Call}
use Rattle.dr_disk.specs.declared.call.Call.TheVariants.{Read, Write, Sync}
use Rattle.dr_disk.specs.State.{DiskState}
use Rattle.pages.specs.declared.layout.Layout.{Layout}
use Rattle.pages.specs.declared.layout.TheConstants.{OPEN}

-- No more reads than this many were made, where it is told.
pub record ReadsAtMost (n : ℕ) (start now : DiskState) : Type 0 where
  pub told : (m : ℕ) → now.reads ≡ Some m → (l : ℕ) × (start.reads ≡ Some l) × (m ≤ l + n)

-- how far the disk has to be looked at is asked once, and each page is read once
abbrev pub lookings : Layout → ℕ
lookings l = 1 + (l.count - l.least)

-- how many of a call that failed are a write or a sync
abbrev pub one_of : Call → ℕ
one_of Read = 0
one_of Write = 1
one_of Sync = 1

-- how many writes and syncs failed, by how many of them an error tells
abbrev pub missed : {T E : Type 0} → (E → ℕ) → Result T E → ℕ
missed failed (Ok x) = 0
missed failed (Err e) = failed e

-- No more writes and syncs than this many were made, the one that failed among them, where it is
-- told how many passed.
pub record MakesAtMost {T E : Type 0} (n : ℕ) (failed : E → ℕ) (start now : DiskState)
    (result : Result T E)
    : Type 0
  where
    pub told : (m : ℕ) → now.passed ≡ Some m
        → (l : ℕ) × (start.passed ≡ Some l) × (m + missed failed result ≤ l + n)

-- a gate that is open is closed, and that is synced
abbrev pub shuttings : ℕ → ℕ
shuttings gate = if gate == OPEN then 2 else 0

-- a gate that isn't 0 is cleared, and that is synced
abbrev pub clearings : ℕ → ℕ
clearings gate = if gate == 0 then 0 else 2

-- One gate is closed or cleared with a sync, zeros are written after it, each page is wiped once,
-- and a sync makes that last.
abbrev pub tidyings : Layout → ℕ
tidyings l = 2 + 1 + (l.count - l.least) + 1

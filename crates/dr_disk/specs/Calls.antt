-- What one call of a disk does.
use Rattle.std.specs.Prelude.{◌≡◌, ℕ, ◌+◌, ◌≤◌, ◌==◌, List, length, Option, Some, None, Result, OnOk, OnErr, is_ok, Bool, true, false, zero, suc, replicate, if◌then◌else◌}
use Rattle.dr_base.specs.Causes.{Rose}
use Rattle.dr_disk.specs.declared.call.Call.{Call}
use Rattle.dr_disk.specs.declared.call.Mode.{Mode}
use Rattle.dr_disk.specs.declared.call.Mode.TheVariants.{Old, New, Fill}
use Rattle.dr_disk.specs.Bytes.{Torn, overwritten, overwritten_told}
use Rattle.dr_disk.specs.State.{DiskState, Fate, untold_fate, all_pass, some_pass, all_but, to_failure}
use Rattle.dr_disk.specs.Spans.{HavePassed, IsQuiet, ReadsOutside}

-- A call fails only where the count of its own kind rose, and no count rose where it passes.
pub record HasFault {T E : Type 0} (call : Call) (a b : DiskState) (result : Result T E) : Type 0 where
  pub failed : OnErr result (Rose (a.faults call) (b.faults call))
  pub quiet : OnOk result (IsQuiet a b)

-- no byte is written
pub record Unwritten (a b : DiskState) : Type 0 where
  pub seen : b.seen ≡ a.seen
  pub images : (c : List ℕ) → b.image c → a.image c

-- each image is an earlier one, torn in that range, and so is what a read gives
pub record WrittenIn (at n : ℕ) (a b : DiskState) : Type 0 where
  pub images : (c : List ℕ) → b.image c → (d : List ℕ) × a.image d × Torn at n d c
  pub seen : ReadsOutside at n a b

-- what a read gave, with these bytes from that place on
abbrev pub IsWrittenOver : DiskState → ℕ → List ℕ → List ℕ → Type 0
IsWrittenOver start at bytes c = (s : List ℕ) × (start.seen ≡ Some s) × (c ≡ overwritten s at bytes)

-- what a crash of a kind leaves once these bytes were asked for at that place, by a write that passed or failed
abbrev pub written_by : Mode → ℕ → List ℕ → List ℕ → List ℕ
written_by Old at bytes c = c
written_by New at bytes c = overwritten c at bytes
written_by (Fill byte) at bytes c = overwritten c at (replicate (length bytes) byte)

abbrev pub LeavesWritten : ℕ → List ℕ → DiskState → DiskState → Type 0
LeavesWritten at bytes a b = (mode : Mode) (c : List ℕ) → b.leaves mode ≡ Some c
    → (d : List ℕ) × (a.leaves mode ≡ Some d) × (c ≡ written_by mode at bytes d)

abbrev pub LeavesSame : DiskState → DiskState → Type 0
LeavesSame a b = (mode : Mode) (c : List ℕ) → b.leaves mode ≡ Some c → a.leaves mode ≡ Some c

-- whether the next write or sync passes, where it is told
abbrev pub passes_next : Fate → Option Bool
passes_next untold_fate = None
passes_next all_pass = Some true
passes_next (some_pass zero) = Some false
passes_next (some_pass (suc n)) = Some true
passes_next (all_but zero) = Some false
passes_next (all_but (suc n)) = Some true

-- whether a read passes, where it is told: of one call that fails it is a write or a sync
abbrev pub read_passes : Fate → Option Bool
read_passes untold_fate = None
read_passes all_pass = Some true
read_passes (some_pass zero) = Some false
read_passes (some_pass (suc n)) = Some true
read_passes (all_but n) = Some true

abbrev pub after_call : Fate → Fate
after_call untold_fate = untold_fate
after_call all_pass = all_pass
after_call (some_pass zero) = some_pass zero
after_call (some_pass (suc n)) = some_pass n
after_call (all_but zero) = all_pass
after_call (all_but (suc n)) = all_but n

-- where a call is told to fail at a, b tells how many have passed
abbrev pub TellsPassed : DiskState → DiskState → Type 0
TellsPassed a b = (n : ℕ) → to_failure a.fate ≡ Some n → (m : ℕ) × (b.passed ≡ Some m)

-- a write or a sync passes or fails as was told, and is counted where it passes
pub record Goes {T E : Type 0} (a b : DiskState) (result : Result T E) : Type 0 where
  pub passed : OnOk result (HavePassed 1 a b)
  pub failed : OnErr result (b.passed ≡ a.passed)
  pub keeps : b.keeps ≡ a.keeps
  pub fate : b.fate ≡ after_call a.fate
  pub counted : TellsPassed a b
  pub told : (passes : Bool) → passes_next a.fate ≡ Some passes → is_ok result ≡ passes

-- one read more was made, passed or failed
abbrev pub HasRead : DiskState → DiskState → Type 0
HasRead a b = (m : ℕ) → b.reads ≡ Some m → (l : ℕ) × (a.reads ≡ Some l) × (m ≡ l + 1)

-- no read was made
abbrev pub HasNotRead : DiskState → DiskState → Type 0
HasNotRead a b = b.reads ≡ a.reads

-- a read, which isn't counted among the calls that pass
pub record ReadGoes {T E : Type 0} (a b : DiskState) (result : Result T E) : Type 0 where
  pub passed : b.passed ≡ a.passed
  pub keeps : b.keeps ≡ a.keeps
  pub fate : b.fate ≡ a.fate
  pub counted : TellsPassed a b
  pub leaves : LeavesSame a b
  pub told : (passes : Bool) → read_passes a.fate ≡ Some passes → is_ok result ≡ passes

-- A write with its sync, of which one failed: with none or one of them passed, what a crash and a read give.
pub record IsCut (at : ℕ) (bytes : List ℕ) (a b : DiskState) : Type 0 where
  pub leaves : LeavesWritten at bytes a b
  pub passed : (m : ℕ) → b.passed ≡ Some m → (l : ℕ) × (a.passed ≡ Some l) × (l ≤ m) × (m ≤ l + 1)
  pub reads : a.keeps ≡ true → (l m : ℕ) → a.passed ≡ Some l → b.passed ≡ Some m
      → b.seen ≡ (if m == l then a.seen else overwritten_told a.seen at bytes)

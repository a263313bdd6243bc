-- How the calls went of a function that makes several.
use Rattle.std.specs.Prelude.{◌≡◌, ℕ, ◌+◌, ◌<◌, Some, Result, IsOk, IfErr, OnOk, OnErr}
use Rattle.dr_base.specs.Causes.{Rose}
use Rattle.dr_disk.specs.declared.call.Call.{Call}
use Rattle.dr_disk.specs.State.{DiskState, all_pass}
use Rattle.dr_disk.specs.Spans.{FailsLater, HasFailedAsTold, HavePassed, IsQuiet}

-- where an error is the call that failed
abbrev pub itself : Call → Call
itself call = call

-- However many they were: an error's call failed and was the last, and where there is none no call failed.
pub record Went {T E : Type 0} (call_of : E → Call) (start now : DiskState) (result : Result T E) : Type 0 where
  pub ended : OnErr result (HasFailedAsTold start now)
  pub ahead : OnOk result (FailsLater start now)
  pub fate : start.fate ≡ all_pass → IsOk result × (now.fate ≡ all_pass)
  pub quiet : OnOk result (IsQuiet start now)
  pub fault : IfErr result (λ e. Rose (start.faults (call_of e)) (now.faults (call_of e)))

-- This many writes and syncs, all of which passed, or fewer.
pub record Called {T E : Type 0} (n : ℕ) (call_of : E → Call) (start now : DiskState) (result : Result T E) : Type 0 where
  pub passed : OnOk result (HavePassed n start now)
  pub few : OnErr result ((l m : ℕ) → start.passed ≡ Some l → now.passed ≡ Some m → m < l + n)
  pub went : Went call_of start now result

-- Calls that read alone.
use Rattle.std.specs.Prelude.{ℕ, Result, IfOk}
use Rattle.dr_disk.specs.declared.call.Call.{Call}
use Rattle.dr_disk.specs.State.{DiskState}
use Rattle.pages.specs.Runs.{ReadsAlone}

-- nothing is called but reads, no more than this many, and this is so of what is answered
pub record Finds {T : Type 0} (n : ℕ) (IsFound : DiskState → T → Type 0) (start now : DiskState)
    (result : Result T Call) : Type 0 where
  pub found : IfOk result (IsFound start)
  pub looks : ReadsAlone n start now result

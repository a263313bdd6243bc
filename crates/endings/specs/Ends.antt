-- What a run wrote, and the status that it ended with.
use Rattle.std.specs.Prelude.{◌≡◌, ◌⊎◌, ℕ, List, ◌++◌}
use Rattle.dr_ports.specs.Ports.{Rose, appended}
use Rattle.dr_ports.specs.States.{SinkState}
use Rattle.dr_ports.specs.Writing.{TookBeginning}
use Rattle.endings.specs.declared.ending.Ending.{Ending}
use Rattle.endings.specs.Ending.{code_of, last_line}

-- all the lines were written and the ending's last line after them, no write failed, and the status is the ending's
pub record WroteAll (ending : Ending) (lines : List ℕ) (old new : SinkState) (code : ℕ)
    : Type 0 where
  pub code_is : code ≡ code_of ending
  pub wrote : new.taken ≡ appended old.taken (lines ++ last_line ending)
  pub quiet : new.faults ≡ old.faults

-- a write failed: a beginning of that was written, and the status is 5
pub record WasCut (ending : Ending) (lines : List ℕ) (old new : SinkState) (code : ℕ) : Type 0 where
  pub code_is : code ≡ 5
  pub wrote : TookBeginning old.taken new.taken (lines ++ last_line ending)
  pub rose : Rose old.faults new.faults

-- a run with these lines and this ending, up to a write that failed
abbrev pub Ends : Ending → List ℕ → SinkState → SinkState → ℕ → Type 0
Ends ending lines old new code = WroteAll ending lines old new code
    ⊎ WasCut ending lines old new code

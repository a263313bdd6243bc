-- What the command that shows the long text of an id comes to.
use Rattle.std.specs.Prelude.{List, ℕ}
use Rattle.dr_disk.specs.State.{DiskState}
use Rattle.endings.specs.declared.ending.Ending.{Ending}
use Rattle.kem_laws.specs.Mechanism.{Mechanism}
use Rattle.command_lines.specs.LongLines.{long_ending, long_lines}
use Rattle.session_commands.specs.Showing.{RunsTell}

-- its line is shown, as every list, or the command ends with why there is none
abbrev pub RunsLong : {X : Type 0} → (X → DiskState) → Mechanism → ℕ → X → X → Ending → List ℕ
    → Type 0
RunsLong state k id = RunsTell state k (long_ending id) (long_lines id)

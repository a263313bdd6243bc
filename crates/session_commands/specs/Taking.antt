-- What the command that takes a packet comes to.
use Rattle.std.specs.Prelude.{List, ℕ}
use Rattle.dr_disk.specs.State.{DiskState}
use Rattle.dr_ports.specs.States.{SourceState}
use Rattle.endings.specs.declared.ending.Ending.{Ending}
use Rattle.kem_laws.specs.Mechanism.{Mechanism}
use Rattle.command_lines.specs.Runs.{RunsTakeAt}
use Rattle.session_commands.specs.Disks.{client_place}

abbrev pub RunsTake : {X : Type 0} → (X → DiskState) → Mechanism → SourceState → SourceState
    → X → X → Ending → List ℕ → Type 0
RunsTake state k = RunsTakeAt (client_place k) state k

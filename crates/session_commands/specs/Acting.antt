-- What a command that lets the client act once comes to.
use Rattle.std.specs.Prelude.{List, ℕ}
use Rattle.dr_base.specs.declared.position.Side.{Side}
use Rattle.dr_disk.specs.State.{DiskState}
use Rattle.dr_model.specs.Machines.Worlds.{World}
use Rattle.endings.specs.declared.ending.Ending.{Ending}
use Rattle.kem_laws.specs.Mechanism.{Mechanism}
use Rattle.command_lines.specs.Acting.{ActedAt, ClientAsk}
use Rattle.command_lines.specs.InWorlds.{RunsActAt, RunsInPlace}
use Rattle.session_commands.specs.Disks.{client_place}

-- exactly
abbrev pub Acted : {X : Type 0} → (X → DiskState) → Mechanism → ClientAsk → X → X → Ending
    → List ℕ → Type 0
Acted state k = ActedAt (client_place k) state k

-- in a world that the disk reads at entry
abbrev pub RunsIn : Mechanism → World → Side → ClientAsk → DiskState → DiskState → Ending
    → List ℕ → Type 0
RunsIn k = RunsInPlace (client_place k) k

-- and both
abbrev pub RunsAct : {X : Type 0} → (X → DiskState) → Mechanism → ClientAsk → X → X → Ending
    → List ℕ → Type 0
RunsAct state k = RunsActAt (client_place k) state k

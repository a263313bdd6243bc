-- What a command that shows what the client keeps comes to.
use Rattle.std.specs.Prelude.{List, ℕ}
use Rattle.dr_base.specs.declared.position.Side.{Side}
use Rattle.dr_disk.specs.State.{DiskState}
use Rattle.dr_model.specs.Machines.Worlds.{World}
use Rattle.endings.specs.declared.ending.Ending.{Ending}
use Rattle.kem_laws.specs.Mechanism.{Mechanism}
use Rattle.session_model.specs.Clients.{Client}
use Rattle.command_lines.specs.Showing.{RunsShowAt, RunsTellAt, ShownAt, ShowsInPlace}
use Rattle.session_commands.specs.Disks.{client_place}

-- exactly
abbrev pub Shown : {X : Type 0} → (X → DiskState) → Mechanism → (Client → List ℕ) → X → X
    → Ending → List ℕ → Type 0
Shown state k = ShownAt (client_place k) state k

-- in a world that the disk reads at entry
abbrev pub ShowsIn : Mechanism → World → Side → (Client → List ℕ) → DiskState → DiskState
    → Ending → List ℕ → Type 0
ShowsIn k = ShowsInPlace (client_place k) k

-- and both
abbrev pub RunsShow : {X : Type 0} → (X → DiskState) → Mechanism → (Client → List ℕ) → X → X
    → Ending → List ℕ → Type 0
RunsShow state k = RunsShowAt (client_place k) state k

-- and of one whose ending hangs on what is kept
abbrev pub RunsTell : {X : Type 0} → (X → DiskState) → Mechanism → (Client → Ending)
    → (Client → List ℕ) → X → X → Ending → List ℕ → Type 0
RunsTell state k = RunsTellAt (client_place k) state k

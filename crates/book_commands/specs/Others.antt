-- What a command under a name leaves under every other one.
use Rattle.std.specs.Prelude.{List, ℕ, ◌≢◌}
use Rattle.dr_base.specs.declared.position.Side.{Side}
use Rattle.dr_disk.specs.State.{DiskState}
use Rattle.dr_model.specs.Machines.Worlds.{World}
use Rattle.kem_laws.specs.Mechanism.{Mechanism}
use Rattle.client.specs.Opening.{CellReadsAsSide, StandsInOpening}
use Rattle.book_commands.specs.Places.{name_cell}

-- in each world that the disk reads there: a crash meanwhile leaves what one might have left at
-- entry, or what stands for it, and a read gives what does
abbrev pub OthersStand : Mechanism → List ℕ → DiskState → DiskState → Type 0
OthersStand k name start now = (other : List ℕ) (w : World) (side : Side) → other ≢ name
    → CellReadsAsSide (name_cell k other) k w side start
    → StandsInOpening (name_cell k other) k w side start now

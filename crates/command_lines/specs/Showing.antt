-- What a command that shows what a session keeps comes to, before its last line.
use Rattle.std.specs.Prelude.{List, [], ℕ, ◌≡◌}
use Rattle.dr_base.specs.declared.position.Side.{Side}
use Rattle.dr_disk.specs.State.{DiskState}
use Rattle.dr_model.specs.Machines.WorldSides.{kept_in}
use Rattle.dr_model.specs.Machines.Worlds.{World}
use Rattle.dr_model.specs.Theorems.LawfulWorlds.{IsLawfulWorld}
use Rattle.endings.specs.declared.ending.Ending.{Ending}
use Rattle.endings.specs.declared.ending.Ending.TheVariants.{Done}
use Rattle.kem_laws.specs.Mechanism.{Mechanism}
use Rattle.session_model.specs.Clients.{Client}
use Rattle.client.specs.Opening.{CellReadsAsSide}
use Rattle.command_lines.specs.Places.{LeavesAsReadInCell, LeavesPlaceAtRest, Place, ReadsAsKeptInCell, RunsOnInCell, StandsOpen}

-- The moment behind which all is shown: the session is open, and no call on the disk comes after it.
-- The sink is as it was at entry then, since the lines are counted from there (`Runs`). The disk is a
-- value of the caller's own type, as those of `client` between two replies are: so the moment is one
-- at which such a disk stood.
pub record ShowsBehind (place : Place) {X : Type 0} (state : X → DiskState) (k : Mechanism)
    (kept : Client) (start now : X) : Type 0 where
  pub opened : X
  pub stands : StandsOpen place k kept (state start) (state opened)
  pub still : now ≡ opened

-- No session was found, or what was read is shown: the lines, and how the command ends with that.
pub data ToldAt (place : Place) {X : Type 0} (state : X → DiskState) (k : Mechanism)
    (ends : Client → Ending) (shows : Client → List ℕ) (start now : X)
    : Ending → List ℕ → Type 0 where
  wasnt_opened : (refusal : place.Refusal) → place.refused state start now refusal
      → LeavesAsReadInCell place.cell k (state start) (state now)
      → ToldAt place state k ends shows start now (place.ending refusal) []
  was_shown : (kept : Client) → ReadsAsKeptInCell place.cell k (state start) kept
      → ShowsBehind place state k kept start now
      → LeavesPlaceAtRest place k kept kept (state start) (state now)
      → ToldAt place state k ends shows start now (ends kept) (shows kept)

-- The same in a world: what the side keeps there.
pub data TellsInPlace (place : Place) (k : Mechanism) (w : World) (side : Side)
    (ends : Client → Ending) (shows : Client → List ℕ) (start now : DiskState)
    : Ending → List ℕ → Type 0 where
  shows_nothing : (refusal : place.Refusal) → RunsOnInCell place.cell k side w w start now
      → TellsInPlace place k w side ends shows start now (place.ending refusal) []
  shows_world : RunsOnInCell place.cell k side w w start now → place.rests (kept_in k w side) now
      → TellsInPlace place k w side ends shows start now (ends (kept_in k w side))
      (shows (kept_in k w side))

pub record RunsTellAt (place : Place) {X : Type 0} (state : X → DiskState) (k : Mechanism)
    (ends : Client → Ending) (shows : Client → List ℕ) (start now : X) (ending : Ending)
    (lines : List ℕ) : Type 0 where
  pub shown : ToldAt place state k ends shows start now ending lines
  pub in_worlds : (w : World) (side : Side) → IsLawfulWorld k w
      → CellReadsAsSide place.cell k w side (state start)
      → TellsInPlace place k w side ends shows (state start) (state now) ending lines

-- ---- a command that does its work whatever is kept

abbrev pub ShownAt : (place : Place) → {X : Type 0} → (X → DiskState) → Mechanism
    → (Client → List ℕ) → X → X → Ending → List ℕ → Type 0
ShownAt place state k = ToldAt place state k (λ kept. Done)

abbrev pub ShowsInPlace : (place : Place) → Mechanism → World → Side → (Client → List ℕ)
    → DiskState → DiskState → Ending → List ℕ → Type 0
ShowsInPlace place k w side = TellsInPlace place k w side (λ kept. Done)

abbrev pub RunsShowAt : (place : Place) → {X : Type 0} → (X → DiskState) → Mechanism
    → (Client → List ℕ) → X → X → Ending → List ℕ → Type 0
RunsShowAt place state k = RunsTellAt place state k (λ kept. Done)

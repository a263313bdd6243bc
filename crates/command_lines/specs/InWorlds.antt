-- What a command that lets a session act once comes to in a world that the disk reads at entry.
use Rattle.std.specs.Prelude.{List, [], ℕ, ◌≡◌}
use Rattle.dr_base.specs.declared.position.Side.{Side}
use Rattle.dr_disk.specs.State.{DiskState}
use Rattle.dr_model.specs.Machines.Acts.{Act}
use Rattle.dr_model.specs.Machines.WorldActs.{act_in}
use Rattle.dr_model.specs.Machines.WorldSides.{kept_in}
use Rattle.dr_model.specs.Machines.Worlds.{World}
use Rattle.dr_model.specs.Theorems.Acting.{IsFairAct}
use Rattle.dr_model.specs.Theorems.LawfulWorlds.{IsLawfulWorld}
use Rattle.endings.specs.declared.ending.Ending.{Ending}
use Rattle.endings.specs.declared.ending.Ending.TheVariants.{DiskFault, Done, DrawFault, Refused as EndsRefused}
use Rattle.kem_laws.specs.Mechanism.{Mechanism}
use Rattle.session_model.specs.declared.answer.Answer.TheVariants.{Refused}
use Rattle.session_model.specs.declared.answer.Refusal.{Refusal}
use Rattle.client.specs.Opening.{CellReadsAsSide}
use Rattle.command_lines.specs.Acting.{ActedAt, ClientAsk}
use Rattle.command_lines.specs.Closing.{printed_answer}
use Rattle.command_lines.specs.Places.{Place, RunsOnInCell}

-- The machine's answer to what is asked of the side, and the world before the act or the one after
-- it.
pub data RunsInPlace (place : Place) (k : Mechanism) (w : World) (side : Side) (asked : ClientAsk)
    (start now : DiskState) : Ending → List ℕ → Type 0 where
  stays_unopened : (refusal : place.Refusal) → RunsOnInCell place.cell k side w w start now
      → RunsInPlace place k w side asked start now (place.ending refusal) []
  stays_undrawn : asked.undrawn (kept_in k w side) → RunsOnInCell place.cell k side w w start now
      → place.rests (kept_in k w side) now
      → RunsInPlace place k w side asked start now DrawFault []
  stays_refused : (act : Act) (refusal : Refusal) → asked.acts (kept_in k w side) act
      → IsFairAct k w side act → (act_in k w side act).answer ≡ Refused refusal
      → RunsOnInCell place.cell k side w w start now → place.rests (kept_in k w side) now
      → RunsInPlace place k w side asked start now (EndsRefused refusal) []
  goes_on : (act : Act) → asked.acts (kept_in k w side) act → IsFairAct k w side act
      → RunsOnInCell place.cell k side w (act_in k w side act).next start now
      → place.rests (kept_in k (act_in k w side act).next side) now
      → RunsInPlace place k w side asked start now Done
      (printed_answer (act_in k w side act).answer)
  is_in_doubt : (act : Act) → asked.acts (kept_in k w side) act → IsFairAct k w side act
      → RunsOnInCell place.cell k side w (act_in k w side act).next start now
      → RunsInPlace place k w side asked start now DiskFault []

-- A command that lets a session act once: exactly, and in each world that the disk reads at entry.
pub record RunsActAt (place : Place) {X : Type 0} (state : X → DiskState) (k : Mechanism)
    (asked : ClientAsk) (start now : X) (ending : Ending) (lines : List ℕ) : Type 0 where
  pub acted : ActedAt place state k asked start now ending lines
  pub in_worlds : (w : World) (side : Side) → IsLawfulWorld k w
      → CellReadsAsSide place.cell k w side (state start) → asked.fair w side
      → RunsInPlace place k w side asked (state start) (state now) ending lines

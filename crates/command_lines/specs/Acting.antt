-- What a command that lets a session act once comes to, before its last line.
use Rattle.std.specs.Prelude.{Err, List, Ok, [], ℕ, ◌≡◌}
use Rattle.dr_base.specs.Causes.{Rose}
use Rattle.dr_base.specs.declared.position.Side.{Side}
use Rattle.dr_disk.specs.State.{DiskState}
use Rattle.dr_disk.specs.declared.call.Call.{Call}
use Rattle.dr_model.specs.Machines.Acts.{Act, act_on}
use Rattle.dr_model.specs.Machines.Steps.{Step}
use Rattle.dr_model.specs.Machines.Worlds.{World}
use Rattle.endings.specs.declared.ending.Ending.{Ending}
use Rattle.endings.specs.declared.ending.Ending.TheVariants.{DiskFault, Done, DrawFault, Refused}
use Rattle.kem_laws.specs.Mechanism.{Mechanism}
use Rattle.session_model.specs.Clients.{Client}
use Rattle.session_model.specs.declared.answer.Refusal.{Refusal}
use Rattle.command_lines.specs.Closing.{printed_answer}
use Rattle.command_lines.specs.Places.{LeavesAsReadInCell, LeavesEitherInCell, LeavesPlaceAtRest, Place, ReadsAsKeptInCell}

-- What a command asks of a session.
pub record ClientAsk : Type 1 where
  -- the act, by what is kept, with what is true of its draw
  pub acts : Client → Act → Type 0
  -- what is true where a seed was needed and none could be drawn
  pub undrawn : Client → Type 0
  -- what is true where no session was found
  pub idle : Type 0
  -- the premise on a world
  pub fair : World → Side → Type 0

-- How the command ends, with its lines. What is kept is what was read at entry.
pub data ActedAt (place : Place) {X : Type 0} (state : X → DiskState) (k : Mechanism)
    (asked : ClientAsk) (start now : X) : Ending → List ℕ → Type 0 where
  -- no session was found
  was_unopened : (refusal : place.Refusal) → place.refused state start now refusal
      → LeavesAsReadInCell place.cell k (state start) (state now)
      → asked.idle → ActedAt place state k asked start now (place.ending refusal) []
  -- no seed could be drawn
  was_undrawn : (kept : Client) → ReadsAsKeptInCell place.cell k (state start) kept
      → asked.undrawn kept → LeavesPlaceAtRest place k kept kept (state start) (state now)
      → ActedAt place state k asked start now DrawFault []
  -- the act is refused, and nothing was changed
  was_refused : (kept : Client) (act : Act) (refusal : Refusal)
      → ReadsAsKeptInCell place.cell k (state start) kept → asked.acts kept act
      → act_on k kept act ≡ Err refusal
      → LeavesPlaceAtRest place k kept kept (state start) (state now)
      → ActedAt place state k asked start now (Refused refusal) []
  -- it was done, and its answer is shown
  was_done : (kept : Client) (act : Act) (made : Step Client)
      → ReadsAsKeptInCell place.cell k (state start) kept → asked.acts kept act
      → act_on k kept act ≡ Ok made
      → LeavesPlaceAtRest place k kept made.next (state start) (state now)
      → ActedAt place state k asked start now Done (printed_answer made.answer)
  -- a call on the disk failed in it, of this kind
  was_cut : (kept : Client) (act : Act) (made : Step Client) (call : Call)
      → ReadsAsKeptInCell place.cell k (state start) kept → asked.acts kept act
      → act_on k kept act ≡ Ok made
      → LeavesEitherInCell place.cell k kept made.next (state start) (state now)
      → Rose ((state start).faults call) ((state now).faults call)
      → ActedAt place state k asked start now DiskFault []

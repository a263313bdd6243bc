-- A command that shows what a side keeps is a run, and so is a crash in it.
use Rattle.std.proofs.Common.{List, [], refl, ℕ, ◌≡◌}
use Rattle.dr_base.specs.declared.position.Side.{Side}
use Rattle.dr_disk.specs.State.{DiskState}
use Rattle.dr_model.specs.Machines.WorldSides.{kept_in}
use Rattle.dr_model.specs.Machines.Worlds.{World}
use Rattle.dr_ports.specs.States.{DrawsState}
use Rattle.endings.specs.declared.ending.Ending.{Ending}
use Rattle.endings.specs.declared.ending.Ending.TheVariants.{Done}
use Rattle.kem_laws.specs.Mechanism.{Mechanism}
use Rattle.session_model.specs.Clients.{Client}
use Rattle.client.specs.Moments.{IsAmongKnown, Known, settled_in}
use Rattle.command_lines.specs.Showing.{TellsInPlace, shows_nothing, shows_world}
use Rattle.session_commands.specs.Disks.{client_place}
use Rattle.session_commands.specs.Opening.{ending_of_open}
use Rattle.session_commands.specs.WholeRuns.{IsCutFrom, Ran, showed, was_cut_showing}
use Rattle.session_commands.proofs.Talks.{unopened_undone}
use Rattle.conversation.specs.Joints.{Joint, known_in}
use Rattle.conversation.specs.Shown.{IsShown}
use Rattle.conversation.proofs.Counts.{none_cut}

module _ (k : Mechanism) (side : Side) (shows : Client → List ℕ) (ending : Ending)
    (lines : List ℕ) where
  -- with `Done`, what the side keeps in the world that is known then was shown
  abbrev pub ShowsKnown : Known → Type 0
  ShowsKnown known = ending ≡ Done
      → (lines ≡ shows (kept_in k known.last side)) × (known.doubtful ≡ [])

  pub is_shown : (j : Joint) → ShowsKnown (known_in k side j)
      → ending ≡ Done → IsShown k side j shows lines
  is_shown j known is =
      let has = known is in record { printed = has.0; settled = none_cut k side j has.1 }

module _ {X W : Type 0} (state : X → DiskState) (draws : W → DrawsState) (k : Mechanism)
    (side : Side) (known : Known) (v : World) (which : IsAmongKnown known v) (a b : X)
    (ends : Client → Ending) (shows : Client → List ℕ) where
  pub shown_ran : (ending : Ending) (lines : List ℕ)
      → TellsInPlace (client_place k) k v side ends shows (state a) (state b) ending lines
      → (later : Known) × Ran state draws k side a b known later
      × ShowsKnown k side shows ending lines later
  shown_ran _ _ (shows_nothing refusal on) = (
    known,
    showed known v which shows (ending_of_open refusal) [] (shows_nothing refusal on),
    λ is. absurd (unopened_undone refusal is),
  )
  shown_ran _ _ (shows_world on rests) = (
    settled_in v,
    showed known v which shows Done (shows (kept_in k v side)) (shows_world on rests),
    λ is. (refl, refl),
  )

  pub shown_cut : (crashed : X) → IsCutFrom (state a) (state b) (state crashed)
      → (ending : Ending) (lines : List ℕ)
      → TellsInPlace (client_place k) k v side ends shows (state a) (state b) ending lines
      → Ran state draws k side a crashed known known
  shown_cut crashed leaves _ _ (shows_nothing refusal on) =
      was_cut_showing known v which shows b (ending_of_open refusal) [] (shows_nothing refusal on)
      leaves
  shown_cut crashed leaves _ _ (shows_world on rests) =
      was_cut_showing known v which shows b Done (shows (kept_in k v side)) (shows_world on rests)
      leaves

-- A command that found no session.
use Rattle.std.proofs.Common.{List, Some, [], ℕ, ◌≡◌}
use Rattle.dr_base.specs.declared.position.Side.{Side}
use Rattle.dr_disk.specs.Spans.{Span}
use Rattle.dr_disk.specs.State.{DiskState}
use Rattle.dr_model.specs.Machines.Worlds.{World}
use Rattle.dr_model.specs.Theorems.LawfulWorlds.{IsLawfulWorld}
use Rattle.endings.specs.declared.ending.Ending.{Ending}
use Rattle.kem_laws.specs.Mechanism.{Mechanism}
use Rattle.session_model.specs.Clients.{Client}
use Rattle.client.specs.Opening.{CellReadsAsSide, IsAsReadInCell, IsEntryOrAsReadInCell, StandsInOpening}
use Rattle.command_lines.specs.Acting.{ClientAsk, was_unopened}
use Rattle.command_lines.specs.InWorlds.{RunsActAt, stays_unopened}
use Rattle.command_lines.specs.Places.{Place}
use Rattle.command_lines.specs.Showing.{RunsTellAt, shows_nothing, wasnt_opened}
use Rattle.command_lines.proofs.Standing.{only_opened}

module _ {X : Type 0} (place : Place) (state : X → DiskState) (k : Mechanism) (start now : X) (refusal : place.Refusal)
    (why : place.refused state start now refusal)
    (opening : Span (state start) (state now) (IsEntryOrAsReadInCell place.cell k (state start)))
    (reads : (s : List ℕ) → (state now).seen ≡ Some s → IsAsReadInCell place.cell k (state start) s)
    (in_worlds : (w : World) (side : Side) → IsLawfulWorld k w → CellReadsAsSide place.cell k w side (state start)
    → StandsInOpening place.cell k w side (state start) (state now)) where
  pub unopened_runs : (asked : ClientAsk) → asked.idle → RunsActAt place state k asked start now (place.ending refusal) []
  unopened_runs asked idle = record {
    acted = was_unopened refusal why (record { any_moment = opening; reads = reads }) idle;
    in_worlds = λ w side lawful stands fair.
        stays_unopened refusal (only_opened place.cell k side w (state start) (state now) (in_worlds w side lawful stands) opening reads);
  }

  pub unopened_shows : (ends : Client → Ending) (shows : Client → List ℕ)
      → RunsTellAt place state k ends shows start now (place.ending refusal) []
  unopened_shows ends shows = record {
    shown = wasnt_opened refusal why (record { any_moment = opening; reads = reads });
    in_worlds = λ w side lawful stands.
        shows_nothing refusal (only_opened place.cell k side w (state start) (state now) (in_worlds w side lawful stands) opening reads);
  }

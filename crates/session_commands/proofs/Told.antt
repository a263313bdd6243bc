-- A command that shows something of what is kept, whether a client was opened or not.
use Rattle.std.proofs.Common.{Err, List, Ok, Some, [], inl, refl, subst, sym, ℕ, ◌∙◌, ◌≡◌, ◌≤◌, ◌⊎◌}
use Rattle.dr_base.specs.declared.position.Side.{Side}
use Rattle.dr_disk.specs.Spans.{IsQuiet, Span}
use Rattle.dr_disk.specs.State.{DiskState, IsLawful}
use Rattle.dr_disk.proofs.Steps.{stays}
use Rattle.dr_model.specs.Machines.Worlds.{World}
use Rattle.dr_model.specs.Theorems.LawfulWorlds.{IsLawfulWorld}
use Rattle.dr_ports.specs.States.{SinkState}
use Rattle.endings.specs.Ends.{Ends}
use Rattle.endings.specs.declared.ending.Ending.{Ending}
use Rattle.endings.specs.declared.ending.Ending.TheVariants.{NoMemory}
use Rattle.kem_laws.specs.Mechanism.{Mechanism}
use Rattle.session_model.specs.Clients.{Client}
use Rattle.slot_store.specs.AtRest.{IsReadAtRest}
use Rattle.slot_store.proofs.Outside.{self_outside}
use Rattle.client.specs.Clients.{ClientNow, client_area}
use Rattle.client.specs.InWorlds.{StandsFor}
use Rattle.client.specs.Keepings.{client_keeping}
use Rattle.client.specs.Opening.{IsAsRead, IsClientOpened, IsEntryOrAsRead, IsLeftAtRest, IsReadNewest, IsUnopened, OpensIn, ReadsAsSide, StandsInOpening}
use Rattle.client.specs.Cells.{client_cell}
use Rattle.client.specs.declared.refusals.OpenRefusal.{OpenRefusal}
use Rattle.client.specs.declared.refusals.OpenRefusal.TheVariants.{Memory}
use Rattle.command_lines.specs.Runs.{RunsAndCounts}
use Rattle.command_lines.proofs.Counting.{show_counts}
use Rattle.command_lines.proofs.Shows.{shown_runs}
use Rattle.command_lines.proofs.Unopened.{unopened_shows}
use Rattle.session_commands.specs.Disks.{client_place}
use Rattle.session_commands.specs.Opening.{ending_of_open}
use Rattle.session_commands.specs.Showing.{RunsTell}
use Rattle.session_commands.proofs.Opened.{client_fits, opened_at, opens_at, stands_at}
use Rattle.session_commands.proofs.Quiet.{open_code}

module _ {X : Type 0} (state : X → DiskState) (k : Mechanism) (ends : Client → Ending) (shows : Client → List ℕ)
    (start now : X) (old new : SinkState) (code : ℕ) where
  abbrev pub Tells : Type 0
  Tells = RunsAndCounts (RunsTell state k ends shows start now) (IsQuiet (state start) (state now)) old new code

  unopened_by : (refusal : OpenRefusal) → IsUnopened state k start now refusal
      → Span (state start) (state now) (IsEntryOrAsRead k (state start))
      → ((s : List ℕ) → (state now).seen ≡ Some s → IsAsRead k (state start) s)
      → ((w : World) (side : Side) → IsLawfulWorld k w → ReadsAsSide k w side (state start)
      → StandsInOpening client_cell k w side (state start) (state now))
      → (ending : Ending) → ending ≡ ending_of_open refusal → Ends ending [] old new code → old.faults ≤ new.faults → Tells
  unopened_by refusal why opening reads in_worlds ending same written later =
      show_counts (client_place k) open_code state k start now ends shows old new code
      (record {
        ending = ending;
        lines = [];
        came =
            subst (λ e. RunsTell state k ends shows start now e []) (sym same)
            (unopened_shows (client_place k) state k start now refusal why opening reads in_worlds ends shows);
        ends = written;
      }) later

  -- none was opened
  pub tells_unopened : (refusal : OpenRefusal) → IsUnopened state k start now refusal
      → Span (state start) (state now) (IsEntryOrAsRead k (state start))
      → ((s : List ℕ) → (state now).seen ≡ Some s → IsAsRead k (state start) s)
      → ((w : World) (side : Side) → IsLawfulWorld k w → ReadsAsSide k w side (state start)
      → OpensIn k w side (state start) (state now) (Err refusal))
      → (ending : Ending) → ending ≡ ending_of_open refusal → Ends ending [] old new code → old.faults ≤ new.faults → Tells
  tells_unopened refusal why opening reads in_worlds =
      unopened_by refusal why opening reads
      (λ w side lawful stands. stands_at k w side (state start) (state now) (Err refusal) (in_worlds w side lawful stands))

  -- one was, and what it keeps is told
  pub tells_opened : IsLawful (state now) → (client : ClientNow) → IsClientOpened k client (state start) (state now)
      → Span (state start) (state now) (IsEntryOrAsRead k (state start))
      → (IsReadAtRest client_area (state start) → IsReadNewest (state start) → IsLeftAtRest (state start) (state now) (Ok client))
      → ((w : World) (side : Side) → IsLawfulWorld k w → ReadsAsSide k w side (state start)
      → OpensIn k w side (state start) (state now) (Ok client))
      → Ends (ends client.kept) (shows client.kept) old new code → old.faults ≤ new.faults → Tells
  tells_opened lawful client opened opening still in_worlds written later =
      show_counts (client_place k) open_code state k start now ends shows old new code
      (record {
        ending = ends client.kept;
        lines = shows client.kept;
        came =
            shown_runs (client_place k) client_keeping state k ends shows start now lawful client (client_fits k client)
            (opened_at k client (state start) (state now) opened) opening (λ rests. (still rests.0 rests.1).one_sync)
            (λ w side lawful_world stands. opens_at k w side client (state start) (state now) (in_worlds w side lawful_world stands));
        ends = written;
      }) later

-- what is read stays so where nothing is called
stands_still : (k : Mechanism) (w : World) (side : Side) (disk : DiskState) → ReadsAsSide k w side disk
    → StandsInOpening client_cell k w side disk disk
stands_still k w side disk is = record {
  any_moment = stays disk (λ c. disk.image c ⊎ StandsFor k w side c);
  reads = λ s told.
      let same : is.bytes ≡ s = let e : Some is.bytes ≡ Some s = sym is.told ∙ told in cc in
      subst (StandsFor k w side) same is.stands;
}

-- memory was wanting before a client was opened
pub tells_without_memory : {X : Type 0} (state : X → DiskState) (k : Mechanism) (ends : Client → Ending) (shows : Client → List ℕ)
    (start : X) (old new : SinkState) (code : ℕ) → Ends NoMemory [] old new code → old.faults ≤ new.faults
    → Tells state k ends shows start start old new code
tells_without_memory state k ends shows start old new code written later =
    unopened_by state k ends shows start start old new code Memory refl
    (stays (state start) (IsEntryOrAsRead k (state start)))
    (λ s told. record { read = s; told = told; same = inl refl; undamaged = λ is. is; outside = self_outside client_area s })
    (λ w side lawful stands. stands_still k w side (state start) stands)
    NoMemory refl written later

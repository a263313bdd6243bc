-- A command that shows what a session keeps.
use Rattle.std.proofs.Common.{List, refl, subst, sym, ℕ}
use Rattle.dr_base.specs.declared.position.Side.{Side}
use Rattle.dr_disk.specs.Spans.{HavePassed, Span}
use Rattle.dr_disk.specs.State.{DiskState, IsLawful}
use Rattle.dr_model.specs.Machines.Worlds.{World}
use Rattle.dr_model.specs.Theorems.LawfulWorlds.{IsLawfulWorld}
use Rattle.endings.specs.declared.ending.Ending.{Ending}
use Rattle.kem_laws.specs.Mechanism.{Mechanism}
use Rattle.session_model.specs.Clients.{Client}
use Rattle.client.specs.Keepings.{Keeping}
use Rattle.client.specs.Opening.{CellReadsAsSide, IsEntryOrAsReadInCell}
use Rattle.command_lines.specs.Places.{IsOpenedAt, Place}
use Rattle.command_lines.specs.Showing.{RunsTellAt, TellsInPlace, shows_world, was_shown}
use Rattle.command_lines.proofs.Acts.{OpensInPlace}
use Rattle.command_lines.proofs.Standing.{Fits, stays_on, stood, stood_open}

pub shown_runs : {S X : Type 0} (place : Place) (keeping : Keeping S) (state : X → DiskState) (k : Mechanism)
    (ends : Client → Ending) (shows : Client → List ℕ) (start now : X) → IsLawful (state now) → (s : S) → Fits place keeping s
    → IsOpenedAt place keeping k s (state start) (state now)
    → Span (state start) (state now) (IsEntryOrAsReadInCell place.cell k (state start))
    → (place.read_at_rest (state start) → HavePassed 1 (state start) (state now))
    → ((w : World) (side : Side) → IsLawfulWorld k w → CellReadsAsSide place.cell k w side (state start)
    → OpensInPlace place keeping k w side s (state start) (state now))
    → RunsTellAt place state k ends shows start now (ends (keeping.kept s)) (shows (keeping.kept s))
shown_runs place keeping state k ends shows start now lawful s fits opened opening counted opens = record {
  shown =
      was_shown (keeping.kept s) opened.read
      (record {
        opened = now;
        stands = stood_open place keeping k s (state start) (state now) fits opened counted;
        still = refl;
      })
      (stood place keeping state k start now now lawful s fits opened opening refl);
  in_worlds = λ w side lawful_world stands.
      let open_in = opens w side lawful_world stands in
      subst (λ (kept : Client). TellsInPlace place k w side ends shows (state start) (state now) (ends kept) (shows kept)) (sym open_in.is.keeps)
      (shows_world
      (stays_on place keeping state k start now now lawful s fits opened opening refl side w open_in.opens open_in.stand)
      (subst (λ (kept : Client). place.rests kept (state now)) open_in.is.keeps
      (fits.rests s (state now) refl opened.ready)));
}

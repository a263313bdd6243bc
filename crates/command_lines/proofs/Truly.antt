-- What a take leaves on the disk tells the truth.
use Rattle.std.proofs.Common.{List, Some, ap, false, subst, sym, true, ℕ, ⊎_elim, ◌∙◌, ◌≡◌}
use Rattle.dr_base.specs.declared.position.Side.{Side}
use Rattle.dr_disk.specs.State.{DiskState}
use Rattle.dr_model.specs.Machines.Acts.{Act, taking}
use Rattle.dr_model.specs.Machines.Events.{of_bytes}
use Rattle.dr_model.specs.Machines.WorldActs.{act_in}
use Rattle.dr_model.specs.Machines.WorldSides.{kept_in}
use Rattle.dr_model.specs.Machines.Worlds.{World}
use Rattle.dr_model.specs.Theorems.LawfulWorlds.{IsLawfulWorld}
use Rattle.dr_model.proofs.Receipts.Arrived.{taking_arrives}
use Rattle.endings.specs.declared.ending.Ending.{Ending}
use Rattle.kem_laws.specs.Mechanism.{Mechanism}
use Rattle.session_model.specs.Clients.{Client}
use Rattle.client.specs.Cells.{Cell}
use Rattle.client.specs.InWorlds.{CellStandsFor}
use Rattle.client.specs.Receipts.{HaveArrived, waits}
use Rattle.client.proofs.Receipts.{one_client}
use Rattle.command_lines.specs.Asking.{asked_take}
use Rattle.command_lines.specs.InWorlds.{RunsInPlace, goes_on, is_in_doubt, stays_refused, stays_undrawn, stays_unopened}
use Rattle.command_lines.specs.Places.{Place, RunsOnInCell}
use Rattle.command_lines.specs.Runs.{CellTellsTruly}

-- the same texts wait in what stands for the world
pub same_told : (cell : Cell) (k : Mechanism) (w : World) (side : Side) (c : List ℕ) → CellStandsFor cell k w side c
    → CellTellsTruly cell k w side c
same_told cell k w side c stands after reads p waited over =
    let same = one_client _ after (kept_in k w side) reads stands in
    absurd (let e : true ≡ false = sym waited ∙ ap (λ (x : Client). waits x p) (sym same) ∙ over in cc)

module _ (place : Place) (k : Mechanism) (w : World) (side : Side) (packet : List ℕ) (start now : DiskState) (lawful : IsLawfulWorld k w) where
  abbrev Tells : Type 0
  Tells = (s : List ℕ) → now.seen ≡ Some s → CellTellsTruly place.cell k w side s

  -- bytes that stand for a world in which each text that waits no more was opened
  told_by : (last : World) → HaveArrived w side (kept_in k w side) (kept_in k last side) → (c : List ℕ)
      → CellStandsFor place.cell k last side c → CellTellsTruly place.cell k w side c
  told_by last arrived c stands after reads =
      subst (HaveArrived w side (kept_in k w side)) (sym (one_client _ after (kept_in k last side) reads stands)) arrived

  tells : (last : World) → HaveArrived w side (kept_in k w side) (kept_in k last side) → RunsOnInCell place.cell k side w last start now → Tells
  tells last arrived on s told =
      ⊎_elim (same_told place.cell k w side s) (told_by last arrived s) (on.reads s told).either

  stays : RunsOnInCell place.cell k side w w start now → Tells
  stays on s told = ⊎_elim (same_told place.cell k w side s) (same_told place.cell k w side s) (on.reads s told).either

  goes : (act : Act) → act ≡ taking packet → RunsOnInCell place.cell k side w (act_in k w side act).next start now → Tells
  goes act is on =
      tells (act_in k w side (taking packet)).next
      (λ p waited over. taking_arrives k w side p lawful (of_bytes packet) (record { waited = waited; over = over }))
      (subst (λ (a : Act). RunsOnInCell place.cell k side w (act_in k w side a).next start now) is on)

  pub take_tells : (ending : Ending) (lines : List ℕ) → RunsInPlace place k w side (asked_take k packet) start now ending lines → Tells
  take_tells _ _ (stays_unopened refusal on) = stays on
  take_tells _ _ (stays_undrawn lacks on rests) = absurd lacks
  take_tells _ _ (stays_refused act refusal asks fair is on rests) = stays on
  take_tells _ _ (goes_on act asks fair on rests) = goes act asks on
  take_tells _ _ (is_in_doubt act asks fair on) = goes act asks on

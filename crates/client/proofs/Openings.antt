-- A client that is opened, and why none is.
use Rattle.std.proofs.Common.{Err, List, Ok, Option, Result, Some, ap, inl, inr, refl, subst, sym, ℕ, ⊎_elim, ◌∙◌, ◌≡◌, ◌⊎◌}
use Rattle.std.specs.Prelude.{IfOk, option_map}
use Rattle.dr_base.specs.declared.position.Side.{Side}
use Rattle.dr_base.specs.Causes.{Rose}
use Rattle.dr_disk.specs.Calls.{Unwritten}
use Rattle.dr_disk.specs.Spans.{HavePassed, IsQuiet, Span}
use Rattle.dr_disk.specs.State.{Always, DiskState}
use Rattle.dr_disk.specs.declared.call.Call.{Call}
use Rattle.dr_disk.proofs.Steps.{stays, widen}
use Rattle.dr_model.specs.Machines.Worlds.{World}
use Rattle.dr_model.specs.Theorems.LawfulWorlds.{IsLawfulWorld}
use Rattle.kem_laws.specs.Mechanism.{Mechanism}
use Rattle.session_record.specs.Record.{record_read}
use Rattle.slot_store.specs.Reading.{IsLikeRead, damaged, area_reading}
use Rattle.slot_store.specs.Records.{stored_record}
use Rattle.slot_store.specs.declared.errors.OpenError.{OpenError}
use Rattle.slot_store.specs.declared.errors.OpenError.TheVariants.{Damaged, Memory, StoreFault}
use Rattle.client.specs.Cells.{Cell, client_cell}
use Rattle.client.specs.Clients.{ClientNow, client_area}
use Rattle.client.specs.Grounds.{ReadsWritten}
use Rattle.client.specs.Opening.{CellReadsAsSide, IsAsRead, IsAsReadInCell, IsClientOpened, IsEntryOrAsRead, IsLeftAtRest, IsUnopened, OpensIn, ReadsAsSide, client_record_fault, open_refusal}
use Rattle.client.specs.InWorlds.{CellStandsFor, IsIn, StandsFor}
use Rattle.client.specs.declared.refusals.OpenRefusal.{OpenRefusal}
use Rattle.client.specs.declared.refusals.OpenRefusal.TheVariants.{Memory as MemoryIsWanting}
use Rattle.client.proofs.Renewing.{same_reading}

-- the store refused
pub unopened : {X : Type 0} (state : X → DiskState) (k : Mechanism) (start now : X) (error : OpenError)
    → ((slot at : ℕ) → error ≡ Damaged slot at → Unwritten (state start) (state now) × IsQuiet (state start) (state now)
    × HavePassed 1 (state start) (state now)
    × ((s : List ℕ) → (state start).seen ≡ Some s → area_reading (client_record_fault k) client_area s ≡ damaged slot at))
    → (error ≡ Memory → now ≡ start)
    → ((call : Call) → error ≡ StoreFault call → Rose ((state start).faults call) ((state now).faults call))
    → IsUnopened state k start now (open_refusal error)
unopened state k start now Memory hurt memory fault = memory refl
unopened state k start now (StoreFault call) hurt memory fault = fault call refl
unopened state k start now (Damaged slot at) hurt memory fault = let all = hurt slot at refl in (all.3, all.1, all.0)

-- what was at rest is left so
pub left_unopened : (fault_at : List ℕ → Option ℕ) (start now : DiskState) (error : OpenError) → Unwritten start now
    → ((slot at : ℕ) → error ≡ Damaged slot at → Unwritten start now × IsQuiet start now × HavePassed 1 start now
    × ((s : List ℕ) → start.seen ≡ Some s → area_reading fault_at client_area s ≡ damaged slot at))
    → IsLeftAtRest start now (Err (open_refusal error))
left_unopened fault_at start now Memory unwritten hurt = record { unwritten = unwritten; one_sync = tt }
left_unopened fault_at start now (StoreFault call) unwritten hurt = record { unwritten = unwritten; one_sync = tt }
left_unopened fault_at start now (Damaged slot at) unwritten hurt = record { unwritten = unwritten; one_sync = (hurt slot at refl).2 }

-- ---- in a world

-- bytes that are like what was read stand for what was read
pub like_stands : (k : Mechanism) (w : World) (side : Side) (start : DiskState) (c : List ℕ) → ReadsAsSide k w side start
    → IsLikeRead client_area start c → StandsFor k w side c
like_stands k w side start c reads like =
    let same : like.read ≡ reads.bytes = cc (sym like.told ∙ reads.told) in
    ap (option_map (record_read k)) (like.same ∙ ap (stored_record client_area) same) ∙ reads.stands

-- and so do bytes that are as read
pub as_read_stands : (cell : Cell) → (k : Mechanism) → ReadsWritten k
    → (w : World) (side : Side) (start : DiskState) (c : List ℕ)
    → CellReadsAsSide cell k w side start → IsAsReadInCell cell k start c
    → CellStandsFor cell k w side c
as_read_stands cell k written w side start c reads is =
    let same : is.read ≡ reads.bytes = cc (sym is.told ∙ reads.told) in
    same_reading k written (cell.record_in is.read) (cell.record_in c) is.same
    ∙ ap (λ s. option_map (record_read k) (cell.record_in s)) same ∙ reads.stands

module _ (k : Mechanism) (written : ReadsWritten k) (w : World) (side : Side) (start now : DiskState)
    (result : Result ClientNow OpenRefusal) (lawful : IsLawfulWorld k w) (reads : ReadsAsSide k w side start) where
  opened_in : IfOk result (λ client. IsClientOpened k client start now)
      → IfOk result (λ client. IsIn k w side client × Always (StandsFor k w side) now)
  opened_in = by result
    where
      by : (r : Result ClientNow OpenRefusal) → IfOk r (λ client. IsClientOpened k client start now)
          → IfOk r (λ client. IsIn k w side client × Always (StandsFor k w side) now)
      by (Err refusal) is = tt
      by (Ok client) is = (
        record { lawful = lawful; keeps = cc (sym (is.read reads.bytes reads.told) ∙ reads.stands) },
        λ c left. as_read_stands client_cell k written w side start c reads (is.alike c left),
      )

  pub opens_in : IfOk result (λ client. IsClientOpened k client start now) → Span start now (IsEntryOrAsRead k start)
      → ((s : List ℕ) → now.seen ≡ Some s → IsAsRead k start s) → OpensIn k w side start now result
  opens_in is span seen = record {
    client = opened_in is;
    any_moment =
        widen start now (IsEntryOrAsRead k start) (λ c. start.image c ⊎ StandsFor k w side c)
        (λ c s. ⊎_elim (λ was. inl was) (λ as_read. inr (as_read_stands client_cell k written w side start c reads as_read)) s) span;
    reads = λ s told. as_read_stands client_cell k written w side start s reads (seen s told);
  }

-- where nothing was done
pub unopened_in : (k : Mechanism) (w : World) (side : Side) (disk : DiskState) → ReadsAsSide k w side disk
    → OpensIn k w side disk disk (Err MemoryIsWanting)
unopened_in k w side disk reads = record {
  client = tt;
  any_moment = stays disk (λ c. disk.image c ⊎ StandsFor k w side c);
  reads = λ s told. let same : reads.bytes ≡ s = cc (sym reads.told ∙ told) in subst (StandsFor k w side) same reads.stands;
}

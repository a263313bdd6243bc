-- An area is at rest for what was found where it is at rest for the pager of that.
use Rattle.std.proofs.Common.{◌≡◌, ℕ, List, Option, Some, sym, subst, ap, ◌∙◌}
use Rattle.std.specs.Prelude.{◌↔◌, IsTrue, Bool}
use Rattle.dr_disk.specs.State.{DiskState}
use Rattle.pages.specs.Tables.{Table}
use Rattle.slot_store.specs.declared.pager.Pager.{Pager}
use Rattle.slot_store.specs.declared.report.Gate.{Gate}
use Rattle.slot_store.specs.Areas.{Area}
use Rattle.slot_store.specs.AtRest.{IsAtRest}
use Rattle.pages.specs.Judged.{table_with}
use Rattle.slot_store.specs.Locating.{HoldsWhatCounts}
use Rattle.slot_store.specs.Pager.{IsLaidFor, content, mark}
use Rattle.slot_store.specs.Reports.{RestsAsFound, gate_of}
use Rattle.slot_store.proofs.Openings.AtRestRead.{is_same}
use Rattle.slot_store.proofs.Standing.{pager_marked}

module _ (fault_at : List ℕ → Option ℕ) (area : Area) (disk : DiskState) (pager : Pager) (held : HoldsWhatCounts fault_at area disk pager)
    (s : List ℕ) (told : disk.seen ≡ Some s) where
  laid_rests : IsLaidFor pager s → IsAtRest pager.area (mark pager) (content pager) s
  unfolding IsLaidFor
  laid_rests laid = record { laid_out = laid; marked = pager_marked pager }

  found : IsLaidFor pager s → RestsAsFound fault_at area s
  found laid = record {
    mark = mark pager;
    text = content pager;
    rests = subst (λ a. IsAtRest a (mark pager) (content pager) s) held.area_is (laid_rests laid);
    read = held.read s told;
  }

  laid : RestsAsFound fault_at area s → IsLaidFor pager s
  laid is = (is_same pager s (held.shown s told) is.mark is.text
      (subst (λ a. IsAtRest a is.mark is.text s) (sym held.area_is) is.rests)).rests_too

  pub rests_found : (rest : Bool) → (IsTrue rest ↔ IsLaidFor pager s) → (IsTrue rest ↔ RestsAsFound fault_at area s)
  rests_found rest is = (λ yes. found (is.0 yes), λ rests. is.1 (laid rests))

-- of a table as it was read
pub gate_told : (r : Gate) (gate : ℕ) (given body : List ℕ) (t : Table) → given ≡ body → t ≡ table_with gate body
    → r ≡ gate_of (table_with gate given) → r ≡ gate_of t
gate_told r gate given body t same is told = told ∙ ap (λ b. gate_of (table_with gate b)) same ∙ sym (ap gate_of is)

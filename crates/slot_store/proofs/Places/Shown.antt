-- What a shot is read as, and what it stands for.
use Rattle.std.proofs.Common.{◌≡◌, ℕ, ◌+◌, Bool, List, [], drop, Option, Some, None, refl, sym, ◌∙◌, ap, ap₂}
use Rattle.dr_base.specs.declared.limits.TheConstants.{PAGE}
use Rattle.pages.specs.Snapshots.{Shot, Snapshot, no_shot, shot, unclear}
use Rattle.record_pages.specs.Pages.{joined}
use Rattle.record_pages.specs.Tables.{length_in, nonzero_from, or_else, table_fault}
use Rattle.paged_records.specs.Faults.{behind_table, record_in}
use Rattle.slot_store.specs.Areas.{Area}
use Rattle.slot_store.specs.Reading.{damaged, holds, judged, no_content, table_number, read_as}
use Rattle.slot_store.specs.Records.{faultless, record_shown}

-- no fault: none of the table, none of the record, and none behind it
pub record IsSound (t r z : Option ℕ) (said text : List ℕ) : Type 0 where
  pub table : t ≡ None
  pub record_is : r ≡ None
  pub zeros : z ≡ None
  pub same : said ≡ text

module _ (second : Bool) (said text : List ℕ) where
  pub sound_by : (t r z : Option ℕ) → judged second (or_else t (behind_table (or_else r z))) said ≡ holds text
      → IsSound t r z said text
  sound_by (Some at) r z is = absurd (let e : damaged (table_number second) at ≡ holds text = is in cc)
  sound_by None (Some at) z is = absurd (let e : damaged (table_number second) (PAGE + at) ≡ holds text = is in cc)
  sound_by None None (Some at) is = absurd (let e : damaged (table_number second) (PAGE + at) ≡ holds text = is in cc)
  sound_by None None None is = record { table = refl; record_is = refl; zeros = refl; same = let e : holds said ≡ holds text = is in cc }

  pub never_none : (f : Option ℕ) → judged second f said ≡ no_content → ⊥
  never_none None is = let e : holds said ≡ no_content = is in cc
  never_none (Some at) is = let e : damaged (table_number second) at ≡ no_content = is in cc

module _ (fault_at : List ℕ → Option ℕ) (area : Area) (text : List ℕ) where
  abbrev zeros_in : Snapshot → Option ℕ
  zeros_in s = nonzero_from (length_in s.table.body) (drop (length_in s.table.body) (joined s.pages))

  sound_shot : (s : Snapshot) → read_as fault_at area (shot s) ≡ holds text
      → IsSound (table_fault 2 area.pages area.most s.table.body) (fault_at (record_in s.table.body s.pages)) (zeros_in s)
      (record_in s.table.body s.pages) text
  sound_shot s is = sound_by s.second (record_in s.table.body s.pages) text (table_fault 2 area.pages area.most s.table.body)
      (fault_at (record_in s.table.body s.pages)) (zeros_in s) is

  pub holds_shown : (sh : Shot) → read_as fault_at area sh ≡ holds text → record_shown area sh ≡ Some text
  holds_shown no_shot is = absurd (let e : no_content ≡ holds text = is in cc)
  holds_shown unclear is = absurd (let e : damaged 1 1 ≡ holds text = is in cc)
  holds_shown (shot s) is =
      let sound = sound_shot s is in
      ap (λ f. faultless f (record_in s.table.body s.pages)) sound.table ∙ ap (λ (l : List ℕ). Some l) sound.same

  pub holds_text : (sh : Shot) → read_as fault_at area sh ≡ holds text → fault_at text ≡ None
  holds_text no_shot is = absurd (let e : no_content ≡ holds text = is in cc)
  holds_text unclear is = absurd (let e : damaged 1 1 ≡ holds text = is in cc)
  holds_text (shot s) is = let sound = sound_shot s is in ap fault_at (sym sound.same) ∙ sound.record_is

  pub holds_again : (sh : Shot) → read_as fault_at area sh ≡ holds text → (other_at : List ℕ → Option ℕ) → other_at text ≡ None
      → read_as other_at area sh ≡ holds text
  holds_again no_shot is other_at none = absurd (let e : no_content ≡ holds text = is in cc)
  holds_again unclear is other_at none = absurd (let e : damaged 1 1 ≡ holds text = is in cc)
  holds_again (shot s) is other_at none =
      let sound = sound_shot s is in
      ap₂ (λ t r. judged s.second (or_else t (behind_table (or_else r (zeros_in s)))) (record_in s.table.body s.pages))
      sound.table (ap other_at sound.same ∙ none)
      ∙ ap₂ (λ z (l : List ℕ). judged s.second (behind_table z) l) sound.zeros sound.same

-- where there is none, no table is open
module _ (fault_at : List ℕ → Option ℕ) (area : Area) where
  pub none_shown : (sh : Shot) → read_as fault_at area sh ≡ no_content → record_shown area sh ≡ None
  none_shown no_shot is = refl
  none_shown unclear is = refl
  none_shown (shot s) is = absurd (never_none s.second (record_in s.table.body s.pages) [] _ is)

-- No table was read open.
use Rattle.std.proofs.Common.{◌≡◌, ℕ, true, List, Option, Some, None, sym, ◌∙◌, ap}
use Rattle.pages.specs.Snapshots.{kept_shot, shot_of, snapshot}
use Rattle.pages.specs.Tables.{alike, none_open, tables_standing}
use Rattle.record_pages.specs.Tables.{record_names}
use Rattle.slot_store.specs.declared.pager.Pager.{Pager}
use Rattle.slot_store.specs.Areas.{Area, layout_of}
use Rattle.slot_store.specs.Layout.{laid}
use Rattle.slot_store.specs.Reading.{damaged, read_as, area_reading, reading_of}
use Rattle.slot_store.specs.Records.{shot_in}
use Rattle.slot_store.specs.Settling.{HasShot}
use Rattle.slot_store.specs.Pager.{content, mark}
use Rattle.slot_store.proofs.Wipings.Settled.{has_none}

module _ (area : Area) (pager : Pager) (is_area : pager.area ≡ area) (turn : pager.turn ≡ 0) where
  pub empty_shown : (s : List ℕ) → tables_standing (layout_of area) s ≡ none_open → HasShot pager s
  unfolding snapshot
  empty_shown s closed = ap (λ a. shot_in a s) is_area ∙ ap (shot_of record_names (layout_of area) s) closed
      ∙ ap (λ o. kept_shot (laid (mark pager) o)) (sym (has_none pager turn))

module _ (fault_at : List ℕ → Option ℕ) (area : Area) (pager : Pager) (is_area : pager.area ≡ area) (turn : pager.turn ≡ 0) where
  pub empty_text : (text : List ℕ) → content pager ≡ Some text → fault_at text ≡ None
  empty_text text is = absurd (let e : None ≡ Some text = sym (has_none pager turn) ∙ is in cc)

  pub empty_reading : (s : List ℕ) → tables_standing (layout_of area) s ≡ none_open
      → area_reading fault_at area s ≡ reading_of (content pager)
  unfolding area_reading snapshot
  empty_reading s closed = ap (λ o. read_as fault_at area (shot_of record_names (layout_of area) s o)) closed
      ∙ ap reading_of (sym (has_none pager turn))

-- the first put goes to table 0
pub empty_first : (pager : Pager) → pager.second ≡ true → content pager ≡ None → (mark pager).second ≡ true
unfolding mark
empty_first pager second none = second

-- both are open, and neither is newer
pub alike_reading : (fault_at : List ℕ → Option ℕ) (area : Area) (s : List ℕ) → tables_standing (layout_of area) s ≡ alike
    → area_reading fault_at area s ≡ damaged 1 1
unfolding area_reading snapshot
alike_reading fault_at area s is = ap (λ o. read_as fault_at area (shot_of record_names (layout_of area) s o)) is

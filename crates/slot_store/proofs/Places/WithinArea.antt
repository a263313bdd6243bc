-- What an area's bytes stand for and are read as is a function of the area's bytes.
use Rattle.std.proofs.Common.{◌≡◌, ℕ, ◌+◌, ◌*◌, Bool, true, false, All, List, [], ◌∷◌, drop, map, Option, Some, None, refl, ◌∙◌, ap, ap₂}
use Rattle.std.proofs.lemmas.List.Elements.{All-head, All-tail}
use Rattle.std.specs.Prelude.{nat_le, not, if◌then◌else◌}
use Rattle.pages.specs.Layouts.{IsPage}
use Rattle.pages.specs.Resting.{IsShotAtRest as AreAtRest}
use Rattle.pages.specs.Snapshots.{Snapshot, page_of, shot_of, snapshot}
use Rattle.pages.specs.Tables.{TableStanding, alike, counts, none_open, tables_standing, standing_of}
use Rattle.record_pages.specs.Pages.{page_count}
use Rattle.record_pages.specs.Tables.{entry_fault, length_in, nonzero_from, or_else, record_names, table_fault}
use Rattle.paged_records.specs.Faults.{behind_table, record_fault, record_in}
use Rattle.slot_store.specs.Areas.{Area, layout_of}
use Rattle.slot_store.specs.Laws.{SameWithin}
use Rattle.slot_store.specs.Reading.{judged, read_as, area_reading}
use Rattle.slot_store.specs.Records.{faultless, stored_record, record_shown}
use Rattle.slot_store.proofs.Entries.{entries_within}
use Rattle.slot_store.proofs.Places.Local.{same_page, same_table}

none_first : (e z : Option ℕ) → or_else e z ≡ None → e ≡ None
none_first None z is = refl
none_first (Some at) z is = absurd (let e : Some at ≡ None = is in cc)

-- a faultless table has faultless entries
pub lawful_table : (pages most : ℕ) (body : List ℕ) → table_fault 2 pages most body ≡ None → entry_fault 2 pages [] 6 (record_names body) ≡ None
unfolding table_fault
lawful_table pages most body is = by (nat_le (page_count (length_in body)) most) (entry_fault 2 pages [] 6 (record_names body)) is
  where
    z : Option ℕ
    z = nonzero_from (6 + 2 * page_count (length_in body)) (drop (5 + 2 * page_count (length_in body)) body)

    by : (fits : Bool) (e : Option ℕ) → (if fits then or_else e z else Some 2) ≡ None → e ≡ None
    by true e is = none_first e z is
    by false e is = absurd (let e : Some 2 ≡ None = is in cc)

pub map_same : {X : Type 0} (P : ℕ → Type 0) (f g : ℕ → X) (ns : List ℕ) → All P ns → ((n : ℕ) → P n → f n ≡ g n) → map f ns ≡ map g ns
map_same P f g [] all same = refl
map_same P f g (n ∷ ns) all same =
    ap₂ (λ x xs. x ∷ xs) (same n (All-head P n ns all)) (map_same P f g ns (All-tail P n ns all) same)

module _ (area : Area) (c d : List ℕ) (same : SameWithin area c d) where
  standing_same : tables_standing (layout_of area) c ≡ tables_standing (layout_of area) d
  standing_same = ap₂ standing_of (same_table area c d same false) (same_table area c d same true)

  pub pages_same : (names : List ℕ) → entry_fault 2 area.pages [] 6 names ≡ None
      → map (page_of (layout_of area) c) names ≡ map (page_of (layout_of area) d) names
  pages_same names is = map_same (IsPage (layout_of area)) (page_of (layout_of area) c) (page_of (layout_of area) d) names
      (entries_within area names is) (λ n page. same_page area c d same n page)

  shown_as : (st : TableStanding) → record_shown area (shot_of record_names (layout_of area) c st) ≡ record_shown area (shot_of record_names (layout_of area) d st)
  shown_as none_open = refl
  shown_as alike = refl
  shown_as (counts k t) = by (table_fault 2 area.pages area.most t.body) refl
    where
      by : (f : Option ℕ) → table_fault 2 area.pages area.most t.body ≡ f
          → faultless f (record_in t.body (map (page_of (layout_of area) c) (record_names t.body)))
          ≡ faultless f (record_in t.body (map (page_of (layout_of area) d) (record_names t.body)))
      by (Some at) is = refl
      by None is = ap (λ (ps : List (List ℕ)). Some (record_in t.body ps)) (pages_same (record_names t.body) (lawful_table area.pages area.most t.body is))

  read_same : (fault_at : List ℕ → Option ℕ) (st : TableStanding)
      → read_as fault_at area (shot_of record_names (layout_of area) c st) ≡ read_as fault_at area (shot_of record_names (layout_of area) d st)
  read_same fault_at none_open = refl
  read_same fault_at alike = refl
  read_same fault_at (counts k t) = by (table_fault 2 area.pages area.most t.body) refl
    where
      by : (f : Option ℕ) → table_fault 2 area.pages area.most t.body ≡ f
          → judged k (or_else f (behind_table (record_fault fault_at t.body (map (page_of (layout_of area) c) (record_names t.body)))))
          (record_in t.body (map (page_of (layout_of area) c) (record_names t.body)))
          ≡ judged k (or_else f (behind_table (record_fault fault_at t.body (map (page_of (layout_of area) d) (record_names t.body)))))
          (record_in t.body (map (page_of (layout_of area) d) (record_names t.body)))
      by (Some at) is = refl
      by None is =
          ap (λ (ps : List (List ℕ)). judged k (behind_table (record_fault fault_at t.body ps)) (record_in t.body ps))
          (pages_same (record_names t.body) (lawful_table area.pages area.most t.body is))

  pub recovered_same : stored_record area c ≡ stored_record area d
  unfolding stored_record snapshot
  recovered_same = ap (λ st. record_shown area (shot_of record_names (layout_of area) c st)) standing_same ∙ shown_as (tables_standing (layout_of area) d)

  pub reading_same : (fault_at : List ℕ → Option ℕ) → area_reading fault_at area c ≡ area_reading fault_at area d
  unfolding area_reading snapshot
  reading_same fault_at =
      ap (λ st. read_as fault_at area (shot_of record_names (layout_of area) c st)) standing_same ∙ read_same fault_at (tables_standing (layout_of area) d)

  -- at rest, where the snapshot's pages are the area's
  pub rests_same : (now : Snapshot) → entry_fault 2 area.pages [] 6 (record_names now.table.body) ≡ None
      → AreAtRest record_names (layout_of area) now d → AreAtRest record_names (layout_of area) now c
  rests_same now names rests = record {
    still = record {
      current = same_table area c d same now.second ∙ rests.still.current;
      pages = pages_same (record_names now.table.body) names ∙ rests.still.pages;
      shut = ap (λ t. t.gate) (same_table area c d same (not now.second)) ∙ rests.still.shut;
    };
    other = same_table area c d same (not now.second) ∙ rests.other;
    blank = λ m page beside. same_page area c d same m page ∙ rests.blank m page beside;
  }

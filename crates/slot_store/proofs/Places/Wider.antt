-- An area of lower pages is read in a longer disk as before, also where more pages belong to it.
use Rattle.std.proofs.Common.{◌≡◌, ℕ, ◌+◌, ◌-◌, ◌*◌, ◌<◌, ◌≤◌, Bool, true, false, ◌&&◌, List, [], ◌∷◌, ◌++◌, length, map, take, drop, Option, Some, None, refl, sym, ◌∙◌, ap, ap₂, arith}
use Rattle.std.proofs.lemmas.Bool.Decides.{nat_tests}
use Rattle.std.proofs.lemmas.List.{drop-append-le, get_or_append_left, length-drop, take-append-le}
use Rattle.std.specs.Prelude.{nat_le, nat_lt, not, if◌then◌else◌, slice_index, slice_range}
use Rattle.dr_base.specs.declared.limits.TheConstants.{PAGE}
use Rattle.pages.specs.declared.layout.TheConstants.{LOWER_PAGES}
use Rattle.pages.specs.Layouts.{IsPage, page_place, table_place}
use Rattle.pages.specs.Snapshots.{page_of, shot_of, snapshot}
use Rattle.pages.specs.Tables.{TableStanding, alike, counts, none_open, tables_standing, standing_of, table_at}
use Rattle.pages.proofs.SoundLayouts.{place_low}
use Rattle.record_pages.specs.Pages.{page_count}
use Rattle.record_pages.specs.Plans.{is_among}
use Rattle.record_pages.specs.Tables.{entry_fault, length_in, nonzero_from, or_else, record_names, table_fault}
use Rattle.paged_records.specs.Faults.{behind_table, record_fault, record_in}
use Rattle.slot_store.specs.Areas.{Area, layout_of, area_end}
use Rattle.slot_store.specs.Laws.{IsWider}
use Rattle.slot_store.specs.Reading.{damaged, holds, judged, no_content, read_as, area_reading, table_number}
use Rattle.slot_store.specs.Records.{faultless, stored_record, record_shown}
use Rattle.slot_store.proofs.Entries.{entries_within}
use Rattle.slot_store.proofs.Places.Local.{as_table}
use Rattle.slot_store.proofs.Rows.{end_low}
use Rattle.slot_store.proofs.Places.WithinArea.{lawful_table, map_same}

-- ---- bytes that stand before others

range_before : (c more : List ℕ) (at end : ℕ) → at ≤ end → end ≤ length c
    → slice_range (c ++ more) at end ≡ slice_range c at end
range_before c more at end before inside =
    ap (λ (l : List ℕ). take (end - at) l) (drop-append-le at c more (omega (arith, before, inside)))
    ∙ take-append-le (end - at) (drop at c) more (omega (arith, length-drop at c, before, inside))

-- ---- a table without a fault has none where there are more pages

entry_true : (pages more n : ℕ) (other : Bool) → pages ≤ more → (nat_le 2 n && (nat_lt n pages && other)) ≡ true
    → (nat_le 2 n && (nat_lt n more && other)) ≡ true
entry_true pages more n other le is = grind (arith, nat_tests)

entries_wider : (pages more : ℕ) (earlier : List ℕ) (at : ℕ) (numbers : List ℕ) → pages ≤ more
    → entry_fault 2 pages earlier at numbers ≡ None → entry_fault 2 more earlier at numbers ≡ None
entries_wider pages more earlier at [] le is = refl
entries_wider pages more earlier at (n ∷ numbers) le is =
    by (nat_le 2 n && (nat_lt n pages && not (is_among earlier n))) refl is
    (λ rest. entries_wider pages more (earlier ++ n ∷ []) (at + 2) numbers le rest)
  where
    now : Option ℕ
    now = entry_fault 2 pages (earlier ++ n ∷ []) (at + 2) numbers

    next : Option ℕ
    next = entry_fault 2 more (earlier ++ n ∷ []) (at + 2) numbers

    by : (b : Bool) → (nat_le 2 n && (nat_lt n pages && not (is_among earlier n))) ≡ b
        → (if b then now else Some at) ≡ None → (now ≡ None → next ≡ None)
        → entry_fault 2 more earlier at (n ∷ numbers) ≡ None
    by true fits is later =
        ap (λ b. if b then next else Some at) (entry_true pages more n (not (is_among earlier n)) le fits) ∙ later is
    by false fits is later = absurd (let e : Some at ≡ None = is in cc)

le_true : (n most more : ℕ) → most ≤ more → nat_le n most ≡ true → nat_le n more ≡ true
le_true n most more le is = grind (arith, nat_tests)

table_wider : (pages more most many : ℕ) (body : List ℕ) → pages ≤ more → most ≤ many
    → table_fault 2 pages most body ≡ None → table_fault 2 more many body ≡ None
unfolding table_fault
table_wider pages more most many body le les is = by (nat_le (page_count (length_in body)) most) refl is
  where
    z : Option ℕ
    z = nonzero_from (6 + 2 * page_count (length_in body)) (drop (5 + 2 * page_count (length_in body)) body)

    entries : (e f : Option ℕ) → (e ≡ None → f ≡ None) → or_else e z ≡ None → or_else f z ≡ None
    entries None f to is = ap (λ (x : Option ℕ). or_else x z) (to refl) ∙ is
    entries (Some at) f to is = absurd (let e : Some at ≡ None = is in cc)

    by : (fits : Bool) → nat_le (page_count (length_in body)) most ≡ fits
        → (if fits then or_else (entry_fault 2 pages [] 6 (record_names body)) z else Some 2) ≡ None
        → (if nat_le (page_count (length_in body)) many then or_else (entry_fault 2 more [] 6 (record_names body)) z else Some 2) ≡ None
    by true fits is =
        ap (λ b. if b then or_else (entry_fault 2 more [] 6 (record_names body)) z else Some 2)
        (le_true (page_count (length_in body)) most many les fits)
        ∙ entries (entry_fault 2 pages [] 6 (record_names body)) (entry_fault 2 more [] 6 (record_names body))
        (entries_wider pages more [] 6 (record_names body) le) is
    by false fits is = absurd (let e : Some 2 ≡ None = is in cc)

-- ---- tables and pages stand where they stood

module _ (area wider : Area) (is_wider : IsWider area wider) (c more : List ℕ) (inside : area_end area ≤ length c) where
  ends : area.start + PAGE * area.pages ≤ length c
  ends = omega (arith, end_low area is_wider.lower, inside)

  table_same : (k : Bool) → table_at (layout_of wider) k (c ++ more) ≡ table_at (layout_of area) k c
  table_same k = ap (λ at. as_table (slice_index (c ++ more) at) (slice_range (c ++ more) (at + 1) (at + PAGE))) (at k)
      ∙ ap₂ as_table (get_or_append_left c more 0 (table_place (layout_of area) k) (omega (arith, room k)))
      (range_before c more (table_place (layout_of area) k + 1) (table_place (layout_of area) k + PAGE) (omega arith) (room k))
    where
      at : (k : Bool) → table_place (layout_of wider) k ≡ table_place (layout_of area) k
      at false = is_wider.start
      at true = ap (λ n. n + PAGE) is_wider.start

      room : (k : Bool) → table_place (layout_of area) k + PAGE ≤ length c
      room false = omega (arith, ends, is_wider.least)
      room true = omega (arith, ends, is_wider.least)

  standing_as : tables_standing (layout_of wider) (c ++ more) ≡ tables_standing (layout_of area) c
  standing_as = ap₂ standing_of (table_same false) (table_same true)

  page_same : (n : ℕ) → IsPage (layout_of area) n → page_of (layout_of wider) (c ++ more) n ≡ page_of (layout_of area) c n
  page_same n is =
      let low : n < LOWER_PAGES = omega (arith, is.1, is_wider.lower) in
      let place : page_place (layout_of area) n ≡ area.start + PAGE * n = place_low (layout_of area) n low in
      ap (λ at. slice_range (c ++ more) at (at + PAGE))
      (place_low (layout_of wider) n low ∙ ap (λ s. s + PAGE * n) is_wider.start ∙ sym place)
      ∙ range_before c more (page_place (layout_of area) n) (page_place (layout_of area) n + PAGE) (omega arith)
      (omega (arith, place, ends, is.1))

  pages_as : (body : List ℕ) → table_fault 2 area.pages area.most body ≡ None
      → map (page_of (layout_of wider) (c ++ more)) (record_names body) ≡ map (page_of (layout_of area) c) (record_names body)
  pages_as body is = map_same (IsPage (layout_of area)) (page_of (layout_of wider) (c ++ more)) (page_of (layout_of area) c)
      (record_names body) (entries_within area (record_names body) (lawful_table area.pages area.most body is)) page_same

  fault_as : (body : List ℕ) → table_fault 2 area.pages area.most body ≡ None → table_fault 2 wider.pages wider.most body ≡ None
  fault_as body is = table_wider area.pages wider.pages area.most wider.most body is_wider.pages is_wider.most is

  -- ---- the record

  pub stored_wider : (text : List ℕ) → stored_record area c ≡ Some text → stored_record wider (c ++ more) ≡ Some text
  unfolding stored_record snapshot
  stored_wider text is = ap (λ st. record_shown wider (shot_of record_names (layout_of wider) (c ++ more) st)) standing_as
      ∙ shown (tables_standing (layout_of area) c) is
    where
      shown : (st : TableStanding) → record_shown area (shot_of record_names (layout_of area) c st) ≡ Some text
          → record_shown wider (shot_of record_names (layout_of wider) (c ++ more) st) ≡ Some text
      shown none_open is = absurd (let e : None ≡ Some text = is in cc)
      shown alike is = absurd (let e : None ≡ Some text = is in cc)
      shown (counts k t) is = by (table_fault 2 area.pages area.most t.body) refl is
        where
          by : (f : Option ℕ) → table_fault 2 area.pages area.most t.body ≡ f
              → faultless f (record_in t.body (map (page_of (layout_of area) c) (record_names t.body))) ≡ Some text
              → faultless (table_fault 2 wider.pages wider.most t.body)
              (record_in t.body (map (page_of (layout_of wider) (c ++ more)) (record_names t.body))) ≡ Some text
          by (Some at) fault is = absurd (let e : None ≡ Some text = is in cc)
          by None fault is = ap₂ (λ f (ps : List (List ℕ)). faultless f (record_in t.body ps)) (fault_as t.body fault) (pages_as t.body fault) ∙ is

  -- ---- what it is read as

  module _ (fault_at : List ℕ → Option ℕ) where
    pub holds_wider : (text : List ℕ) → area_reading fault_at area c ≡ holds text → area_reading fault_at wider (c ++ more) ≡ holds text
    unfolding area_reading snapshot
    holds_wider text is = ap (λ st. read_as fault_at wider (shot_of record_names (layout_of wider) (c ++ more) st)) standing_as
        ∙ read (tables_standing (layout_of area) c) is
      where
        read : (st : TableStanding) → read_as fault_at area (shot_of record_names (layout_of area) c st) ≡ holds text
            → read_as fault_at wider (shot_of record_names (layout_of wider) (c ++ more) st) ≡ holds text
        read none_open is = absurd (let e : no_content ≡ holds text = is in cc)
        read alike is = absurd (let e : damaged 1 1 ≡ holds text = is in cc)
        read (counts k t) is = by (table_fault 2 area.pages area.most t.body) refl is
          where
            by : (f : Option ℕ) → table_fault 2 area.pages area.most t.body ≡ f
                → judged k (or_else f (behind_table (record_fault fault_at t.body (map (page_of (layout_of area) c) (record_names t.body)))))
                (record_in t.body (map (page_of (layout_of area) c) (record_names t.body))) ≡ holds text
                → judged k (or_else (table_fault 2 wider.pages wider.most t.body)
                (behind_table (record_fault fault_at t.body (map (page_of (layout_of wider) (c ++ more)) (record_names t.body)))))
                (record_in t.body (map (page_of (layout_of wider) (c ++ more)) (record_names t.body))) ≡ holds text
            by (Some at) fault is = absurd (let e : damaged (table_number k) at ≡ holds text = is in cc)
            by None fault is =
                ap₂ (λ f (ps : List (List ℕ)). judged k (or_else f (behind_table (record_fault fault_at t.body ps))) (record_in t.body ps))
                (fault_as t.body fault) (pages_as t.body fault) ∙ is

    pub none_wider : area_reading fault_at area c ≡ no_content → area_reading fault_at wider (c ++ more) ≡ no_content
    unfolding area_reading snapshot
    none_wider is = ap (λ st. read_as fault_at wider (shot_of record_names (layout_of wider) (c ++ more) st)) standing_as
        ∙ read (tables_standing (layout_of area) c) is
      where
        read : (st : TableStanding) → read_as fault_at area (shot_of record_names (layout_of area) c st) ≡ no_content
            → read_as fault_at wider (shot_of record_names (layout_of wider) (c ++ more) st) ≡ no_content
        read none_open is = refl
        read alike is = absurd (let e : damaged 1 1 ≡ no_content = is in cc)
        read (counts k t) is = absurd (never (or_else (table_fault 2 area.pages area.most t.body)
            (behind_table (record_fault fault_at t.body (map (page_of (layout_of area) c) (record_names t.body)))))
            (record_in t.body (map (page_of (layout_of area) c) (record_names t.body))) is)
          where
            never : (f : Option ℕ) (x : List ℕ) → judged k f x ≡ no_content → ⊥
            never None x is = let e : holds x ≡ no_content = is in cc
            never (Some at) x is = cc

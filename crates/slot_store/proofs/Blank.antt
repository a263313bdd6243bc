-- An area of zeros holds no record.
use Rattle.std.proofs.Common.{◌≡◌, ℕ, ◌+◌, ◌*◌, ◌<◌, ◌≤◌, Bool, true, false, List, replicate, Option, ap, ap₂, arith}
use Rattle.std.specs.Prelude.{◌==◌, ◌&&◌, nat_le}
use Rattle.std.proofs.lemmas.List.{get_or-replicate}
use Rattle.dr_base.specs.declared.limits.TheConstants.{PAGE}
use Rattle.pages.specs.declared.layout.TheConstants.{LOWER_PAGES, OPEN}
use Rattle.pages.specs.Layouts.{table_place}
use Rattle.pages.specs.Snapshots.{shot_of, snapshot}
use Rattle.pages.specs.Tables.{Table, is_open, turn_after, none_open, pick, tables_standing, table_at, table_turn}
use Rattle.record_pages.specs.Tables.{record_names}
use Rattle.slot_store.specs.Areas.{Area, layout_of, area_end}
use Rattle.slot_store.proofs.Rows.{tables_end}
use Rattle.slot_store.specs.Reading.{no_content, read_as, area_reading}

-- a gate of zero isn't open
shut : (t : Table) → t.gate ≡ 0 → is_open t ≡ false
shut t zero = ap (λ gate. (gate == OPEN) && (nat_le 1 (table_turn t) && nat_le (table_turn t) 3)) zero

module _ (area : Area) (n : ℕ) (least : 2 ≤ area.pages)
    (behind : area.start + PAGE * LOWER_PAGES ≤ area.upper) (fits : area_end area ≤ n) where
  table_shut : (k : Bool) → is_open (table_at (layout_of area) k (replicate n 0)) ≡ false
  table_shut k = shut (table_at (layout_of area) k (replicate n 0)) (get_or-replicate n (table_place (layout_of area) k) 0 0 (inside k))
    where
      inside : (k : Bool) → table_place (layout_of area) k < n
      inside false = omega (arith, tables_end area least behind, fits)
      inside true = omega (arith, tables_end area least behind, fits)

  none_stands : tables_standing (layout_of area) (replicate n 0) ≡ none_open
  none_stands =
      let a = table_at (layout_of area) false (replicate n 0) in
      let b = table_at (layout_of area) true (replicate n 0) in
      ap₂ (λ x y. pick x y (table_turn b == turn_after (table_turn a)) (table_turn a == turn_after (table_turn b)) a b) (table_shut false) (table_shut true)

pub blank_read : (fault_at : List ℕ → Option ℕ) (area : Area) (n : ℕ) → 2 ≤ area.pages
    → area.start + PAGE * LOWER_PAGES ≤ area.upper → area_end area ≤ n
    → area_reading fault_at area (replicate n 0) ≡ no_content
unfolding area_reading snapshot
blank_read fault_at area n least behind fits =
    ap (λ st. read_as fault_at area (shot_of record_names (layout_of area) (replicate n 0) st)) (none_stands area n least behind fits)

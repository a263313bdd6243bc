-- The lower pages of an area lie in a row, of which the tables are the first two places, and the upper ones in another.
use Rattle.std.proofs.Common.{◌≡◌, ◌⊎◌, inl, inr, ⊎_elim, ℕ, ◌+◌, ◌-◌, ◌*◌, ◌≤◌, ◌<◌, Bool, true, false, ap, arith}
use Rattle.std.specs.Prelude.{nat_le, if◌then◌else◌}
use Rattle.std.proofs.lemmas.Bool.{cases_lt}
use Rattle.std.proofs.lemmas.Bool.Decides.{nat_tests}
use Rattle.dr_base.specs.declared.limits.TheConstants.{PAGE}
use Rattle.pages.specs.declared.layout.TheConstants.{LOWER_PAGES}
use Rattle.pages.specs.Layouts.{page_place, table_place}
use Rattle.pages.proofs.SoundLayouts.{place_high, place_low}
use Rattle.slot_store.specs.Areas.{Area, IsInArea, IsOutsideArea, layout_of, area_end}

-- a place in the lower row, and one in the upper row
abbrev pub IsInLower : Area → ℕ → Type 0
IsInLower area i = (area.start ≤ i) × (i < area.start + PAGE * area.pages) × (i < area.start + PAGE * LOWER_PAGES)

abbrev pub IsInUpper : Area → ℕ → Type 0
IsInUpper area i = (area.upper ≤ i) × (i < area.upper + PAGE * (area.pages - LOWER_PAGES))

-- a place before a row, or behind it
abbrev pub IsBesideLower : Area → ℕ → Type 0
IsBesideLower area i =
    (i < area.start) ⊎ (area.start + PAGE * area.pages ≤ i) ⊎ (area.start + PAGE * LOWER_PAGES ≤ i)

abbrev pub IsBesideUpper : Area → ℕ → Type 0
IsBesideUpper area i = (i < area.upper) ⊎ (area.upper + PAGE * (area.pages - LOWER_PAGES) ≤ i)

module _ (area : Area) where
  pub end_low : area.pages ≤ LOWER_PAGES → area_end area ≡ area.start + PAGE * area.pages
  end_low le = ap (λ t. if t then area.start + PAGE * area.pages else area.upper + PAGE * (area.pages - LOWER_PAGES))
      (let e : nat_le area.pages LOWER_PAGES ≡ true = grind (arith, nat_tests) in e)

  pub end_high : LOWER_PAGES < area.pages → area_end area ≡ area.upper + PAGE * (area.pages - LOWER_PAGES)
  end_high lt = ap (λ t. if t then area.start + PAGE * area.pages else area.upper + PAGE * (area.pages - LOWER_PAGES))
      (let e : nat_le area.pages LOWER_PAGES ≡ false = grind (arith, nat_tests) in e)

-- the tables end no later than the pages
pub tables_end : (area : Area) → 2 ≤ area.pages → area.start + PAGE * LOWER_PAGES ≤ area.upper
    → area.start + (PAGE + PAGE) ≤ area_end area
tables_end area least behind = ⊎_elim (λ lt. omega (arith, end_high area lt, behind, lt))
    (λ le. omega (arith, end_low area le, least)) (cases_lt LOWER_PAGES area.pages)

module _ (area : Area) (least : 2 ≤ area.pages) (i : ℕ) where
  -- a place beside both rows
  pub is_outside : IsBesideLower area i → IsBesideUpper area i → IsOutsideArea area i
  is_outside lower upper = record {
    tables = λ k. table_beside k lower;
    pages = λ n is. ⊎_elim (λ low. page_low n is.1 low lower) (λ high. page_high n is.1 high upper) (cases_lt n LOWER_PAGES);
  }
    where
      table_beside : (k : Bool) → IsBesideLower area i
          → (i < table_place (layout_of area) k) ⊎ (table_place (layout_of area) k + PAGE ≤ i)
      table_beside false (inl before) = inl before
      table_beside false (inr (inl behind)) = inr (omega (arith, behind, least))
      table_beside false (inr (inr behind)) = inr (omega (arith, behind))
      table_beside true (inl before) = inl (omega (arith, before))
      table_beside true (inr (inl behind)) = inr (omega (arith, behind, least))
      table_beside true (inr (inr behind)) = inr (omega (arith, behind))

      page_low : (n : ℕ) → n < area.pages → n < LOWER_PAGES → IsBesideLower area i
          → (i < page_place (layout_of area) n) ⊎ (page_place (layout_of area) n + PAGE ≤ i)
      page_low n inside low (inl before) = inl (omega (arith, place_low (layout_of area) n low, before))
      page_low n inside low (inr (inl behind)) = inr (omega (arith, place_low (layout_of area) n low, behind, inside))
      page_low n inside low (inr (inr behind)) = inr (omega (arith, place_low (layout_of area) n low, behind, low))

      page_high : (n : ℕ) → n < area.pages → LOWER_PAGES ≤ n → IsBesideUpper area i
          → (i < page_place (layout_of area) n) ⊎ (page_place (layout_of area) n + PAGE ≤ i)
      page_high n inside high (inl before) = inl (omega (arith, place_high (layout_of area) n high, before))
      page_high n inside high (inr behind) =
          inr (omega (arith, place_high (layout_of area) n high, behind, inside, high))

  -- a place of the area is in one of them
  pub is_within : IsInArea area i → IsInLower area i ⊎ IsInUpper area i
  is_within (inl table) = inl (by table.0 table.1 table.2)
    where
      by : (k : Bool) → table_place (layout_of area) k ≤ i → i < table_place (layout_of area) k + PAGE → IsInLower area i
      by false from to = (from, omega (arith, to, least), omega (arith, to))
      by true from to = (omega (arith, from), omega (arith, to, least), omega (arith, to))
  is_within (inr page) = ⊎_elim (λ low. inl (in_lower page.0 page.1.1 low page.2 page.3))
      (λ high. inr (in_upper page.0 page.1.1 high page.2 page.3)) (cases_lt page.0 LOWER_PAGES)
    where
      in_lower : (n : ℕ) → n < area.pages → n < LOWER_PAGES → page_place (layout_of area) n ≤ i
          → i < page_place (layout_of area) n + PAGE → IsInLower area i
      in_lower n inside low from to = (
        omega (arith, place_low (layout_of area) n low, from),
        omega (arith, place_low (layout_of area) n low, to, inside),
        omega (arith, place_low (layout_of area) n low, to, low),
      )

      in_upper : (n : ℕ) → n < area.pages → LOWER_PAGES ≤ n → page_place (layout_of area) n ≤ i
          → i < page_place (layout_of area) n + PAGE → IsInUpper area i
      in_upper n inside high from to = (
        omega (arith, place_high (layout_of area) n high, from),
        omega (arith, place_high (layout_of area) n high, to, inside, high),
      )

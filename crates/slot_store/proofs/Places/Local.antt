-- Tables and pages are what the bytes of their area say, and say what they are.
use Rattle.std.proofs.Common.{◌≡◌, inl, inr, ⊎_elim, ℕ, ◌+◌, ◌-◌, ◌<◌, ◌≤◌, min, Bool, List, length, get_or, sym, ◌∙◌, ap, ap₂, arith}
use Rattle.std.specs.Prelude.{slice_index, slice_range}
use Rattle.std.proofs.lemmas.Bool.{cases_eq}
use Rattle.std.proofs.lemmas.List.{ext_get_or}
use Rattle.dr_base.specs.declared.limits.TheConstants.{PAGE}
use Rattle.dr_disk.proofs.Ranges.{get_or-range, length-range}
use Rattle.pages.specs.Around.{IsInside}
use Rattle.pages.specs.Layouts.{IsPage, page_place, table_place}
use Rattle.pages.specs.Snapshots.{page_of}
use Rattle.pages.specs.Tables.{Table, table_at}
use Rattle.pages.specs.declared.layout.Layout.{Layout}
use Rattle.slot_store.specs.Areas.{Area, layout_of}
use Rattle.slot_store.specs.Laws.{SameWithin}

same_range : (c d : List ℕ) (at end : ℕ) → length c ≡ length d
    → ((i : ℕ) → at ≤ i → i < end → slice_index c i ≡ slice_index d i) → slice_range c at end ≡ slice_range d at end
same_range c d at end size same = ext_get_or 0 (slice_range c at end) (slice_range d at end)
    (length-range c at end ∙ ap (λ n. min (end - at) (n - at)) size ∙ sym (length-range d at end)) (λ k lt.
    let short : k < end - at = omega (arith, length-range c at end) in
    get_or-range c at end k short ∙ same (at + k) (omega arith) (omega arith) ∙ sym (get_or-range d at end k short))

-- a byte of two ranges that are the same
range_byte : (c d : List ℕ) (at end i : ℕ) → slice_range c at end ≡ slice_range d at end → at ≤ i → i < end
    → slice_index c i ≡ slice_index d i
range_byte c d at end i same from to =
    let k : ℕ = i - at in
    let lt : k < end - at = omega arith in
    let is : at + k ≡ i = omega arith in
    ap (λ j. slice_index c j) (sym is) ∙ sym (get_or-range c at end k lt) ∙ ap (λ (l : List ℕ). get_or l k 0) same
    ∙ get_or-range d at end k lt ∙ ap (λ j. slice_index d j) is

abbrev pub as_table : ℕ → List ℕ → Table
as_table gate body = record { gate = gate; body = body }

module _ (area : Area) (c d : List ℕ) where
  abbrev lay : Layout
  lay = layout_of area

  module _ (same : SameWithin area c d) where
    pub same_table : (k : Bool) → table_at lay k c ≡ table_at lay k d
    same_table k =
        let at : ℕ = table_place lay k in
        ap₂ as_table (same.bytes at (inl (k, omega arith, omega arith)))
        (same_range c d (at + 1) (at + PAGE) same.size (λ i low high. same.bytes i (inl (k, omega (arith, low), high))))

    pub same_page : (n : ℕ) → IsPage lay n → page_of lay c n ≡ page_of lay d n
    same_page n is = same_range c d (page_place lay n) (page_place lay n + PAGE) same.size
        (λ i low high. same.bytes i (inr (n, is, low, high)))

  -- ---- and back: where all tables and pages are the same, so is each byte of them
  table_byte : (at i : ℕ) → as_table (slice_index c at) (slice_range c (at + 1) (at + PAGE)) ≡ as_table (slice_index d at) (slice_range d (at + 1) (at + PAGE))
      → at ≤ i → i < at + PAGE → slice_index c i ≡ slice_index d i
  table_byte at i same from to = elim (cases_eq i at) [
    | inl here ↦ ap (λ k. slice_index c k) here ∙ ap (λ t. t.gate) same ∙ ap (λ k. slice_index d k) (sym here)
    | inr behind ↦ range_byte c d (at + 1) (at + PAGE) i (ap (λ t. t.body) same) (omega arith) to
  ]

  module _ (tables : (k : Bool) → table_at lay k c ≡ table_at lay k d)
      (pages : (n : ℕ) → IsPage lay n → page_of lay c n ≡ page_of lay d n) where
    pub same_bytes : (i : ℕ) → IsInside lay i → slice_index c i ≡ slice_index d i
    same_bytes i = ⊎_elim (λ t. table_byte (table_place lay t.0) i (tables t.0) t.1 t.2)
        (λ p. range_byte c d (page_place lay p.0) (page_place lay p.0 + PAGE) i (pages p.0 p.1) p.2 p.3)

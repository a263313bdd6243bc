-- The places of the pages that change, and the pages that are at these places.
use Rattle.std.proofs.Common.{◌≡◌, ℕ, zero, suc, ◌+◌, ◌-◌, ◌*◌, ◌<◌, ◌≤◌, Bool, true, false, List, [], ◌∷◌, length, take, map, refl, sym, ◌∙◌, ap, arith}
use Rattle.std.specs.Prelude.{All, drop, slice_index, slice_index_or, slice_range, if◌then◌else◌}
use Rattle.std.specs.Str.{bytes_eq}
use Rattle.std.proofs.lemmas.List.{ext_get_or, get_or-drop, get_or-map, length-map}
use Rattle.std.proofs.lemmas.List.Elements.{All-cons, All-nil, All-weaker}
use Rattle.dr_base.specs.declared.limits.TheConstants.{PAGE}
use Rattle.record_pages.specs.Pages.{cut, page_at}
use Rattle.record_pages.specs.Plans.{changed, changed_places}
use Rattle.record_pages.proofs.Cuts.{cut_from, cut_rest}

-- ---- how many there are, and where they lie

pub places_count : (i : ℕ) (old new : List (List ℕ)) → length (changed_places i old new) ≡ length (changed old new)
places_count i old [] = refl
places_count i [] (page ∷ new) = ap suc (places_count (suc i) [] new)
places_count i (was ∷ old) (page ∷ new) = by (bytes_eq was page) (places_count (suc i) old new)
  where
    by : (same : Bool) → length (changed_places (suc i) old new) ≡ length (changed old new)
        → length (if same then changed_places (suc i) old new else i ∷ changed_places (suc i) old new)
        ≡ length (if same then changed old new else page ∷ changed old new)
    by true rest = rest
    by false rest = ap suc rest

abbrev IsPlace : ℕ → List (List ℕ) → ℕ → Type 0
IsPlace i new p = (i ≤ p) × (p < i + length new)

places_within : (i : ℕ) (old new : List (List ℕ)) → All (IsPlace i new) (changed_places i old new)
places_within i old [] = All-nil (IsPlace i [])
places_within i [] (page ∷ new) =
    All-cons (IsPlace i (page ∷ new)) i (changed_places (suc i) [] new) (omega arith, omega arith)
    (All-weaker (IsPlace (suc i) new) (IsPlace i (page ∷ new)) (λ p bounds. (omega (arith, bounds.0), omega (arith, bounds.1)))
    (changed_places (suc i) [] new) (places_within (suc i) [] new))
places_within i (was ∷ old) (page ∷ new) =
    by (bytes_eq was page)
    (All-weaker (IsPlace (suc i) new) (IsPlace i (page ∷ new)) (λ p bounds. (omega (arith, bounds.0), omega (arith, bounds.1)))
    (changed_places (suc i) old new) (places_within (suc i) old new))
  where
    by : (same : Bool) → All (IsPlace i (page ∷ new)) (changed_places (suc i) old new)
        → All (IsPlace i (page ∷ new)) (if same then changed_places (suc i) old new else i ∷ changed_places (suc i) old new)
    by true rest = rest
    by false rest = All-cons (IsPlace i (page ∷ new)) i (changed_places (suc i) old new) (omega arith, omega arith) rest

pub place_at : (i : ℕ) (old new : List (List ℕ)) (j : ℕ) → j < length (changed old new)
    → (i ≤ slice_index (changed_places i old new) j) × (slice_index (changed_places i old new) j < i + length new)
place_at i old new j lt = places_within i old new j 0 (omega (arith, lt, places_count i old new))

-- ---- what is there

one_on : (i : ℕ) (page : List ℕ) (new : List (List ℕ)) (p : ℕ) → suc i ≤ p → slice_index_or (page ∷ new) (p - i) [] ≡ slice_index_or new (p - suc i) []
one_on i page new p le = ap (λ k. slice_index_or (page ∷ new) k []) (let e : p - i ≡ suc (p - suc i) = omega (arith, le) in e)

none_on : (i : ℕ) (page : List ℕ) (new : List (List ℕ)) → slice_index_or (page ∷ new) (i - i) [] ≡ page
none_on i page new = ap (λ k. slice_index_or (page ∷ new) k []) (let e : i - i ≡ 0 = omega arith in e)

pub changed_at : (i : ℕ) (old new : List (List ℕ)) (j : ℕ) → j < length (changed old new)
    → slice_index_or new (slice_index (changed_places i old new) j - i) [] ≡ slice_index_or (changed old new) j []
changed_at i old [] j lt = absurd (omega arith)
changed_at i [] (page ∷ new) zero lt = none_on i page new
changed_at i [] (page ∷ new) (suc j) lt =
    let below : j < length (changed [] new) = omega (arith, lt) in
    let bounds = place_at (suc i) [] new j below in
    one_on i page new (slice_index (changed_places (suc i) [] new) j) bounds.0 ∙ changed_at (suc i) [] new j below
changed_at i (was ∷ old) (page ∷ new) j lt =
    by (bytes_eq was page) j lt (λ k below. changed_at (suc i) old new k below)
  where
    by : (same : Bool) (j : ℕ) → j < length (if same then changed old new else page ∷ changed old new)
        → ((k : ℕ) → k < length (changed old new)
        → slice_index_or new (slice_index (changed_places (suc i) old new) k - suc i) [] ≡ slice_index_or (changed old new) k [])
        → slice_index_or (page ∷ new) (slice_index (if same then changed_places (suc i) old new else i ∷ changed_places (suc i) old new) j - i) []
        ≡ slice_index_or (if same then changed old new else page ∷ changed old new) j []
    by true j lt rest =
        let bounds = place_at (suc i) old new j lt in
        one_on i page new (slice_index (changed_places (suc i) old new) j) bounds.0 ∙ rest j lt
    by false zero lt rest = none_on i page new
    by false (suc j) lt rest =
        let below : j < length (changed old new) = omega (arith, lt) in
        let bounds = place_at (suc i) old new j below in
        one_on i page new (slice_index (changed_places (suc i) old new) j) bounds.0 ∙ rest j below

-- ---- in bytes whose first pages are the new ones

pub cut_at : (n at : ℕ) (bytes : List ℕ) → at < n → slice_index_or (cut n bytes) at [] ≡ page_at bytes at
cut_at n at bytes lt =
    ap (λ k. slice_index_or (cut n bytes) k []) (let e : at ≡ at + 0 = omega arith in e)
    ∙ sym (get_or-drop at (cut n bytes) 0 [])
    ∙ ap (λ (l : List (List ℕ)). slice_index_or l 0 []) (cut_from n at bytes lt)

pub page_range : (bytes : List ℕ) (at : ℕ) → page_at bytes at ≡ slice_range bytes (PAGE * at) (PAGE * at + PAGE)
page_range bytes at = ap (λ k. take k (drop (PAGE * at) bytes)) (let e : PAGE ≡ PAGE * at + PAGE - PAGE * at = omega arith in e)

module _ (old new : List (List ℕ)) (n : ℕ) (bytes : List ℕ) (is : new ≡ cut n bytes) where
  place_below : (j : ℕ) → j < length (changed old new) → slice_index (changed_places 0 old new) j < n
  place_below j lt =
      let bounds = place_at 0 old new j lt in
      omega (arith, bounds.1, ap (λ (l : List (List ℕ)). length l) is, cut_rest n 0 bytes)

  pub changed_piece : (j : ℕ) → j < length (changed old new) → slice_index_or (changed old new) j []
      ≡ slice_range bytes (PAGE * slice_index (changed_places 0 old new) j) (PAGE * slice_index (changed_places 0 old new) j + PAGE)
  changed_piece j lt =
      let p : ℕ = slice_index (changed_places 0 old new) j in
      sym (changed_at 0 old new j lt)
      ∙ ap (λ k. slice_index_or new k []) (let e : p - 0 ≡ p = omega arith in e)
      ∙ ap (λ (l : List (List ℕ)). slice_index_or l p []) is
      ∙ cut_at n p bytes (place_below j lt)
      ∙ page_range bytes p

  pub place_inside : PAGE * n ≤ length bytes → (j : ℕ) → j < length (changed_places 0 old new)
      → PAGE * slice_index (changed_places 0 old new) j + PAGE ≤ length bytes
  place_inside fits j lt = omega (arith, fits, place_below j (omega (arith, lt, places_count 0 old new)))

  -- where each fresh number names what was written from its place, the fresh numbers name the pages that change
  pub map_changed : (f : ℕ → List ℕ) (fresh : List ℕ) → length fresh ≡ length (changed old new)
      → ((j : ℕ) → j < length fresh → f (slice_index fresh j)
      ≡ slice_range bytes (PAGE * slice_index (changed_places 0 old new) j) (PAGE * slice_index (changed_places 0 old new) j + PAGE))
      → map f fresh ≡ changed old new
  map_changed f fresh count written =
      ext_get_or [] (map f fresh) (changed old new) (length-map fresh f ∙ count)
      (λ j lt. let below : j < length fresh = omega (arith, lt, length-map fresh f) in
      get_or-map f fresh j 0 [] below ∙ written j below ∙ sym (changed_piece j (omega (arith, below, count))))

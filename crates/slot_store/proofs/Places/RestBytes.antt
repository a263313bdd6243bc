-- At rest an area's bytes are a function of the record and the mark.
use Rattle.std.proofs.Common.{◌≡◌, ◌≢◌, ◌⊎◌, inl, inr, ⊎_elim, ℕ, Bool, true, false, All, List, [], ◌∷◌, map, refl, sym, ◌∙◌, subst}
use Rattle.std.proofs.lemmas.List.Elements.{All-cons, All-head, All-nil, All-tail}
use Rattle.std.specs.Prelude.{not, slice_index}
use Rattle.std.proofs.lemmas.Bool.{cases_eq}
use Rattle.pages.specs.Around.{IsInside}
use Rattle.pages.specs.Layouts.{IsPage}
use Rattle.pages.specs.Resting.{IsShotAtRest as AreAtRest}
use Rattle.pages.specs.Snapshots.{Snapshot, page_of}
use Rattle.pages.specs.Tables.{table_at}
use Rattle.record_pages.specs.Tables.{record_names}
use Rattle.slot_store.specs.Areas.{Area, layout_of}
use Rattle.slot_store.proofs.Places.Local.{same_bytes}

-- a number is one of these, whose pages are the same, or none of them
module _ (area : Area) (f g : ℕ → List ℕ) (m : ℕ) where
  pub named_or_beside : (names : List ℕ) → All (IsPage (layout_of area)) names → map f names ≡ map g names
      → (f m ≡ g m) ⊎ All (λ n. IsPage (layout_of area) n × (n ≢ m)) names
  named_or_beside [] all same = inr (All-nil (λ n. IsPage (layout_of area) n × (n ≢ m)))
  named_or_beside (n ∷ names) all same =
      let head : f n ≡ g n = let e : f n ∷ map f names ≡ g n ∷ map g names = same in cc in
      let tail : map f names ≡ map g names = let e : f n ∷ map f names ≡ g n ∷ map g names = same in cc in
      elim (cases_eq n m) [
        | inl is ↦ inl (subst (λ k. f k ≡ g k) is head)
        | inr isnt ↦ ⊎_elim (λ there. inl there)
            (λ none. inr (All-cons (λ k. IsPage (layout_of area) k × (k ≢ m)) n names (All-head (IsPage (layout_of area)) n names all, isnt) none))
            (named_or_beside names (All-tail (IsPage (layout_of area)) n names all) tail)
      ]

-- two disks on which the same snapshot is at rest
module _ (area : Area) (now : Snapshot) (c d : List ℕ) (named : All (IsPage (layout_of area)) (record_names now.table.body))
    (one : AreAtRest record_names (layout_of area) now c) (other : AreAtRest record_names (layout_of area) now d) where
  both_tables : (k : Bool) → table_at (layout_of area) now.second c ≡ table_at (layout_of area) now.second d
      → table_at (layout_of area) (not now.second) c ≡ table_at (layout_of area) (not now.second) d
      → (s : Bool) → now.second ≡ s → table_at (layout_of area) k c ≡ table_at (layout_of area) k d
  both_tables false a b false is = subst (λ q. table_at (layout_of area) q c ≡ table_at (layout_of area) q d) is a
  both_tables false a b true is = subst (λ q. table_at (layout_of area) (not q) c ≡ table_at (layout_of area) (not q) d) is b
  both_tables true a b false is = subst (λ q. table_at (layout_of area) (not q) c ≡ table_at (layout_of area) (not q) d) is b
  both_tables true a b true is = subst (λ q. table_at (layout_of area) q c ≡ table_at (layout_of area) q d) is a

  tables : (k : Bool) → table_at (layout_of area) k c ≡ table_at (layout_of area) k d
  tables k = both_tables k (one.still.current ∙ sym other.still.current) (one.other ∙ sym other.other) now.second refl

  pages : (m : ℕ) → IsPage (layout_of area) m → page_of (layout_of area) c m ≡ page_of (layout_of area) d m
  pages m is = ⊎_elim (λ same. same) (λ beside. one.blank m is beside ∙ sym (other.blank m is beside))
      (named_or_beside area (page_of (layout_of area) c) (page_of (layout_of area) d) m (record_names now.table.body) named
      (one.still.pages ∙ sym other.still.pages))

  pub rest_bytes : (i : ℕ) → IsInside (layout_of area) i → slice_index c i ≡ slice_index d i
  rest_bytes = same_bytes area c d tables pages

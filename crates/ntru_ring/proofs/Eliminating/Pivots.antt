-- Places that differ, as many as there are, are all the places.
use Rattle.std.proofs.Common.{◌≡◌, ◌≢◌, inl, inr, ℕ, zero, suc, ◌<◌, true, false, eqb, ◌||◌, List, [], ◌∷◌, length, get_or, map, refl, sym, ap, ◌∙◌, arith, subst}
use Rattle.std.specs.List.{AllByRecursion, AllPairs, list_any}
use Rattle.std.proofs.lemmas.Bool.{eqb-true, true≢false, cases_Bool}
use Rattle.std.proofs.lemmas.Bool.Decides.{Decides-eqb, eqb_tells}
use Rattle.std.proofs.lemmas.List.{get_or_default}
use Rattle.std.proofs.lemmas.List.Folds.{Any-from_list_any}
use Rattle.std.proofs.lemmas.Map.Keys.{IsDistinct-cons}
use Rattle.std.proofs.lemmas.Map.Made.{IsDistinct-from_AllPairs}
use Rattle.std.proofs.lemmas.Map.Steps.{length-le_from_distinct_below}

pub get_or-map : (X : Type 0) (p : X → ℕ) (xs : List X) (i : ℕ) (d : X) (e : ℕ) → i < length xs → get_or (map p xs) i e ≡ p (get_or xs i d)
get_or-map X p [] i d e l = absurd (omega arith)
get_or-map X p (x ∷ xs) zero d e l = refl
get_or-map X p (x ∷ xs) (suc i) d e l = get_or-map X p xs i d e (omega arith)

below_at : (n : ℕ) (xs : List ℕ) (p : ℕ) → p < n → ((i : ℕ) → i < length xs → get_or xs i 0 < n) → (i : ℕ) → i < length (p ∷ xs) → get_or (p ∷ xs) i 0 < n
below_at n xs p l b zero m = l
below_at n xs p l b (suc i) m = b i (omega arith)

apart : (xs : List ℕ) (i j z : ℕ) → i < j → j < length xs → get_or xs i 0 ≢ get_or xs j 0 → get_or xs i z ≢ get_or xs j z
apart xs i j z l m d = λ e. d (get_or_default xs i 0 z (omega arith) ∙ e ∙ get_or_default xs j z 0 m)

none_from : (q : ℕ) (xs : List ℕ) → list_any (eqb q) xs ≡ false → AllByRecursion (λ y. eqb q y ≡ false) xs
none_from q [] e = tt
none_from q (x ∷ xs) e = elim (eqb_tells q x) [
  | inl t ↦ absurd (true≢false (ap (λ b. b || list_any (eqb q) xs) (sym t.0) ∙ e))
  | inr t ↦ (t.0, none_from q xs (ap (λ b. b || list_any (eqb q) xs) (sym t.0) ∙ e))
]

found : (q : ℕ) (xs : List ℕ) → list_any (eqb q) xs ≡ true → (i : ℕ) × (i < length xs) × (get_or xs i 0 ≡ q)
found q xs e =
    let a = Any-from_list_any (eqb q) xs e in
    (a.0, a.2, get_or_default xs a.0 0 a.1 a.2 ∙ a.3 ∙ sym (eqb-true q a.1 a.4))

below_from : (n : ℕ) (xs : List ℕ) (p : ℕ) → p < n → ((i : ℕ) → i < length xs → get_or xs i 0 < n) → (q : ℕ) → list_any (eqb q) (p ∷ xs) ≡ true → q < n
below_from n xs p l b q e =
    let f = found q (p ∷ xs) e in
    subst (λ (t : ℕ). t < n) f.2 (below_at n xs p l b f.0 f.1)

-- among n places that differ, all below n, each place stands
pub covers : (n : ℕ) (xs : List ℕ) → length xs ≡ n → ((i : ℕ) → i < length xs → get_or xs i 0 < n) → ((i j : ℕ) → i < j → j < length xs → get_or xs i 0 ≢ get_or xs j 0)
    → (q : ℕ) → q < n → (i : ℕ) × (i < length xs) × (get_or xs i 0 ≡ q)
covers n xs e b d q l =
    elim (cases_Bool (list_any (eqb q) xs)) [
      | inl t ↦ found q xs t
      | inr f ↦
          let pairs : AllPairs (λ (x y : ℕ). x ≢ y) xs = λ i j z m k. apart xs i j z m k (d i j m k) in
          let s = IsDistinct-cons eqb q xs (none_from q xs f) (IsDistinct-from_AllPairs Decides-eqb xs pairs) in
          let c = length-le_from_distinct_below (q ∷ xs) n s (below_from n xs q l b) in
          absurd (omega (arith, c))
    ]

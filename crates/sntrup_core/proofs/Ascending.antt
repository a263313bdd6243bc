-- A list in ascending order that has the same numbers as another is what `ascending` gives of it.
use Rattle.std.proofs.Common.{◌≡◌, ℕ, suc, ◌+◌, ◌<◌, ◌≤◌, List, [], ◌∷◌, length, cond, leb, refl, ap, sym, ◌∙◌, inl, inr, arith, All}
use Rattle.std.specs.List.{sum_by}
use Rattle.std.specs.List.Sorted.{IsPermutation, IsSorted, IsNonDecreasing}
use Rattle.std.specs.Ordering.{nat_cmp}
use Rattle.std.proofs.lemmas.Bool.{cases_lt, cond_both, cond-true, cond-false, leb-true, leb-false, le-leb, lt-leb}
use Rattle.std.proofs.lemmas.List.Elements.{All-cons, All-head, All-tail, All-nil, All-weaker}
use Rattle.std.proofs.lemmas.List.Sums.{sum_by-cons}
use Rattle.std.proofs.lemmas.List.Sorted.{sum_by-IsPermutation, length_permutation, IsNonDecreasingBy-from_sort}
use Rattle.sntrup_core.specs.Sampling.{inserted, ascending}

-- each number is at most those after it
Ascends : List ℕ → Type 0
Ascends [] = Unit {0}
Ascends (x ∷ xs) = All (λ y. x ≤ y) xs × Ascends xs

pub All-inserted : (P : ℕ → Type 0) (x : ℕ) (xs : List ℕ) → P x → All P xs → All P (inserted x xs)
unfolding inserted
All-inserted P x [] p a = All-cons P x [] p a
All-inserted P x (y ∷ xs) p a =
    cond_both (leb x y) (x ∷ y ∷ xs) (y ∷ inserted x xs) (λ zs. All P zs)
    (λ t. All-cons P x (y ∷ xs) p a)
    (λ f. All-cons P y (inserted x xs) (All-head P y xs a) (All-inserted P x xs p (All-tail P y xs a)))

pub All-ascending : (P : ℕ → Type 0) (xs : List ℕ) → All P xs → All P (ascending xs)
unfolding ascending
All-ascending P [] a = a
All-ascending P (x ∷ xs) a = All-inserted P x (ascending xs) (All-head P x xs a) (All-ascending P xs (All-tail P x xs a))

Ascends-inserted : (x : ℕ) (xs : List ℕ) → Ascends xs → Ascends (inserted x xs)
unfolding Ascends inserted
Ascends-inserted x [] s = (All-nil (λ y. x ≤ y), tt)
Ascends-inserted x (y ∷ xs) s =
    cond_both (leb x y) (x ∷ y ∷ xs) (y ∷ inserted x xs) Ascends
    (λ t. let below = leb-true x y t in (
      All-cons (λ z. x ≤ z) y xs below
          (All-weaker (λ z. y ≤ z) (λ z. x ≤ z) (λ z h. omega arith) xs s.0),
      s,
    ))
    (λ f. let above = leb-false x y f in (All-inserted (λ z. y ≤ z) x xs (omega arith) s.0, Ascends-inserted x xs s.1))

Ascends-ascending : (xs : List ℕ) → Ascends (ascending xs)
unfolding Ascends ascending
Ascends-ascending [] = tt
Ascends-ascending (x ∷ xs) = Ascends-inserted x (ascending xs) (Ascends-ascending xs)

sum_by-inserted : (f : ℕ → ℕ) (x : ℕ) (xs : List ℕ) → sum_by f (inserted x xs) ≡ f x + sum_by f xs
unfolding inserted
sum_by-inserted f x [] = sum_by-cons f x []
sum_by-inserted f x (y ∷ xs) =
    cond_both (leb x y) (x ∷ y ∷ xs) (y ∷ inserted x xs) (λ zs. sum_by f zs ≡ f x + sum_by f (y ∷ xs))
    (λ t. sum_by-cons f x (y ∷ xs))
    (λ u. let i = sum_by-inserted f x xs in let a = sum_by-cons f y (inserted x xs) in let b =
    sum_by-cons f y xs in omega arith)

pub sum_by-ascending : (f : ℕ → ℕ) (xs : List ℕ) → sum_by f (ascending xs) ≡ sum_by f xs
unfolding ascending
sum_by-ascending f [] = refl
sum_by-ascending f (x ∷ xs) =
    sum_by-inserted f x (ascending xs) ∙ ap (λ n. f x + n) (sum_by-ascending f xs) ∙ sym (sum_by-cons f x xs)

length-inserted : (x : ℕ) (xs : List ℕ) → length (inserted x xs) ≡ suc (length xs)
unfolding inserted
length-inserted x [] = refl
length-inserted x (y ∷ xs) =
    cond_both (leb x y) (x ∷ y ∷ xs) (y ∷ inserted x xs) (λ zs. length zs ≡ suc (suc (length xs))) (λ t. refl)
    (λ f. ap suc (length-inserted x xs))

pub length-ascending : (xs : List ℕ) → length (ascending xs) ≡ length xs
unfolding ascending
length-ascending [] = refl
length-ascending (x ∷ xs) = length-inserted x (ascending xs) ∙ ap suc (length-ascending xs)

-- ---- an ascending list is known by how many of its numbers are at most v, for each v
at_most : ℕ → ℕ → ℕ
at_most v x = cond (leb x v) 1 0

none_at_most : (v : ℕ) (xs : List ℕ) → All (λ y. v < y) xs → sum_by (at_most v) xs ≡ 0
unfolding at_most
none_at_most v [] a = refl
none_at_most v (x ∷ xs) a =
    let rest = none_at_most v xs (All-tail (λ y. v < y) x xs a) in
    let here : at_most v x ≡ 0 = cond-false (leb x v) 1 0 (lt-leb x v (All-head (λ y. v < y) x xs a)) in
    let all = sum_by-cons (at_most v) x xs in
    omega arith

head_counts : (x : ℕ) (xs : List ℕ) → 0 < sum_by (at_most x) (x ∷ xs)
unfolding at_most
head_counts x xs =
    let here : at_most x x ≡ 1 = cond-true (leb x x) 1 0 (le-leb x x (omega arith)) in
    let all = sum_by-cons (at_most x) x xs in
    omega arith

head_below : (x y : ℕ) (xs ys : List ℕ) → Ascends (x ∷ xs) → sum_by (at_most y) (x ∷ xs) ≡ sum_by (at_most y) (y ∷ ys)
    → x ≤ y
unfolding Ascends
head_below x y xs ys s e =
    elim (cases_lt y x) [
      | inl h ↦
          let above = All-cons (λ z. y < z) x xs h (All-weaker (λ z. x ≤ z) (λ z. y < z) (λ z l. omega arith) xs s.0) in
          let none = none_at_most y (x ∷ xs) above in
          let some = head_counts y ys in
          absurd (omega arith)
      | inr h ↦ h
    ]

same_from_counts : (xs ys : List ℕ) → Ascends xs → Ascends ys → length xs ≡ length ys
    → ((v : ℕ) → sum_by (at_most v) xs ≡ sum_by (at_most v) ys) → xs ≡ ys
unfolding Ascends
same_from_counts [] [] s t l e = refl
same_from_counts [] (y ∷ ys) s t l e = absurd (omega arith)
same_from_counts (x ∷ xs) [] s t l e = absurd (omega arith)
same_from_counts (x ∷ xs) (y ∷ ys) s t l e =
    let low = head_below x y xs ys s (e y) in
    let high = head_below y x ys xs t (sym (e x)) in
    let head : x ≡ y = omega arith in
    let rest = same_from_counts xs ys s.1 t.1 (omega arith) (λ v.
    let here = ap (at_most v) head in
    let all = sum_by-cons (at_most v) x xs in
    let other = sum_by-cons (at_most v) y ys in
    let both = e v in
    omega arith) in
    cc

Ascends-from : (xs : List ℕ) → IsNonDecreasing xs → Ascends xs
unfolding Ascends
Ascends-from [] s = tt
Ascends-from (x ∷ xs) s = (
  λ k d h. s 0 (suc k) d (omega arith) (omega arith),
  Ascends-from xs
      (λ i j d h l. s (suc i) (suc j) d (omega arith) (omega arith)),
)

-- what a sort leaves
pub sorted_is : (xs ys : List ℕ) → IsPermutation xs ys → IsSorted nat_cmp ys → ys ≡ ascending xs
sorted_is xs ys p s =
    same_from_counts ys (ascending xs) (Ascends-from ys (IsNonDecreasingBy-from_sort (λ x. x) ys s)) (Ascends-ascending xs)
    (length_permutation xs ys p ∙ sym (length-ascending xs))
    (λ v. sum_by-IsPermutation (at_most v) xs ys p ∙ sym (sum_by-ascending (at_most v) xs))

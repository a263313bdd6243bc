-- `inverse` gives the inverse of an element that has one, and nothing where an annihilator shows that there is none.
use Rattle.std.proofs.Common.{◌≡◌, ◌⊎◌, inl, inr, ℕ, zero, suc, ◌+◌, ◌-◌, ◌*◌, ◌<◌, Bool, true, false, Option, Some, None, List, [], ◌∷◌, ◌++◌, length, get_or, map, ℤ, pos, ◌-ℤ◌, refl, ap, sym, ◌∙◌, subst, arith, All}
use Rattle.std.specs.List.{Contains, find, flat_map}
use Rattle.std.specs.Cmp.Rules.{signed_items}
use Rattle.std.proofs.lemmas.Int.{ints}
use Rattle.std.proofs.lemmas.Bool.{cases_Bool, cond-true, cond-false, false≢true}
use Rattle.std.proofs.lemmas.List.{length-map, get_or-map}
use Rattle.std.proofs.lemmas.List.FromFn.{length-map-range_with_len, get_or-map-range_with_len}
use Rattle.std.proofs.lemmas.List.Concat.{flat_map-cons}
use Rattle.std.proofs.lemmas.List.Elements.{All-nil, All-cons, All-head, All-tail, All-append, All-map, All-same, All-contains, Contains-append_left, Contains-append_right}
use borrow.Author.Differences.{up, down}
use Rattle.ntru_ring.specs.Ring.{times, one_of}
use Rattle.ntru_ring.specs.Reduction.{reduced, IsWithin, IsInverse, Annihilates}
use Rattle.ntru_ring.proofs.Eliminating.Uniqueness.{inverse_unique, no_inverse}
use Rattle.sntrup_core.specs.Inverse.{residues, elements, is_inverse, inverse}

-- ---- searches
pub option_cases : {X : Type 0} (o : Option X) → (o ≡ None) ⊎ ((x : X) × (o ≡ Some x))
option_cases None = inl refl
option_cases (Some x) = inr (x, refl)

find-passes : {X : Type 0} (p : X → Bool) (xs : List X) (y : X) → find p xs ≡ Some y → (p y ≡ true) × Contains xs y
find-passes p [] y e = absurd (let f : None ≡ Some y = e in cc)
find-passes p (x ∷ xs) y e =
    elim (cases_Bool (p x)) [
      | inl t ↦
          let found : Some x ≡ Some y = sym (cond-true (p x) (Some x) (find p xs) t) ∙ e in
          let same : x ≡ y = cc in
          (ap p (sym same) ∙ t, (0, omega arith, same))
      | inr f ↦
          let rest = find-passes p xs y (sym (cond-false (p x) (Some x) (find p xs) f) ∙ e) in
          (rest.0, Contains-append_right (x ∷ []) xs y rest.1)
    ]

find-fails : {X : Type 0} (p : X → Bool) (xs : List X) → find p xs ≡ None → All (λ x. p x ≡ false) xs
find-fails p [] e = All-nil (λ x. p x ≡ false)
find-fails p (x ∷ xs) e =
    elim (cases_Bool (p x)) [
      | inl t ↦ absurd (let found : Some x ≡ None = sym (cond-true (p x) (Some x) (find p xs) t) ∙ e in cc)
      | inr f ↦ All-cons (λ x. p x ≡ false) x xs f (find-fails p xs (sym (cond-false (p x) (Some x) (find p xs) f) ∙ e))
    ]

-- ---- lists of lists
All-flat_map : {X Y : Type 0} (P : Y → Type 0) (f : X → List Y) (xs : List X) → All (λ x. All P (f x)) xs
    → All P (flat_map f xs)
All-flat_map P f [] a = All-nil P
All-flat_map P f (x ∷ xs) a =
    All-same P (flat_map f (x ∷ xs)) (f x ++ flat_map f xs) (flat_map-cons f x xs)
    (All-append P (f x) (flat_map f xs) (All-head (λ x. All P (f x)) x xs a)
    (All-flat_map P f xs (All-tail (λ x. All P (f x)) x xs a)))

Contains-map : {X Y : Type 0} (f : X → Y) (xs : List X) (x : X) → Contains xs x → Contains (map f xs) (f x)
Contains-map f xs x c = (c.0, omega (arith, length-map xs f, c.1), get_or-map f xs c.0 x (f x) c.1 ∙ ap f c.2)

Contains-flat_map : {X Y : Type 0} (f : X → List Y) (xs : List X) (x : X) (y : Y) → Contains xs x → Contains (f x) y
    → Contains (flat_map f xs) y
Contains-flat_map f [] x y (k, l, e) c = absurd (omega arith)
Contains-flat_map f (z ∷ xs) x y (zero, l, e) c =
    subst (λ ys. Contains ys y) (sym (flat_map-cons f z xs))
    (Contains-append_left (f z) (flat_map f xs) y (subst (λ w. Contains (f w) y) (sym e) c))
Contains-flat_map f (z ∷ xs) x y (suc k, l, e) c =
    subst (λ ys. Contains ys y) (sym (flat_map-cons f z xs))
    (Contains-append_right (f z) (flat_map f xs) y (Contains-flat_map f xs x y (k, omega arith, e) c))

-- ---- all elements
Contains-residues : (h : ℕ) (z : ℤ) → IsWithin h z → Contains (residues h) z
unfolding residues
Contains-residues h z w =
    let k : ℕ = up z + h - down z in
    let number : ℕ → ℤ = λ j. pos j -ℤ pos h in
    let here : k < 2 * h + 1 = omega (arith, ints, w.low, w.high) in
    let is : number k ≡ z = omega (arith, ints, w.low, w.high) in (
      k,
      omega (arith, length-map-range_with_len number 0 (2 * h + 1)),
      get_or-map-range_with_len number 0 (2 * h + 1) k k z here (omega arith) ∙ is,
    )

residues-within : (h : ℕ) → All (IsWithin h) (residues h)
unfolding residues
residues-within h =
    let number : ℕ → ℤ = λ j. pos j -ℤ pos h in
    λ k d l.
    let here : k < 2 * h + 1 = omega (arith, length-map-range_with_len number 0 (2 * h + 1)) in
    subst (IsWithin h) (sym (get_or-map-range_with_len number 0 (2 * h + 1) k k d here (omega arith)))
    (record { low = omega (arith, ints); high = omega (arith, ints) })

-- an element of n coefficients in -h..h
record IsElement (h n : ℕ) (a : List ℤ) : Type 0 where
  pub long : length a ≡ n
  pub within : All (IsWithin h) a

elements-are : (h n : ℕ) → All (IsElement h n) (elements h n)
unfolding elements
elements-are h zero = All-cons (IsElement h 0) [] [] (record { long = refl; within = All-nil (IsWithin h) })
    (All-nil (IsElement h 0))
elements-are h (suc n) =
    All-flat_map (IsElement h (suc n)) (λ a. map (λ c. c ∷ a) (residues h)) (elements h n) (λ k d l.
    let a = get_or (elements h n) k d in
    let is = elements-are h n k d l in
    All-map (IsElement h (suc n)) (λ c. c ∷ a) (residues h) (λ j e m.
    record {
      long = ap suc is.long;
      within = All-cons (IsWithin h) (get_or (residues h) j e) a (residues-within h j e m) is.within;
    }))

Contains-elements : (h n : ℕ) (a : List ℤ) → length a ≡ n → All (IsWithin h) a → Contains (elements h n) a
unfolding elements
Contains-elements h zero [] l w = (0, omega arith, refl)
Contains-elements h zero (c ∷ a) l w = absurd (omega arith)
Contains-elements h (suc n) [] l w = absurd (omega arith)
Contains-elements h (suc n) (c ∷ a) l w =
    let rest = Contains-elements h n a (omega arith) (All-tail (IsWithin h) c a w) in
    let here = Contains-residues h c (All-head (IsWithin h) c a w) in
    Contains-flat_map (λ a. map (λ c. c ∷ a) (residues h)) (elements h n) a (c ∷ a) rest
    (Contains-map (λ c. c ∷ a) (residues h) c here)

-- ---- inverses
-- what is found is an inverse
pub record IsFound (h : ℕ) (g v : List ℤ) : Type 0 where
  pub inverts : IsInverse h g v
  pub long : length v ≡ length g
  pub within : All (IsWithin h) v

pub inverse-some : (h : ℕ) (g v : List ℤ) → inverse h g ≡ Some v → IsFound h g v
unfolding inverse is_inverse
inverse-some h g v e =
    let found = find-passes (is_inverse h g) (elements h (length g)) v e in
    let is = All-contains (IsElement h (length g)) (elements h (length g)) v (elements-are h (length g)) found.1 in
    record {
      inverts = (signed_items (reduced h (times g v)) (one_of (length g))).0 found.0;
      long = is.long;
      within = is.within;
    }

-- an inverse is what is found
pub inverse-found : (h n : ℕ) (g v : List ℤ) → length g ≡ suc n → length v ≡ suc n → All (IsWithin h) v
    → IsInverse h g v → inverse h g ≡ Some v
unfolding inverse is_inverse
inverse-found h n g v lg lv w i =
    elim (option_cases (inverse h g)) [
      | inl e ↦
          let fails = find-fails (is_inverse h g) (elements h (length g)) e in
          let passes = (signed_items (reduced h (times g v)) (one_of (length g))).1 i in
          let fail = All-contains (λ x. is_inverse h g x ≡ false) (elements h (length g)) v fails
          (Contains-elements h (length g) v (lv ∙ sym lg) w) in
          absurd (false≢true (sym fail ∙ passes))
      | inr s ↦
          let found = inverse-some h g s.0 s.1 in
          s.1 ∙ ap Some (inverse_unique h n g s.0 v lg (found.long ∙ lg) lv found.within w found.inverts i)
    ]

-- an annihilated element has none
pub inverse-none : (h n : ℕ) (g z : List ℤ) → length g ≡ suc n → length z ≡ suc n → All (IsWithin h) z
    → Annihilates h g z → inverse h g ≡ None
inverse-none h n g z lg lz w a =
    elim (option_cases (inverse h g)) [
      | inl e ↦ e
      | inr s ↦ let found = inverse-some h g s.0 s.1 in absurd
          (no_inverse h n g s.0 z lg (found.long ∙ lg) lz w found.inverts a)
    ]

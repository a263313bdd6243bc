-- The element at the one place where a test passes: found, and taken out.
use Rattle.std.proofs.Common.{◌≡◌, ◌≢◌, ℕ, zero, suc, ◌<◌, ◌≤◌, Bool, true, false, cond, List, [], ◌∷◌, length, get_or, Some, None, refl, ap, ◌∙◌, arith}
use Rattle.std.specs.Prelude.{not, filter, find, remove, position}
use Rattle.std.specs.List.{position_or_len}
use Rattle.std.proofs.lemmas.Bool.Decides.{nat_tests}

module _ {X : Type 0} (p : X → Bool) where
  -- where no element passes, none is taken out
  pub filter-none : (xs : List X) → ((k : ℕ) (d : X) → k < length xs → p (get_or xs k d) ≡ false) → filter (λ x. not (p x)) xs ≡ xs
  filter-none [] h = refl
  filter-none (x ∷ xs) h =
      let first : p x ≡ false = h 0 x (omega arith) in
      let rest = filter-none xs (λ k d below. h (suc k) d (omega arith)) in
      ap (λ b. cond (not b) (x ∷ filter (λ y. not (p y)) xs) (filter (λ y. not (p y)) xs)) first ∙ ap (λ ys. x ∷ ys) rest

  -- where one element alone passes, it alone is taken out
  pub filter-one : (xs : List X) (i : ℕ) → i < length xs → ((d : X) → p (get_or xs i d) ≡ true)
      → ((k : ℕ) (d : X) → k < length xs → k ≢ i → p (get_or xs k d) ≡ false) → filter (λ x. not (p x)) xs ≡ remove xs i
  filter-one [] i below here others = absurd (omega arith)
  filter-one (x ∷ xs) zero below here others =
      let rest = filter-none xs (λ k d lt. others (suc k) d (omega arith) (omega arith)) in
      ap (λ b. cond (not b) (x ∷ filter (λ y. not (p y)) xs) (filter (λ y. not (p y)) xs)) (here x) ∙ rest
  filter-one (x ∷ xs) (suc i) below here others =
      let first : p x ≡ false = others 0 x (omega arith) (omega arith) in
      let rest = filter-one xs i (omega arith) here (λ k d lt ne. others (suc k) d (omega arith) (omega arith)) in
      ap (λ b. cond (not b) (x ∷ filter (λ y. not (p y)) xs) (filter (λ y. not (p y)) xs)) first ∙ ap (λ ys. x ∷ ys) rest

  -- the first element that passes
  pub find-first : (xs : List X) (i : ℕ) (d : X) → i < length xs → p (get_or xs i d) ≡ true
      → ((k : ℕ) → k < i → p (get_or xs k d) ≡ false) → find p xs ≡ Some (get_or xs i d)
  find-first [] i d below here before = absurd (omega arith)
  find-first (x ∷ xs) zero d below here before = ap (λ b. cond b (Some x) (find p xs)) here
  find-first (x ∷ xs) (suc i) d below here before =
      let first : p x ≡ false = before 0 (omega arith) in
      ap (λ b. cond b (Some x) (find p xs)) first
      ∙ find-first xs i d (omega arith) here (λ k lt. before (suc k) (omega arith))

  -- no element passes
  pub find-none : (xs : List X) → ((k : ℕ) (d : X) → k < length xs → p (get_or xs k d) ≡ false) → find p xs ≡ None
  find-none [] h = refl
  find-none (x ∷ xs) h =
      let first : p x ≡ false = h 0 x (omega arith) in
      ap (λ b. cond b (Some x) (find p xs)) first ∙ find-none xs (λ k d below. h (suc k) d (omega arith))

  -- what the front does not pass over does not end before the list
  front_fails : (xs : List X) → length xs ≤ position_or_len p xs → (k : ℕ) (d : X) → k < length xs → p (get_or xs k d) ≡ false
  front_fails [] h k d below = absurd (omega arith)
  front_fails (x ∷ xs) h zero d below = grind (arith, nat_tests)
  front_fails (x ∷ xs) h (suc k) d below = front_fails xs (grind (arith, nat_tests)) k d (omega arith)

  -- no place is found only where no element passes
  pub position-None : (xs : List X) → position p xs ≡ None → (k : ℕ) (d : X) → k < length xs → p (get_or xs k d) ≡ false
  position-None xs h = front_fails xs (grind (arith, nat_tests))

  -- a filter that keeps what passes leaves the first such element
  pub find-filter : (q : X → Bool) → ((x : X) → q x ≡ true → p x ≡ true) → (xs : List X) → find q (filter p xs) ≡ find q xs
  find-filter q kept [] = refl
  find-filter q kept (x ∷ xs) =
      let rest = find-filter q kept xs in
      let here = kept x in
      grind arith

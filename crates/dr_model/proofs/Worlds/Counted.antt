-- How many elements of a list pass a test, with one more; how often a position was opened.
use Rattle.std.proofs.Common.{◌≡◌, ℕ, ◌+◌, ◌≤◌, Bool, true, false, List, [], ◌∷◌, ◌++◌, count_by, refl, sym, ◌∙◌, ap, subst, arith, cond}
use Rattle.std.specs.List.{list_any}
use Rattle.std.specs.Prelude.{◌||◌}
use Rattle.std.proofs.lemmas.List.Sums.{sum_by-cons, sum_by_push}
use Rattle.dr_base.specs.Position.{is_at}
use Rattle.dr_base.specs.declared.position.Position.{Position}
use Rattle.dr_base.proofs.Positions.{is_at-same}

-- one step of the next lemma
none_step : (a r : Bool) (n : ℕ) → (r ≡ false → n ≡ 0) → (a || r) ≡ false → cond a 1 0 + n ≡ 0
none_step true r n none h = cc
none_step false r n none h = let e : n ≡ 0 = none h in omega arith

-- what isn't there is counted 0 times
pub count_by-none : {A : Type 0} (p : A → Bool) (xs : List A) → list_any p xs ≡ false → count_by p xs ≡ 0
count_by-none p [] h = refl
count_by-none p (x ∷ xs) h =
    sum_by-cons (λ y. cond (p y) 1 0) x xs ∙ none_step (p x) (list_any p xs) (count_by p xs) (count_by-none p xs) h

-- what is there is counted once at least
some_step : (a r : Bool) (n : ℕ) → (r ≡ true → 1 ≤ n) → (a || r) ≡ true → 1 ≤ cond a 1 0 + n
some_step true r n some h = omega arith
some_step false r n some h = let e : 1 ≤ n = some h in omega arith

pub count_some : {A : Type 0} (p : A → Bool) (xs : List A) → list_any p xs ≡ true → 1 ≤ count_by p xs
count_some p [] h = absurd (let e : false ≡ true = h in cc)
count_some p (x ∷ xs) h =
    subst (λ n. 1 ≤ n) (sym (sum_by-cons (λ y. cond (p y) 1 0) x xs))
    (some_step (p x) (list_any p xs) (count_by p xs) (count_some p xs) h)

-- one more is counted if it passes the test
pub count_push : {A : Type 0} (p : A → Bool) (xs : List A) (x : A) (a : Bool) → p x ≡ a
    → count_by p (xs ++ x ∷ []) ≡ count_by p xs + cond a 1 0
count_push p xs x a h = sum_by_push (λ y. cond (p y) 1 0) xs x ∙ ap (λ b. count_by p xs + cond b 1 0) h

-- a position that is counted at most once still is, with one more that wasn't there
pub count_new : (ps : List Position) (q p : Position) (at : Bool) → is_at p q ≡ at → list_any (is_at q) ps ≡ false
    → count_by (is_at p) ps ≤ 1 → count_by (is_at p) (ps ++ q ∷ []) ≤ 1
count_new ps q p true e new h =
    let none : list_any (is_at p) ps ≡ false = subst (λ r. list_any (is_at r) ps ≡ false) (is_at-same p q e) new in
    let before : count_by (is_at p) ps ≡ 0 = count_by-none (is_at p) ps none in
    let now : count_by (is_at p) (ps ++ q ∷ []) ≡ count_by (is_at p) ps + 1 = count_push (is_at p) ps q true e in
    omega arith
count_new ps q p false e new h =
    let now : count_by (is_at p) (ps ++ q ∷ []) ≡ count_by (is_at p) ps + 0 = count_push (is_at p) ps q false e in
    omega arith

-- Positions of which none stands twice in a list.
use Rattle.std.proofs.Common.{◌≡◌, ℕ, zero, suc, ◌+◌, ◌≤◌, Bool, true, false, not, List, [], ◌∷◌, ◌++◌, take, drop, refl, sym, ◌∙◌, ap, subst, arith, inl, inr}
use Rattle.std.specs.Prelude.{◌&&◌, ◌||◌, All, cond, count_by, filter, if◌then◌else◌, slice_index_or}
use Rattle.std.specs.List.{list_any}
use Rattle.std.proofs.lemmas.Bool.{cases_Bool, or_from, or_left, or_right}
use Rattle.std.proofs.lemmas.List.Elements.{All-head, All-tail}
use Rattle.std.proofs.lemmas.List.Folds.{list_any-append, list_any_at}
use Rattle.std.proofs.lemmas.List.Sums.{sum_by-cons}
use Rattle.std.proofs.lemmas.Map.Views.{any-filter_same}
use Rattle.bodies.proofs.Enough.{none_first}
use Rattle.dr_base.specs.Position.{is_at}
use Rattle.dr_base.specs.declared.position.Position.{Position}
use Rattle.dr_base.proofs.Positions.{is_at-itself, is_at-same}
use Rattle.dr_model.specs.Conversations.Standing.{AreApart, is_in}

-- ---- what is in a list

pub all_in : (list : List Position) → All (λ p. is_in list p ≡ true) list
all_in list = λ i d inside. let p = slice_index_or list i d in list_any_at (is_at p) list i d inside (is_at-itself p)

-- what holds of all holds of a position that stands there
pub any_all : (P : Position → Type 0) (p : Position) (ps : List Position) → All P ps → list_any (is_at p) ps ≡ true → P p
any_all P p [] all there = cc
any_all P p (q ∷ ps) all there =
    elim (cases_Bool (is_at p q)) as (λ _. P p) [
      | inl here ↦ subst P (is_at-same p q here) (All-head P q ps all)
      | inr other ↦ any_all P p ps (All-tail P q ps all) (behind (is_at p q) (list_any (is_at p) ps) other there)
    ]
  where
    behind : (a b : Bool) → a ≡ false → (a || b) ≡ true → b ≡ true
    behind true b is h = cc
    behind false b is h = h

pub in_filter : (test : Position → Bool) (list : List Position) (p : Position)
    → is_in (filter test list) p ≡ (test p && is_in list p)
in_filter test list p = any-filter_same (is_at p) test (test p) (λ q at. ap test (is_at-same p q at)) list

-- tests that agree on a list keep the same of it
pub filter_alike : (f g : Position → Bool) (list : List Position) → ((p : Position) → is_in list p ≡ true → f p ≡ g p)
    → filter f list ≡ filter g list
filter_alike f g [] same = refl
filter_alike f g (q ∷ list) same =
    by_test (f q) (g q) (same q (or_left (is_at q q) (is_in list q) (is_at-itself q)))
    (filter_alike f g list (λ p is. same p (or_right (is_at p q) (is_in list p) is)))
  where
    by_test : (s t : Bool) → s ≡ t → filter f list ≡ filter g list
        → (if s then q ∷ filter f list else filter f list) ≡ (if t then q ∷ filter g list else filter g list)
    by_test true true here later = ap (λ (l : List Position). q ∷ l) later
    by_test true false here later = absurd (let e : true ≡ false = here in cc)
    by_test false true here later = absurd (let e : false ≡ true = here in cc)
    by_test false false here later = later

-- none of a list is kept, where none passes
pub filter_none : (test : Position → Bool) (list : List Position) → ((p : Position) → is_in list p ≡ true → test p ≡ false)
    → filter test list ≡ []
filter_none test list none = filter_alike test (λ _. false) list none ∙ nothing list
  where
    nothing : (l : List Position) → filter (λ _. false) l ≡ []
    nothing [] = refl
    nothing (q ∷ l) = nothing l

-- ---- each once

pub apart_filter : (test : Position → Bool) (list : List Position) → AreApart list → AreApart (filter test list)
apart_filter test [] apart = tt
apart_filter test (q ∷ list) apart =
    by_test (test q) (apart_filter test list apart.1)
    (in_filter test list q ∙ ap (λ b. test q && b) apart.0 ∙ never (test q))
  where
    never : (b : Bool) → (b && false) ≡ false
    never true = refl
    never false = refl

    by_test : (t : Bool) → AreApart (filter test list) → is_in (filter test list) q ≡ false
        → AreApart (if t then q ∷ filter test list else filter test list)
    by_test true later none = (none, later)
    by_test false later none = later

pub apart_take : (list : List Position) (n : ℕ) → AreApart list → AreApart (take n list)
apart_take list zero apart = tt
apart_take [] (suc n) apart = tt
apart_take (q ∷ list) (suc n) apart = (none_first q q list n apart.0, apart_take list n apart.1)

pub apart_append : (xs ys : List Position) → AreApart xs → AreApart ys → ((p : Position) → is_in xs p ≡ true → is_in ys p ≡ false)
    → AreApart (xs ++ ys)
apart_append [] ys one two none = two
apart_append (q ∷ xs) ys one two none = (
  list_any-append (is_at q) xs ys ∙ or_from (is_in xs q) (is_in ys q) one.0 (none q (or_left (is_at q q) (is_in xs q) (is_at-itself q))),
  apart_append xs ys one.1 two (λ p is. none p (or_right (is_at p q) (is_in xs p) is)),
)

-- what isn't among the first n is the rest
pub without_first : (list : List Position) (n : ℕ) → AreApart list → filter (λ p. not (is_in (take n list) p)) list ≡ drop n list
without_first list zero apart = all_stay list
  where
    all_stay : (l : List Position) → filter (λ p. not (is_in [] p)) l ≡ l
    all_stay [] = refl
    all_stay (q ∷ l) = ap (λ (r : List Position). q ∷ r) (all_stay l)
without_first [] (suc n) apart = refl
without_first (q ∷ list) (suc n) apart =
    goes (is_at q q || is_in (take n list) q) (or_left (is_at q q) (is_in (take n list) q) (is_at-itself q))
    ∙ filter_alike (λ p. not (is_at p q || is_in (take n list) p)) (λ p. not (is_in (take n list) p)) list
    (λ p is. ap (λ b. not (b || is_in (take n list) p)) (elsewhere p is))
    ∙ without_first list n apart.1
  where
    rest : List Position
    rest = filter (λ p. not (is_at p q || is_in (take n list) p)) list

    goes : (b : Bool) → b ≡ true → (if not b then q ∷ rest else rest) ≡ rest
    goes true is = refl
    goes false is = absurd (let e : false ≡ true = is in cc)

    elsewhere : (p : Position) → is_in list p ≡ true → is_at p q ≡ false
    elsewhere p is = elim (cases_Bool (is_at p q)) as (λ _. is_at p q ≡ false) [
      | inl here ↦
          let e : true ≡ false = sym is ∙ ap (λ (x : Position). is_in list x) (sym (is_at-same p q here)) ∙ apart.0 in absurd (cc e)
      | inr isnt ↦ isnt
    ]

-- ---- what is counted once at most

counted : (p q : Position) (xs : List Position) (at : Bool) → is_at p q ≡ at
    → count_by (is_at p) (q ∷ xs) ≡ cond at 1 0 + count_by (is_at p) xs
counted p q xs at is = sum_by-cons (λ y. cond (is_at p y) 1 0) q xs ∙ ap (λ b. cond b 1 0 + count_by (is_at p) xs) is

some_counted : (p : Position) (xs : List Position) → is_in xs p ≡ true → 1 ≤ count_by (is_at p) xs
some_counted p [] is = absurd (let e : false ≡ true = is in cc)
some_counted p (q ∷ xs) is = by_test (is_at p q) refl (some_counted p xs)
  where
    by_test : (t : Bool) → is_at p q ≡ t → (is_in xs p ≡ true → 1 ≤ count_by (is_at p) xs) → 1 ≤ count_by (is_at p) (q ∷ xs)
    by_test true here later = omega (arith, counted p q xs true here)
    by_test false other later =
        let there : is_in xs p ≡ true = sym (ap (λ b. b || is_in xs p) other) ∙ is in
        omega (arith, counted p q xs false other, later there)

fewer_counted : (p q : Position) (xs : List Position) (at : Bool) → is_at p q ≡ at → count_by (is_at p) (q ∷ xs) ≤ 1
    → count_by (is_at p) xs ≤ 1
fewer_counted p q xs true is few = omega (arith, counted p q xs true is)
fewer_counted p q xs false is few = omega (arith, counted p q xs false is)

pub apart_once : (xs : List Position) → ((p : Position) → count_by (is_at p) xs ≤ 1) → AreApart xs
apart_once [] once = tt
apart_once (q ∷ xs) once = (none, apart_once xs (λ p. fewer_counted p q xs (is_at p q) refl (once p)))
  where
    none : is_in xs q ≡ false
    none = elim (cases_Bool (is_in xs q)) as (λ _. is_in xs q ≡ false) [
      | inl is ↦ absurd (omega (arith, once q, counted q q xs true (is_at-itself q), some_counted q xs is))
      | inr isnt ↦ isnt
    ]

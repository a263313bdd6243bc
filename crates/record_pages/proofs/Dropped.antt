-- How many pages a plan drops, and that it drops each number that it doesn't name any more.
use Rattle.std.proofs.Common.{◌≡◌, ◌≢◌, ◌⊎◌, inl, inr, ⊎_elim, ℕ, suc, ◌<◌, Bool, true, false, List, [], ◌∷◌, length, refl, sym, ◌∙◌, ap, arith}
use Rattle.std.specs.Prelude.{All, slice_index, drop, if◌then◌else◌, ◌==◌, ◌&&◌}
use Rattle.std.proofs.lemmas.Bool.{cases_eq}
use Rattle.std.proofs.lemmas.Bool.Decides.{nat_tests}
use Rattle.std.proofs.lemmas.List.Elements.{All-cons, All-head, All-nil, All-tail}
use Rattle.std.specs.Str.{bytes_eq}
use Rattle.record_pages.specs.Plans.{changed, dropped, numbered}

same_sym : (xs ys : List ℕ) → bytes_eq xs ys ≡ bytes_eq ys xs
same_sym [] [] = refl
same_sym [] (y ∷ ys) = refl
same_sym (x ∷ xs) [] = refl
same_sym (x ∷ xs) (y ∷ ys) = ap (λ b. b && bytes_eq xs ys)
    (let e : (x == y) ≡ (y == x) = grind (arith, nat_tests) in e)
    ∙ ap (λ b. (y == x) && b) (same_sym xs ys)

-- d, the number of pages that are dropped, is the number that changes the other way round
pub dropped_count : (old : List (List ℕ)) (numbers : List ℕ) (new : List (List ℕ))
    → length numbers ≡ length old → length (dropped old numbers new) ≡ length (changed new old)
dropped_count [] numbers new each = refl
dropped_count (was ∷ old) [] new each = absurd (omega arith)
dropped_count (was ∷ old) (n ∷ numbers) [] each = ap suc
    (dropped_count old numbers [] (omega arith))
dropped_count (was ∷ old) (n ∷ numbers) (page ∷ new) each = by (bytes_eq was page) refl
    (dropped_count old numbers new (omega arith))
  where
    by : (same : Bool) → bytes_eq was page ≡ same → length (dropped old numbers new) ≡ length
        (changed new old)
        → length (if same then dropped old numbers new else n ∷ dropped old numbers new) ≡ length
        (if bytes_eq page was then changed new old else was ∷ changed new old)
    by true is rest = rest ∙ ap (λ b. length (if b then changed new old else was ∷ changed new old))
        (sym (same_sym page was ∙ is))
    by false isnt rest = ap suc rest ∙ ap (λ b. length (if b then changed new old else was ∷ changed
        new old)) (sym (same_sym page was ∙ isnt))

-- a number is none of these
abbrev pub IsNone : ℕ → List ℕ → Type 0
IsNone m = All (λ x. x ≢ m)

-- it stands at a place
abbrev pub StandsIn : ℕ → List ℕ → Type 0
StandsIn m ns = (j : ℕ) × (j < length ns) × (m ≡ slice_index ns j)

at_head : (m n : ℕ) (ns : List ℕ) → n ≡ m → StandsIn m (n ∷ ns)
at_head m n ns is = (0, let e : 0 < suc (length ns) = omega arith in e, sym is)

at_tail : (m n : ℕ) (ns : List ℕ) → StandsIn m ns → StandsIn m (n ∷ ns)
at_tail m n ns there = (
  suc there.0,
  let e : suc there.0 < suc (length ns) = omega (arith, there.1)
      in e,
  there.2,
)

-- a number that the plan doesn't name was dropped, or was neither named nor fresh
pub covers : (m : ℕ) (old : List (List ℕ)) (numbers : List ℕ) (new : List (List ℕ)) (fresh : List ℕ)
    → length numbers ≡ length old → length fresh ≡ length (changed old new)
    → IsNone m (numbered old numbers new fresh) → StandsIn m (dropped old numbers new) ⊎
    (IsNone m numbers × IsNone m fresh)
covers m [] [] [] [] each count none = inr (All-nil (λ x. x ≢ m), All-nil (λ x. x ≢ m))
covers m [] [] [] (f ∷ fresh) each count none = absurd (omega arith)
covers m [] (n ∷ numbers) new fresh each count none = absurd (omega arith)
covers m [] [] (page ∷ new) [] each count none = absurd (omega arith)
covers m [] [] (page ∷ new) (f ∷ fresh) each count none =
    let rest : StandsIn m (dropped [] [] new) ⊎ (IsNone m [] × IsNone m fresh) = covers m [] [] new
    fresh refl (omega arith) (All-tail (λ x. x ≢ m) f (numbered [] [] new fresh) none) in
    ⊎_elim (λ there. inl there) (λ both. inr (
      both.0,
      All-cons (λ x. x ≢ m) f fresh
          (All-head (λ x. x ≢ m) f (numbered [] [] new fresh) none) both.1,
    )) rest
covers m (was ∷ old) [] new fresh each count none = absurd (omega arith)
covers m (was ∷ old) (n ∷ numbers) [] [] each count none =
    let rest : StandsIn m (dropped old numbers []) ⊎ (IsNone m numbers × IsNone m []) = covers m old
    numbers [] [] (omega arith) refl (All-nil (λ x. x ≢ m)) in
    ⊎_elim
    (λ is. inl (at_head m n (dropped old numbers []) is))
    (λ isnt. ⊎_elim (λ there. inl (at_tail m n (dropped old numbers []) there))
    (λ both. inr (All-cons (λ x. x ≢ m) n numbers isnt both.0, both.1)) rest)
    (cases_eq n m)
covers m (was ∷ old) (n ∷ numbers) [] (f ∷ fresh) each count none = absurd (omega arith)
covers m (was ∷ old) (n ∷ numbers) (page ∷ new) fresh each count none =
    by (bytes_eq was page) fresh count none (λ more is_count is_none. covers m old numbers new more
    (omega arith) is_count is_none)
  where
    by : (same : Bool) (fresh : List ℕ) → length fresh ≡ length
        (if same then changed old new else page ∷ changed old new)
        → IsNone m (if same then n ∷ numbered old numbers new fresh else slice_index fresh 0 ∷
        numbered old numbers new (drop 1 fresh))
        → ((more : List ℕ) → length more ≡ length (changed old new)
        → IsNone m (numbered old numbers new more)
        → StandsIn m (dropped old numbers new) ⊎ (IsNone m numbers × IsNone m more))
        → StandsIn m (if same then dropped old numbers new else n ∷ dropped old numbers new) ⊎
        (IsNone m (n ∷ numbers) × IsNone m fresh)
    by true fresh count none rest =
        ⊎_elim (λ there. inl there)
        (λ both. inr (
          All-cons (λ x. x ≢ m) n numbers (All-head (λ x. x ≢ m) n
              (numbered old numbers new fresh) none) both.0,
          both.1,
        ))
        (rest fresh count (All-tail (λ x. x ≢ m) n (numbered old numbers new fresh) none))
    by false [] count none rest = absurd (omega arith)
    by false (f ∷ fresh) count none rest =
        ⊎_elim
        (λ is. inl (at_head m n (dropped old numbers new) is))
        (λ isnt. ⊎_elim
        (λ there. inl (at_tail m n (dropped old numbers new) there))
        (λ both. inr (
          All-cons (λ x. x ≢ m) n numbers isnt both.0,
          All-cons (λ x. x ≢ m) f fresh
              (All-head (λ x. x ≢ m) f (numbered old numbers new fresh) none) both.1,
        ))
        (rest fresh (omega arith) (All-tail (λ x. x ≢ m) f (numbered old numbers new fresh) none)))
        (cases_eq n m)

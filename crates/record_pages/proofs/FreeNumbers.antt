-- The free numbers, one after the other.
use Rattle.std.proofs.Common.{◌≡◌, ℕ, zero, suc, ◌+◌, ◌-◌, ◌≤◌, Bool, true, false, List, [], ◌∷◌, ◌++◌, refl, ap, ◌∙◌, arith, append-nil}
use Rattle.std.specs.Prelude.{if◌then◌else◌}
use Rattle.record_pages.specs.Plans.{free_from, is_among}

-- the last one, if it isn't among these
abbrev pub one_free : Bool → ℕ → List ℕ
one_free true n = []
one_free false n = n ∷ []

pub free_more : (numbers : List ℕ) (k least : ℕ) → free_from numbers (suc k) least ≡ free_from numbers k least ++ one_free (is_among numbers (least + k)) (least + k)
free_more numbers zero least =
    by (is_among numbers least) ∙ ap (λ n. one_free (is_among numbers n) n) (let e : least ≡ least + 0 = omega arith in e)
  where
    by : (b : Bool) → (if b then [] else least ∷ []) ≡ one_free b least
    by true = refl
    by false = refl
free_more numbers (suc k) least =
    let same : suc least + k ≡ least + suc k = omega arith in
    by (is_among numbers least) (free_from numbers (suc k) (suc least)) (free_from numbers k (suc least)) (one_free (is_among numbers (suc least + k)) (suc least + k)) (free_more numbers k (suc least))
    ∙ ap (λ n. (if is_among numbers least then free_from numbers k (suc least) else least ∷ free_from numbers k (suc least)) ++ one_free (is_among numbers n) n) same
  where
    by : (b : Bool) (more few last : List ℕ) → more ≡ few ++ last → (if b then more else least ∷ more) ≡ (if b then few else least ∷ few) ++ last
    by true more few last is = is
    by false more few last is = ap (λ l. least ∷ l) is

-- the next number is one of these, or isn't
pub free_in : (numbers : List ℕ) (at least : ℕ) → least ≤ at → is_among numbers at ≡ true
    → free_from numbers (at + 1 - least) least ≡ free_from numbers (at - least) least
free_in numbers at least le is =
    ap (λ k. free_from numbers k least) (let e : at + 1 - least ≡ suc (at - least) = omega arith in e)
    ∙ free_more numbers (at - least) least
    ∙ ap (λ n. free_from numbers (at - least) least ++ one_free (is_among numbers n) n) (let e : least + (at - least) ≡ at = omega arith in e)
    ∙ ap (λ b. free_from numbers (at - least) least ++ one_free b at) is
    ∙ append-nil (free_from numbers (at - least) least)

pub free_next : (numbers : List ℕ) (at least : ℕ) → least ≤ at → is_among numbers at ≡ false
    → free_from numbers (at + 1 - least) least ≡ free_from numbers (at - least) least ++ at ∷ []
free_next numbers at least le is =
    ap (λ k. free_from numbers k least) (let e : at + 1 - least ≡ suc (at - least) = omega arith in e)
    ∙ free_more numbers (at - least) least
    ∙ ap (λ n. free_from numbers (at - least) least ++ one_free (is_among numbers n) n) (let e : least + (at - least) ≡ at = omega arith in e)
    ∙ ap (λ b. free_from numbers (at - least) least ++ one_free b at) is

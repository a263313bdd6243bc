-- The free numbers: how many there are, and that they are pages' numbers, each once, and none of the record's.
use Rattle.std.proofs.Common.{◌≡◌, ◌≢◌, ⊎_elim, ℕ, zero, suc, ◌+◌, ◌-◌, ◌<◌, ◌≤◌, Bool, true, false, List, [], ◌∷◌, length, refl, ◌∙◌, ap, subst, sym, arith}
use Rattle.std.specs.Prelude.{All, ◌||◌, if◌then◌else◌}
use Rattle.std.proofs.lemmas.Bool.{cases_eq, eq-eqb, ne_eqb}
use Rattle.std.proofs.lemmas.List.Elements.{All-cons, All-nil, All-weaker}
use Rattle.record_pages.specs.Plans.{free_from, is_among}
use Rattle.record_pages.proofs.Dropped.{IsNone}
use Rattle.record_pages.proofs.LawfulEntries.{AreEntries, AreNone, AreOnce, IsEntry, none_among}

-- one number more takes away at most one

below : (m : ℕ) (numbers : List ℕ) (k least : ℕ) → m < least → free_from (m ∷ numbers) k least ≡ free_from numbers k least
below m numbers zero least lt = refl
below m numbers (suc k) least lt =
    ap (λ b. if b || is_among numbers least then free_from (m ∷ numbers) k (suc least) else least ∷ free_from (m ∷ numbers) k (suc least))
    (ne_eqb m least (λ e. omega (arith, e, lt)))
    ∙ ap (λ (l : List ℕ). if is_among numbers least then l else least ∷ l) (below m numbers k (suc least) (omega arith))

shorter : (a : Bool) (least : ℕ) (l : List ℕ) → length (if a then l else least ∷ l) ≤ length l + 1
shorter true least l = omega arith
shorter false least l = omega arith

alike : (a : Bool) (least : ℕ) (l m : List ℕ) → length l ≤ length m + 1
    → length (if a then l else least ∷ l) ≤ length (if a then m else least ∷ m) + 1
alike true least l m le = omega (arith, le)
alike false least l m le = omega (arith, le)

abbrev IsOneLess : ℕ → List ℕ → ℕ → ℕ → Bool → Type 0
IsOneLess m numbers k least e = length (free_from numbers (suc k) least)
    ≤ length (if e || is_among numbers least then free_from (m ∷ numbers) k (suc least) else least ∷ free_from (m ∷ numbers) k (suc least)) + 1

one_less : (m : ℕ) (numbers : List ℕ) (k least : ℕ) → length (free_from numbers k least) ≤ length (free_from (m ∷ numbers) k least) + 1
one_less m numbers zero least = omega arith
one_less m numbers (suc k) least = ⊎_elim
    (λ is. subst (λ e. IsOneLess m numbers k least e) (sym (eq-eqb m least is))
    (subst (λ (l : List ℕ). length (free_from numbers (suc k) least) ≤ length l + 1) (sym (below m numbers k (suc least) (omega (arith, is))))
    (shorter (is_among numbers least) least (free_from numbers k (suc least)))))
    (λ isnt. subst (λ e. IsOneLess m numbers k least e) (sym (ne_eqb m least isnt))
    (alike (is_among numbers least) least (free_from numbers k (suc least)) (free_from (m ∷ numbers) k (suc least)) (one_less m numbers k (suc least))))
    (cases_eq m least)

all_free : (k least : ℕ) → length (free_from [] k least) ≡ k
all_free zero least = refl
all_free (suc k) least = ap suc (all_free k (suc least))

enough : (numbers : List ℕ) (k least : ℕ) → k ≤ length (free_from numbers k least) + length numbers
enough [] k least = omega (arith, all_free k least)
enough (m ∷ numbers) k least = omega (arith, enough numbers k least, one_less m numbers k least)

pub free_enough : (least pages : ℕ) (numbers : List ℕ) → pages - least - length numbers ≤ length (free_from numbers (pages - least) least)
free_enough least pages numbers = omega (arith, enough numbers (pages - least) least)

-- what they are

within : (numbers : List ℕ) (k least : ℕ) → All (λ n. (least ≤ n) × (n < least + k)) (free_from numbers k least)
within numbers zero least = All-nil (λ n. (least ≤ n) × (n < least + zero))
within numbers (suc k) least =
    by (is_among numbers least) (All-weaker (λ n. (suc least ≤ n) × (n < suc least + k)) (λ n. (least ≤ n) × (n < least + suc k))
    (λ n bounds. (omega (arith, bounds.0), omega (arith, bounds.1))) (free_from numbers k (suc least)) (within numbers k (suc least)))
  where
    by : (b : Bool) → All (λ n. (least ≤ n) × (n < least + suc k)) (free_from numbers k (suc least))
        → All (λ n. (least ≤ n) × (n < least + suc k)) (if b then free_from numbers k (suc least) else least ∷ free_from numbers k (suc least))
    by true rest = rest
    by false rest = All-cons (λ n. (least ≤ n) × (n < least + suc k)) least (free_from numbers k (suc least)) (omega arith, omega arith) rest

unused : (numbers : List ℕ) (k least : ℕ) → AreNone (free_from numbers k least) numbers
unused numbers zero least = All-nil (λ n. IsNone n numbers)
unused numbers (suc k) least = by (is_among numbers least) refl (unused numbers k (suc least))
  where
    by : (b : Bool) → is_among numbers least ≡ b → AreNone (free_from numbers k (suc least)) numbers
        → AreNone (if b then free_from numbers k (suc least) else least ∷ free_from numbers k (suc least)) numbers
    by true is rest = rest
    by false isnt rest = All-cons (λ n. IsNone n numbers) least (free_from numbers k (suc least)) (none_among numbers least isnt) rest

once : (numbers : List ℕ) (k least : ℕ) → AreOnce (free_from numbers k least)
once numbers zero least = tt
once numbers (suc k) least = by (is_among numbers least) (once numbers k (suc least))
  where
    by : (b : Bool) → AreOnce (free_from numbers k (suc least))
        → AreOnce (if b then free_from numbers k (suc least) else least ∷ free_from numbers k (suc least))
    by true rest = rest
    by false rest = (
      All-weaker (λ n. (suc least ≤ n) × (n < suc least + k)) (λ n. n ≢ least) (λ n bounds e. omega (arith, bounds.0, e))
          (free_from numbers k (suc least)) (within numbers k (suc least)),
      rest,
    )

pub free_entries : (least pages : ℕ) (numbers : List ℕ) → AreEntries least pages (free_from numbers (pages - least) least)
free_entries least pages numbers = record {
  within = All-weaker (λ n. (least ≤ n) × (n < least + (pages - least))) (IsEntry least pages) (λ n bounds. (bounds.0, omega (arith, bounds.0, bounds.1)))
      (free_from numbers (pages - least) least) (within numbers (pages - least) least);
  once = once numbers (pages - least) least;
}

-- none of them is one of the record's
pub free_unused : (least pages : ℕ) (numbers : List ℕ) → AreNone (free_from numbers (pages - least) least) numbers
free_unused least pages numbers = unused numbers (pages - least) least

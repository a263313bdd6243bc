-- What holds of each number that a plan names, and of each that it drops.
use Rattle.std.proofs.Common.{◌≡◌, ℕ, zero, suc, ◌≤◌, Bool, true, false, List, [], ◌∷◌, length, take, refl, ◌∙◌, ap, arith}
use Rattle.std.specs.Prelude.{All, drop, slice_index, if◌then◌else◌}
use Rattle.std.specs.Str.{bytes_eq}
use Rattle.std.proofs.lemmas.List.Elements.{All-cons, All-head, All-nil, All-tail}
use Rattle.record_pages.specs.Plans.{changed, dropped, numbered}

-- ---- how many numbers a plan names, and of which

pub changed_few : (old new : List (List ℕ)) → length (changed old new) ≤ length new
changed_few old [] = omega arith
changed_few [] (page ∷ new) = omega (arith, changed_few [] new)
changed_few (was ∷ old) (page ∷ new) = by (bytes_eq was page) (changed_few old new)
  where
    by : (same : Bool) → length (changed old new) ≤ length new → length (if same then changed old new else page ∷ changed old new) ≤ suc (length new)
    by true le = omega (arith, le)
    by false le = omega (arith, le)

head_taken : (k : ℕ) (l : List ℕ) → slice_index l 0 ≡ slice_index (take (suc k) l) 0
head_taken k [] = refl
head_taken k (x ∷ l) = refl

rest_taken : (k : ℕ) (l : List ℕ) → take k (drop 1 l) ≡ drop 1 (take (suc k) l)
rest_taken zero [] = refl
rest_taken (suc k) [] = refl
rest_taken k (x ∷ l) = refl

abbrev by_test : ℕ → List (List ℕ) → List ℕ → List (List ℕ) → List ℕ → Bool → List ℕ
by_test n old numbers new l same = if same then n ∷ numbered old numbers new l else slice_index l 0 ∷ numbered old numbers new (drop 1 l)

-- only as many free numbers count as pages change
pub numbered_short : (old : List (List ℕ)) (numbers : List ℕ) (new : List (List ℕ)) (free : List ℕ)
    → numbered old numbers new free ≡ numbered old numbers new (take (length (changed old new)) free)
numbered_short old numbers [] free = refl
numbered_short [] numbers (page ∷ new) free =
    let k : ℕ = length (changed [] new) in
    ap (λ n. n ∷ numbered [] numbers new (drop 1 free)) (head_taken k free)
    ∙ ap (λ (l : List ℕ). slice_index (take (suc k) free) 0 ∷ l)
    (numbered_short [] numbers new (drop 1 free) ∙ ap (λ (l : List ℕ). numbered [] numbers new l) (rest_taken k free))
numbered_short (was ∷ old) [] (page ∷ new) free = refl
numbered_short (was ∷ old) (n ∷ numbers) (page ∷ new) free = by (bytes_eq was page) (λ more. numbered_short old numbers new more)
  where
    by : (same : Bool) → ((more : List ℕ) → numbered old numbers new more ≡ numbered old numbers new (take (length (changed old new)) more))
        → by_test n old numbers new free same
        ≡ by_test n old numbers new (take (length (if same then changed old new else page ∷ changed old new)) free) same
    by true rest = ap (λ (l : List ℕ). n ∷ l) (rest free)
    by false rest =
        let k : ℕ = length (changed old new) in
        ap (λ m. m ∷ numbered old numbers new (drop 1 free)) (head_taken k free)
        ∙ ap (λ (l : List ℕ). slice_index (take (suc k) free) 0 ∷ l)
        (rest (drop 1 free) ∙ ap (λ (l : List ℕ). numbered old numbers new l) (rest_taken k free))

pub numbered_long : (old : List (List ℕ)) (numbers : List ℕ) (new : List (List ℕ)) (fresh : List ℕ)
    → length numbers ≡ length old → length (numbered old numbers new fresh) ≡ length new
numbered_long old numbers [] fresh each = refl
numbered_long [] numbers (page ∷ new) fresh each = ap suc (numbered_long [] numbers new (drop 1 fresh) each)
numbered_long (was ∷ old) [] (page ∷ new) fresh each = absurd (omega arith)
numbered_long (was ∷ old) (n ∷ numbers) (page ∷ new) fresh each =
    by (bytes_eq was page) (λ more. numbered_long old numbers new more (omega arith))
  where
    by : (same : Bool) → ((more : List ℕ) → length (numbered old numbers new more) ≡ length new)
        → length (if same then n ∷ numbered old numbers new fresh else slice_index fresh 0 ∷ numbered old numbers new (drop 1 fresh)) ≡ suc (length new)
    by true rest = ap suc (rest fresh)
    by false rest = ap suc (rest (drop 1 fresh))

-- ---- what holds of the record's numbers and of the fresh ones holds of all that the plan names

pub numbered_all : (P : ℕ → Type 0) (old : List (List ℕ)) (numbers : List ℕ) (new : List (List ℕ)) (fresh : List ℕ)
    → length numbers ≡ length old → length fresh ≡ length (changed old new) → All P numbers → All P fresh → All P (numbered old numbers new fresh)
numbered_all P old numbers [] fresh each count all more = All-nil P
numbered_all P [] numbers (page ∷ new) [] each count all more = absurd (omega arith)
numbered_all P [] numbers (page ∷ new) (f ∷ fresh) each count all more =
    All-cons P f (numbered [] numbers new fresh) (All-head P f fresh more)
    (numbered_all P [] numbers new fresh each (omega arith) all (All-tail P f fresh more))
numbered_all P (was ∷ old) [] (page ∷ new) fresh each count all more = absurd (omega arith)
numbered_all P (was ∷ old) (n ∷ numbers) (page ∷ new) fresh each count all more =
    by (bytes_eq was page) fresh count more (λ l is_count is_all. numbered_all P old numbers new l (omega arith) is_count (All-tail P n numbers all) is_all)
  where
    by : (same : Bool) (fresh : List ℕ) → length fresh ≡ length (if same then changed old new else page ∷ changed old new) → All P fresh
        → ((l : List ℕ) → length l ≡ length (changed old new) → All P l → All P (numbered old numbers new l))
        → All P (if same then n ∷ numbered old numbers new fresh else slice_index fresh 0 ∷ numbered old numbers new (drop 1 fresh))
    by true fresh count more rest = All-cons P n (numbered old numbers new fresh) (All-head P n numbers all) (rest fresh count more)
    by false [] count more rest = absurd (omega arith)
    by false (f ∷ fresh) count more rest =
        All-cons P f (numbered old numbers new fresh) (All-head P f fresh more) (rest fresh (omega arith) (All-tail P f fresh more))

pub dropped_all : (P : ℕ → Type 0) (old : List (List ℕ)) (numbers : List ℕ) (new : List (List ℕ)) → All P numbers → All P (dropped old numbers new)
dropped_all P [] numbers new all = All-nil P
dropped_all P (was ∷ old) [] new all = All-nil P
dropped_all P (was ∷ old) (n ∷ numbers) [] all =
    All-cons P n (dropped old numbers []) (All-head P n numbers all) (dropped_all P old numbers [] (All-tail P n numbers all))
dropped_all P (was ∷ old) (n ∷ numbers) (page ∷ new) all = by (bytes_eq was page) (dropped_all P old numbers new (All-tail P n numbers all))
  where
    by : (same : Bool) → All P (dropped old numbers new) → All P (if same then dropped old numbers new else n ∷ dropped old numbers new)
    by true rest = rest
    by false rest = All-cons P n (dropped old numbers new) (All-head P n numbers all) rest

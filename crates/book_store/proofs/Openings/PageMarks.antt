-- Numbers of pages, and the marks of these pages.
use Rattle.std.proofs.Common.{◌≡◌, ◌≢◌, inl, inr, ℕ, ◌+◌, ◌<◌, ◌≤◌, Bool, true, false, List, [], ◌∷◌, length, map, get_or, set, take, replicate, refl, sym, ◌∙◌, ap, ap₂, arith}
use Rattle.std.specs.Prelude.{All, ◌||◌, nat_eq}
use Rattle.std.proofs.lemmas.Bool.Decides.{nat_tests}
use Rattle.std.proofs.lemmas.Bool.{cases_eq}
use Rattle.std.proofs.lemmas.List.{get_or-set_other, get_or-set_same, take_all}
use Rattle.std.proofs.lemmas.List.Elements.{All-cons, All-head, All-nil, All-tail, All-weaker}
use Rattle.std.proofs.lemmas.List.Folds.{list_any_at, list_any_more, list_any_none}
use Rattle.dr_disk.proofs.Tears.{no_mark}
use Rattle.record_pages.specs.Plans.{is_among}

-- ---- numbers that aren't among these

others : (a b : Bool) → (a || b) ≡ false → (a ≡ false) × (b ≡ false)
others true b h = absurd (let e : true ≡ false = h in cc)
others false b h = (refl, h)

not_same : (m n : ℕ) → nat_eq m n ≡ false → m ≢ n
not_same m n is = grind (arith, nat_tests)

same_not : (m n : ℕ) → m ≢ n → nat_eq m n ≡ false
same_not m n is = grind (arith, nat_tests)

same_is : (m : ℕ) → nat_eq m m ≡ true
same_is m = grind (arith, nat_tests)

pub beside_unmarked : (P : ℕ → Type 0) (numbers : List ℕ) (n : ℕ) → All P numbers → is_among numbers n ≡ false
    → All (λ m. P m × (m ≢ n)) numbers
beside_unmarked P [] n all none = All-nil (λ m. P m × (m ≢ n))
beside_unmarked P (m ∷ numbers) n all none =
    let both = others (nat_eq m n) (is_among numbers n) none in
    All-cons (λ m. P m × (m ≢ n)) m numbers (All-head P m numbers all, not_same m n both.0)
    (beside_unmarked P numbers n (All-tail P m numbers all) both.1)

pub unmarked_beside : (P : ℕ → Type 0) (numbers : List ℕ) (n : ℕ) → All (λ m. P m × (m ≢ n)) numbers
    → is_among numbers n ≡ false
unmarked_beside P numbers n all = list_any_none (λ m. nat_eq m n) numbers
    (All-weaker (λ m. P m × (m ≢ n)) (λ m. nat_eq m n ≡ false) (λ m both. same_not m n both.1) numbers all)

pub among_at : (numbers : List ℕ) (i : ℕ) → i < length numbers → is_among numbers (get_or numbers i 0) ≡ true
among_at numbers i lt = list_any_at (λ m. nat_eq m (get_or numbers i 0)) numbers i 0 lt (same_is (get_or numbers i 0))

-- what is the same at each of these numbers
pub same_map : {X : Type 0} (f g : ℕ → X) (numbers : List ℕ) → All (λ n. f n ≡ g n) numbers → map f numbers ≡ map g numbers
same_map f g [] all = refl
same_map f g (n ∷ numbers) all = ap₂ (λ x xs. x ∷ xs) (All-head (λ n. f n ≡ g n) n numbers all)
    (same_map f g numbers (All-tail (λ n. f n ≡ g n) n numbers all))

-- ---- marks

-- each of these numbers is marked, and no other
abbrev pub AreMarked : List Bool → List ℕ → Type 0
AreMarked named numbers = (n : ℕ) → get_or named n false ≡ is_among numbers n

pub marks_of : (old new : List Bool) (pages : ℕ) (numbers : List ℕ) → old ≡ replicate pages false
    → ((n : ℕ) → get_or new n false ≡ (get_or old n false || is_among numbers n)) → AreMarked new numbers
marks_of old new pages numbers none marks n =
    marks n ∙ ap (λ b. b || is_among numbers n) (ap (λ (l : List Bool). get_or l n false) none ∙ no_mark pages n)

pub no_marks : (named : List Bool) (pages n : ℕ) → named ≡ replicate pages false → get_or named n false ≡ false
no_marks named pages n none = ap (λ (l : List Bool). get_or l n false) none ∙ no_mark pages n

-- one more number is marked
module _ (old new start : List Bool) (numbers : List ℕ) (i n : ℕ) (lt : i < length numbers)
    (inside : get_or numbers i 0 < length old) (is : new ≡ set old (get_or numbers i 0) true)
    (was : get_or old n false ≡ (get_or start n false || is_among (take i numbers) n)) where
  more : is_among (take (i + 1) numbers) n ≡ (is_among (take i numbers) n || nat_eq (get_or numbers i 0) n)
  more = list_any_more (λ m. nat_eq m n) numbers i 0 lt

  last : (a b t : Bool) → t ≡ true → true ≡ (a || (b || t))
  last a b t is_so = by a b ∙ ap (λ x. a || (b || x)) (sym is_so)
    where
      by : (a b : Bool) → true ≡ (a || (b || true))
      by true b = refl
      by false true = refl
      by false false = refl

  none : (a b t : Bool) → t ≡ false → (a || b) ≡ (a || (b || t))
  none a b t isnt = by a b ∙ ap (λ x. a || (b || x)) (sym isnt)
    where
      by : (a b : Bool) → (a || b) ≡ (a || (b || false))
      by true b = refl
      by false true = refl
      by false false = refl

  pub mark_more : get_or new n false ≡ (get_or start n false || is_among (take (i + 1) numbers) n)
  mark_more = ap (λ (l : List Bool). get_or l n false) is ∙ elim (cases_eq (get_or numbers i 0) n) [
    | inl same ↦
        ap (λ k. get_or (set old (get_or numbers i 0) true) k false) (sym same)
        ∙ get_or-set_same old (get_or numbers i 0) true false inside
        ∙ last (get_or start n false) (is_among (take i numbers) n) (nat_eq (get_or numbers i 0) n)
        (let e = same in grind (arith, nat_tests))
        ∙ ap (λ b. get_or start n false || b) (sym more)
    | inr other ↦
        get_or-set_other old (get_or numbers i 0) n true false (λ e. other (sym e))
        ∙ was
        ∙ none (get_or start n false) (is_among (take i numbers) n) (nat_eq (get_or numbers i 0) n)
        (same_not (get_or numbers i 0) n other)
        ∙ ap (λ b. get_or start n false || b) (sym more)
  ]

pub mark_all : (b : Bool) (numbers : List ℕ) (i n : ℕ) → length numbers ≤ i
    → (b || is_among (take i numbers) n) ≡ (b || is_among numbers n)
mark_all b numbers i n le = ap (λ (l : List ℕ). b || is_among l n) (take_all i numbers le)

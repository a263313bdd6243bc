-- The rows of ascending keys.
use Rattle.std.proofs.Common.{◌≡◌, ◌≢◌, ℕ, zero, suc, ◌+◌, ◌-◌, ◌<◌, ◌≤◌, ◌==◌, true, List, length, get_or, refl, sym, ◌∙◌, ap, arith, inl, inr}
use Rattle.std.specs.Prelude.{not}
use Rattle.std.proofs.lemmas.Bool.{cases_eq, cases_lt, eqb-false, eqb-true, false_from_ne_true, not-false, not-true, or_cases, or_parts}
use Rattle.std.proofs.lemmas.List.{get_or_default, get_or_past}
use Rattle.dr_base.specs.declared.key.Kept.{Kept}
use Rattle.fs_aead.specs.Rows.{AreRows, begins_row, epoch_at, no_kept, row_at, start_at, starts_of}
use Rattle.fs_aead.specs.Table.{IsAscending}
use Rattle.fs_aead.proofs.Starts.{starts-Contains, starts-ascend, starts-begin, starts-inside}

-- where no row begins, the key has the epoch of the one before it
no_start : (keys : List Kept) (i : ℕ) → (begins_row keys (i + 1) ≡ true → ⊥) → epoch_at keys (i + 1) ≡ epoch_at keys i
no_start keys i none =
    let parts = or_parts (i + 1 == 0) (not (epoch_at keys (i + 1 - 1) == epoch_at keys (i + 1))) (false_from_ne_true (begins_row keys (i + 1)) none) in
    let here : i + 1 - 1 ≡ i = omega arith in
    sym (eqb-true (epoch_at keys (i + 1 - 1)) (epoch_at keys (i + 1)) (not-false _ parts.1)) ∙ ap (epoch_at keys) here

-- where one begins behind another key, it has another epoch
new_epoch : (keys : List Kept) (i : ℕ) → 0 < i → begins_row keys i ≡ true → epoch_at keys (i - 1) ≢ epoch_at keys i
new_epoch keys i some begins same =
    let other = epoch_at keys (i - 1) == epoch_at keys i in
    elim (or_cases (i == 0) (not other) begins) as (λ _. ⊥) [
      | inl first ↦ let is = eqb-true i 0 first in absurd (omega arith)
      | inr apart ↦ eqb-false (epoch_at keys (i - 1)) (epoch_at keys i) (not-true other apart) same
    ]

-- ---- where rows begin and end

module _ (keys : List Kept) where
  abbrev rows : ℕ
  rows = length (starts_of keys)

  pub record HasEnds (k : ℕ) : Type 0 where
    pub some : start_at keys k < start_at keys (k + 1)
    pub inside : start_at keys (k + 1) ≤ length keys

  start-is : (k : ℕ) → k < rows → start_at keys k ≡ get_or (starts_of keys) k 0
  start-is k below = get_or_default (starts_of keys) k (length keys) 0 below

  start-inside : (k : ℕ) → k < rows → start_at keys k < length keys
  start-inside k below = starts-inside keys k (length keys) below

  past-is : (k : ℕ) → rows ≤ k → start_at keys k ≡ length keys
  past-is k past = get_or_past (starts_of keys) k (length keys) past

  starts-up : (j k : ℕ) → j < k → k < rows → start_at keys j < start_at keys k
  starts-up j k less below = starts-ascend keys j k (length keys) less below

  pub has-ends : (k : ℕ) → k < rows → HasEnds k
  has-ends k below = elim (cases_lt (k + 1) rows) as (λ _. HasEnds k) [
    | inl more ↦
        let up = starts-up k (k + 1) (omega arith) more in
        let last = start-inside (k + 1) more in
        record { some = up; inside = omega arith }
    | inr few ↦
        let end = past-is (k + 1) few in
        let first = start-inside k below in
        record { some = omega arith; inside = omega arith }
  ]

  -- where row k ends
  stop-is : (k : ℕ) → k < rows → (row_at keys k).start + (row_at keys k).len ≡ start_at keys (k + 1)
  stop-is k below = let some = (has-ends k below).some in omega arith

  -- no row begins within another
  begins-one : (k i : ℕ) → k < rows → start_at keys k < i → i < start_at keys (k + 1) → begins_row keys i ≡ true → ⊥
  begins-one k i below low high begins =
      let inside : i < length keys = omega (arith, (has-ends k below).inside) in
      let there = starts-Contains keys i inside begins in
      let at : start_at keys there.0 ≡ i = get_or_default (starts_of keys) there.0 (length keys) i there.1 ∙ there.2 in
      elim (cases_lt k there.0) as (λ _. ⊥) [
        | inl behind ↦ elim (cases_eq there.0 (k + 1)) as (λ _. ⊥) [
          | inl next ↦ let same = ap (start_at keys) next in absurd (omega arith)
          | inr other ↦ let up = starts-up (k + 1) there.0 (omega arith) there.1 in absurd (omega arith)
        ]
        | inr ahead ↦ elim (cases_eq there.0 k) as (λ _. ⊥) [
          | inl here ↦ let same = ap (start_at keys) here in absurd (omega arith)
          | inr other ↦ let up = starts-up there.0 k (omega arith) below in absurd (omega arith)
        ]
      ]

  -- its keys share an epoch
  one-epoch : (k n : ℕ) → k < rows → start_at keys k + n < start_at keys (k + 1)
      → epoch_at keys (start_at keys k + n) ≡ epoch_at keys (start_at keys k)
  one-epoch k zero below high = ap (epoch_at keys) (let none : start_at keys k + 0 ≡ start_at keys k = omega arith in none)
  one-epoch k (suc n) below high =
      let next : start_at keys k + suc n ≡ start_at keys k + n + 1 = omega arith in
      ap (epoch_at keys) next
      ∙ no_start keys (start_at keys k + n) (λ begins. begins-one k (start_at keys k + n + 1) below (omega arith) (omega arith) begins)
      ∙ one-epoch k n below (omega arith)

  within : (k i : ℕ) → k < rows → start_at keys k ≤ i → i < start_at keys (k + 1) → epoch_at keys i ≡ (row_at keys k).epoch
  within k i below low high =
      let is : start_at keys k + (i - start_at keys k) ≡ i = omega arith in
      ap (epoch_at keys) (sym is) ∙ one-epoch k (i - start_at keys k) below (omega arith)

  -- the first row begins at the first key
  first-is : 0 < length keys → start_at keys 0 ≡ 0
  first-is some =
      let there = starts-Contains keys 0 some refl in
      let at : start_at keys there.0 ≡ 0 = get_or_default (starts_of keys) there.0 (length keys) 0 there.1 ∙ there.2 in
      elim (cases_eq there.0 0) as (λ _. start_at keys 0 ≡ 0) [
        | inl here ↦ ap (start_at keys) (sym here) ∙ at
        | inr other ↦ let up = starts-up 0 there.0 (omega arith) there.1 in absurd (omega arith)
      ]

  pub record HasRow (i : ℕ) : Type 0 where
    pub row : ℕ
    pub below : row < rows
    pub low : start_at keys row ≤ i
    pub high : i < start_at keys (row + 1)

  -- a key before the start of row m is in a row
  row-before : (i : ℕ) → i < length keys → (m : ℕ) → m ≤ rows → i < start_at keys m → HasRow i
  row-before i inside zero most less = let first = first-is (omega arith) in absurd (omega arith)
  row-before i inside (suc m) most less = elim (cases_lt i (start_at keys m)) as (λ _. HasRow i) [
    | inl early ↦ row-before i inside m (omega arith) early
    | inr here ↦
        let next : start_at keys (suc m) ≡ start_at keys (m + 1) = ap (start_at keys) (let one : suc m ≡ m + 1 = omega arith in one) in
        record { row = m; below = omega arith; low = here; high = omega arith }
  ]

  pub has-row : (i : ℕ) → i < length keys → HasRow i
  has-row i inside = let end = past-is rows (omega arith) in row-before i inside rows (omega arith) (omega arith)

-- ---- ascending keys

module _ (keys : List Kept) (up : IsAscending keys) where
  mono : (i j : ℕ) → i ≤ j → j < length keys → epoch_at keys i ≤ epoch_at keys j
  mono i j most inside = elim (cases_eq i j) as (λ _. epoch_at keys i ≤ epoch_at keys j) [
    | inl same ↦ let is = ap (epoch_at keys) same in omega arith
    | inr other ↦ (up i j no_kept (omega arith) inside).0
  ]

  -- each key before a row has an earlier epoch
  before-row : (k i : ℕ) → k < length (starts_of keys) → i < start_at keys k → epoch_at keys i < epoch_at keys (start_at keys k)
  before-row k i below less =
      let s = start_at keys k in
      let inside = start-inside keys k below in
      let begins = starts-begin keys k (length keys) below in
      let other = new_epoch keys s (omega arith) begins in
      let one = mono i (s - 1) (omega arith) (omega arith) in
      let two = mono (s - 1) s (omega arith) inside in
      omega arith

  behind-row : (k i : ℕ) → k < length (starts_of keys) → i < length keys → start_at keys (k + 1) ≤ i → epoch_at keys (start_at keys k) < epoch_at keys i
  behind-row k i below inside most =
      let ends = has-ends keys k below in
      elim (cases_lt (k + 1) (length (starts_of keys))) as (λ _. epoch_at keys (start_at keys k) < epoch_at keys i) [
        | inl more ↦
            let one = before-row (k + 1) (start_at keys k) more ends.some in
            let two = mono (start_at keys (k + 1)) i most inside in
            omega arith
        | inr few ↦ let end = past-is keys (k + 1) few in absurd (omega arith)
      ]

  pub are-rows : AreRows keys
  are-rows = record {
    some = λ k below. let ends = (has-ends keys k below).some in omega arith;
    inside = λ k below. let ends = (has-ends keys k below).inside in omega (arith, stop-is keys k below);
    exact = λ k i d below inside.
        let any = ap (λ (kept : Kept). kept.position.epoch) (get_or_default keys i d no_kept inside) in (
          (λ same.
              let stop = stop-is keys k below in (
                elim (cases_lt i (start_at keys k)) as (λ _. start_at keys k ≤ i) [
                  | inl less ↦ let early = before-row k i below less in absurd (omega arith)
                  | inr most ↦ most
                ],
                elim (cases_lt i (start_at keys (k + 1))) as (λ _. i < (row_at keys k).start + (row_at keys k).len) [
                  | inl less ↦ omega arith
                  | inr most ↦ let late = behind-row k i below inside most in absurd (omega arith)
                ],
              )),
          (λ between. any ∙ within keys k i below between.0 (let high = between.1 in omega (arith, stop-is keys k below))),
        );
    ascending = λ j k less below. before-row k (start_at keys j) below (starts-up keys j k less below);
    every = λ i inside.
        let is = has-row keys i inside in
        (is.row, is.below, (is.low, let high = is.high in omega (arith, stop-is keys is.row is.below)));
  }

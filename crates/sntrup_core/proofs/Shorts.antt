-- What Short gives is short, place by place what the code writes; and what Small gives is small.
use Rattle.std.proofs.Common.{◌≡◌, ◌⊎◌, inl, inr, ℕ, ◌+◌, ◌-◌, ◌*◌, ◌/◌, ◌%◌, ◌<◌, ◌≤◌, List, [], ◌∷◌, length, get_or, set, take, drop, map, cond, ltb, ℤ, pos, ◌-ℤ◌, refl, ap, sym, ◌∙◌, subst, arith, All}
use Rattle.std.specs.List.{sum_by}
use Rattle.std.proofs.lemmas.Int.{ints}
use Rattle.std.proofs.lemmas.Bool.{cases_lt, cond_below, cond_above}
use Rattle.std.specs.List.Sorted.{IsPermutation, IsSorted}
use Rattle.std.specs.Ordering.{nat_cmp}
use Rattle.std.proofs.lemmas.List.{length-map, length-take-le, length-drop, length-append, get_or_append_left, get_or-append_right, get_or-map, get_or-take, get_or-drop}
use Rattle.std.proofs.lemmas.List.Edits.{fill_by_more}
use Rattle.std.proofs.lemmas.List.Elements.{All-append, All-map, All-weaker}
use Rattle.std.proofs.lemmas.List.Sums.{sum_by-cons, sum_by-append}
use Rattle.ntru_ring.specs.Reduction.{IsWithin}
use Rattle.ntru_ring.specs.Small.{weight, is_nonzero}
use Rattle.sntrup_core.specs.Sampling.{nonzero_word, zero_word, short_coefficient, marked, ascending, short_element, small_coefficient, small_element}
use Rattle.sntrup_core.specs.Core.{IsSmall, IsShort}
use Rattle.sntrup_core.proofs.Ascending.{All-ascending, sum_by-ascending, length-ascending, sorted_is}

-- ---- marked words
pub length-marked : (words : List ℕ) → length words ≡ 761 → length (marked words) ≡ 761
unfolding marked
length-marked words long =
    let front = length-take-le 286 words (omega arith) in
    let back = length-drop 286 words in
    length-append (map nonzero_word (take 286 words)) (map zero_word (drop 286 words))
    ∙ (let f = length-map (take 286 words) nonzero_word in let g = length-map (drop 286 words) zero_word in omega arith)

pub marked-at : (words : List ℕ) (k : ℕ) → length words ≡ 761 → k < 761
    → get_or (marked words) k 0 ≡ cond (ltb k 286) (nonzero_word (get_or words k 0)) (zero_word (get_or words k 0))
unfolding marked
marked-at words k long h =
    let front = length-map (take 286 words) nonzero_word ∙ length-take-le 286 words (omega arith) in
    let back = length-drop 286 words in
    elim (cases_lt k 286) [
      | inl l ↦
          get_or_append_left (map nonzero_word (take 286 words)) (map zero_word (drop 286 words)) 0 k (omega arith)
          ∙ get_or-map nonzero_word (take 286 words) k 0 0 (omega (arith, length-take-le 286 words))
          ∙ ap nonzero_word (get_or-take 286 words k 0 l) ∙ cond_below k 286 _ _ l
      | inr g ↦
          let place : 286 + (k - 286) ≡ k = omega arith in
          get_or-append_right (map nonzero_word (take 286 words)) (map zero_word (drop 286 words)) 286 k 0 front g
          ∙ get_or-map zero_word (drop 286 words) (k - 286) 0 0 (omega arith)
          ∙ ap zero_word (get_or-drop 286 words (k - 286) 0 ∙ ap (λ n. get_or words n 0) place)
          ∙ cond_above k 286 _ _ _ g refl
    ]

-- such a word gives a coefficient in -1..1
abbrev pub IsMarked : ℕ → Type 0
IsMarked w = w % 4 ≤ 2

pub marked-all : (words : List ℕ) → All IsMarked (marked words)
unfolding marked
marked-all words =
    All-append IsMarked (map nonzero_word (take 286 words)) (map zero_word (drop 286 words))
    (All-map IsMarked nonzero_word (take 286 words) (λ k d h. omega arith))
    (All-map IsMarked zero_word (drop 286 words) (λ k d h. omega arith))

pub short_coefficient-within : (w : ℕ) → IsMarked w → IsWithin 1 (short_coefficient w)
short_coefficient-within w h = record { low = omega (arith, ints); high = omega (arith, ints) }

-- ---- weights
counted : ℕ → ℕ
counted w = cond (is_nonzero (short_coefficient w)) 1 0

counted-nonzero : (w : ℕ) → counted (nonzero_word w) ≡ 1
unfolding counted
counted-nonzero w =
    let c : ℕ → ℕ = λ n. cond (is_nonzero (pos n -ℤ pos 1)) 1 0 in
    let two : ((2 * (w / 2)) % 4 ≡ 0) ⊎ ((2 * (w / 2)) % 4 ≡ 2) =
    elim (cases_lt ((2 * (w / 2)) % 4) 1) [ inl l ↦ inl (omega arith) | inr g ↦ inr (omega arith) ] in
    elim two [ inl e ↦ ap c e | inr e ↦ ap c e ]

counted-zero : (w : ℕ) → counted (zero_word w) ≡ 0
unfolding counted
counted-zero w =
    let c : ℕ → ℕ = λ n. cond (is_nonzero (pos n -ℤ pos 1)) 1 0 in
    let one : (4 * (w / 4) + 1) % 4 ≡ 1 = omega arith in
    ap c one

counted-nonzeros : (words : List ℕ) → sum_by counted (map nonzero_word words) ≡ length words
counted-nonzeros [] = refl
counted-nonzeros (w ∷ words) =
    let here = counted-nonzero w in
    let rest = counted-nonzeros words in
    let all = sum_by-cons counted (nonzero_word w) (map nonzero_word words) in
    omega arith

counted-zeros : (words : List ℕ) → sum_by counted (map zero_word words) ≡ 0
counted-zeros [] = refl
counted-zeros (w ∷ words) =
    let here = counted-zero w in
    let rest = counted-zeros words in
    let all = sum_by-cons counted (zero_word w) (map zero_word words) in
    omega arith

weight-map : (words : List ℕ) → weight (map short_coefficient words) ≡ sum_by counted words
unfolding weight counted
weight-map [] = refl
weight-map (w ∷ words) =
    let one : ℤ → ℕ = λ z. cond (is_nonzero z) 1 0 in
    sum_by-cons one (short_coefficient w) (map short_coefficient words) ∙ ap (λ n. counted w + n) (weight-map words)
    ∙ sym (sum_by-cons counted w words)

pub short_element-weighs : (words : List ℕ) → length words ≡ 761 → weight (short_element words) ≡ 286
unfolding short_element marked
short_element-weighs words long =
    weight-map (ascending (marked words)) ∙ sum_by-ascending counted (marked words)
    ∙ sum_by-append counted (map nonzero_word (take 286 words)) (map zero_word (drop 286 words))
    ∙ (let f = counted-nonzeros (take 286 words) in let g = counted-zeros (drop 286 words) in let n =
    length-take-le 286 words (omega arith) in omega arith)

pub length-short_element : (words : List ℕ) → length words ≡ 761 → length (short_element words) ≡ 761
unfolding short_element
length-short_element words long = length-map (ascending (marked words)) short_coefficient
    ∙ length-ascending (marked words) ∙ length-marked words long

-- what Short gives is short
pub short_element-short : (words : List ℕ) → length words ≡ 761 → IsShort (short_element words)
unfolding short_element
short_element-short words long = record {
  small = record {
    long = length-short_element words long;
    within = All-map (IsWithin 1) short_coefficient (ascending (marked words))
        (All-weaker IsMarked (λ w. IsWithin 1 (short_coefficient w)) short_coefficient-within
        (ascending (marked words)) (All-ascending IsMarked (marked words) (marked-all words)));
  };
  weighs = short_element-weighs words long;
}

-- what Small gives is small
pub small_coefficient-within : (w : ℕ) → IsWithin 1 (small_coefficient w)
small_coefficient-within w = record { low = omega (arith, ints); high = omega (arith, ints) }

pub small_element-small : (words : List ℕ) → length words ≡ 761 → IsSmall (small_element words)
unfolding small_element
small_element-small words long = record {
  long = length-map words small_coefficient ∙ long;
  within = All-map (IsWithin 1) small_coefficient words (λ k d h. small_coefficient-within (get_or words k d));
}

-- ---- lists made place by place

-- the marked words after a sort
pub sorted-marked : (words mixed sorted : List ℕ) → mixed ≡ marked words → IsPermutation mixed sorted
    → IsSorted nat_cmp sorted → sorted ≡ ascending (marked words)
sorted-marked words mixed sorted e p s = sorted_is mixed sorted p s ∙ ap ascending e

pub sorted-all : (words sorted : List ℕ) → sorted ≡ ascending (marked words) → All IsMarked sorted
sorted-all words sorted e = let P : List ℕ
    → Type 0 = λ xs. All IsMarked xs in subst P (sym e) (All-ascending IsMarked (marked words) (marked-all words))

-- a word marked after those that are marked
pub marked-more : (words xs : List ℕ) (k x : ℕ) → k < length xs → x ≡ get_or (marked words) k 0
    → ((j : ℕ) → j < k → get_or xs j 0 ≡ get_or (marked words) j 0) → (j : ℕ) → j < k + 1
    → get_or (set xs k x) j 0 ≡ get_or (marked words) j 0
marked-more words xs k x h e before =
    subst (λ (y : ℕ). (j : ℕ) → j < k + 1 → get_or (set xs k y) j 0 ≡ get_or (marked words) j 0) (sym e)
    (fill_by_more (λ j. get_or (marked words) j 0) xs k 0 h before)

-- Elements of R/3 by their planes.
use Rattle.std.proofs.Common.{◌≡◌, ◌≢◌, inl, inr, ℕ, ◌+◌, ◌*◌, ◌/◌, ◌%◌, ◌^◌, ◌<◌, ◌≤◌, List, length, get_or, set, ℤ, pos, negsuc, ◌+ℤ◌, ◌*ℤ◌, sym, ap, ◌∙◌, arith, All, subst, replicate, get_or-set_same, get_or-set_other, below_more}
use Rattle.std.proofs.lemmas.Bool.{cases_lt, cases_eq}
use Rattle.std.proofs.lemmas.Int.{ints}
use Rattle.std.proofs.lemmas.List.FromFn.{get_or-map-range_with_len, length-map-range_with_len}
use Rattle.std.proofs.lemmas.Nat.Bits.{bit_at-lt, bit_at-zero, bit_at_above}
use Rattle.std.proofs.lemmas.List.{get_or-replicate}
use Rattle.std.proofs.Math.ListN.{get_or-eq_default}
use Rattle.std.specs.Int.{bit_at}
use Rattle.ntru_ring.specs.Ring.{plus, scale, zero_of, coefficient}
use Rattle.ntru_ring.specs.Reduction.{centred, reduced, IsWithin}
use Rattle.ntru_ring.specs.Planes.{bit_of, from_bits, element_of}
use Rattle.ntru_ring.proofs.Rings.Algebra.{length-plus, length-scale, length-zero_of}
use Rattle.ntru_ring.proofs.Rings.Congruence.{length-reduced}
use Rattle.ntru_ring.proofs.Rings.Places.{same_places, within_places, coefficient-plus, coefficient-scale, coefficient-reduced, coefficient-zero_of}
use Rattle.ntru_ring.proofs.Numbers.Integers.{minus_one}
use Rattle.ntru_ring.proofs.Vectors.Words.{from_bits_within, from_bits_zero, put_same, put_other, opposite_inside, opposite_value}
use Rattle.std.specs.Int.RustNames.{bit_or, bit_xor}

-- ---- an element by its places
pub length-element_of : (m x : List ℕ) → length (element_of m x) ≡ 761
unfolding element_of
length-element_of m x = length-map-range_with_len (λ k. from_bits (bit_of m k) (bit_of x k)) 0 761

pub coefficient-element_of : (m x : List ℕ) (k : ℕ) → k < 761 → coefficient (element_of m x) k ≡ from_bits (bit_of m k) (bit_of x k)
unfolding element_of
coefficient-element_of m x k l = get_or-map-range_with_len (λ j. from_bits (bit_of m j) (bit_of x j)) 0 761 k k (pos 0) l (omega arith)

-- what planes keep
pub record IsLawful (m x : List ℕ) : Type 0 where
  pub inside : (k : ℕ) → bit_of x k ≤ bit_of m k
  pub end : (k : ℕ) → 761 ≤ k → bit_of m k ≡ 0

pub element_within : (m x : List ℕ) → ((k : ℕ) → bit_of x k ≤ bit_of m k) → All (IsWithin 1) (element_of m x)
element_within m x i =
    within_places 1 (element_of m x)
    (λ k l. let h : k < 761 = omega (arith, length-element_of m x) in subst (IsWithin 1) (sym (coefficient-element_of m x k h)) (from_bits_within (bit_of m k) (bit_of x k) (bit_at-lt _ _) (i k)))

-- ---- places and words
pub bit_of_word : (words : List ℕ) (i j : ℕ) → j < 64 → bit_of words (64 * i + j) ≡ bit_at (get_or words i 0) j
bit_of_word words i j l =
    let d : (64 * i + j) / 64 ≡ i = omega arith in
    let r : (64 * i + j) % 64 ≡ j = omega arith in
    ap (λ t. bit_at (get_or words t 0) ((64 * i + j) % 64)) d ∙ ap (bit_at (get_or words i 0)) r

pub bit_of_beyond : (words : List ℕ) (k : ℕ) → length words ≡ 12 → 768 ≤ k → bit_of words k ≡ 0
bit_of_beyond words k e l = ap (λ t. bit_at t (k % 64)) (get_or-eq_default words 0 {n = k / 64} (omega arith)) ∙ bit_at-zero (k % 64)

-- two words keep what their planes do
pub inside_word : (m x : List ℕ) (i : ℕ) → get_or x i 0 < 2 ^ 64 → ((k : ℕ) → bit_of x k ≤ bit_of m k) → (j : ℕ) → bit_at (get_or x i 0) j ≤ bit_at (get_or m i 0) j
inside_word m x i f h j = elim (cases_lt j 64) [
  | inl l ↦ omega (arith, h (64 * i + j), bit_of_word m i j l, bit_of_word x i j l)
  | inr l ↦ omega (arith, bit_at_above (get_or x i 0) 64 j f l)
]

-- planes keep what their words do
pub inside_planes : (m x : List ℕ) → length m ≡ 12 → length x ≡ 12 → ((i j : ℕ) → i < 12 → bit_at (get_or x i 0) j ≤ bit_at (get_or m i 0) j) → (k : ℕ) → bit_of x k ≤ bit_of m k
inside_planes m x e f h k = elim (cases_lt k 768) [
  | inl l ↦ h (k / 64) (k % 64) (omega arith)
  | inr l ↦ omega (arith, bit_of_beyond x k f l)
]

-- what holds of the words before k, and of those put there, holds of the words up to there
pub words_put : (P : ℕ → ℕ → ℕ → Type 0) (r s : List ℕ) (k a b : ℕ) → k < length r → k < length s → P k a b → ((i : ℕ) → i < k → P i (get_or r i 0) (get_or s i 0))
    → (i : ℕ) → i < k + 1 → P i (get_or (set r k a) i 0) (get_or (set s k b) i 0)
words_put P r s k a b f g here below =
    below_more (λ i. P i (get_or (set r k a) i 0) (get_or (set s k b) i 0)) k
    (λ i l. let n : i ≢ k = omega arith in rw (get_or-set_other r k i a 0 n, get_or-set_other s k i b 0 n) (below i l))
    (rw (get_or-set_same r k a 0 f, get_or-set_same s k b 0 g) here)

-- ---- the sum, word by word
module _ (m x n y r s : List ℕ) (p : IsLawful m x) (q : IsLawful n y) (e : length r ≡ 12)
    (sums : (i j : ℕ) → i < 12 → from_bits (bit_at (get_or r i 0) j) (bit_at (get_or s i 0) j) ≡ centred 1 (from_bits (bit_at (get_or m i 0) j) (bit_at (get_or x i 0) j) +ℤ from_bits (bit_at (get_or n i 0) j) (bit_at (get_or y i 0) j))) where
  sum_at : (k : ℕ) → k < 768 → from_bits (bit_of r k) (bit_of s k) ≡ centred 1 (from_bits (bit_of m k) (bit_of x k) +ℤ from_bits (bit_of n k) (bit_of y k))
  sum_at k l = sums (k / 64) (k % 64) (omega arith)

  pub sum_is : element_of r s ≡ reduced 1 (plus (element_of m x) (element_of n y))
  sum_is =
      let a = element_of m x in
      let b = element_of n y in
      let c : length a ≡ length b = length-element_of m x ∙ sym (length-element_of n y) in
      same_places (element_of r s) (reduced 1 (plus a b)) (length-element_of r s ∙ sym (length-reduced 1 (plus a b) ∙ length-plus a b c ∙ length-element_of n y))
      (λ k l. let h : k < 761 = omega (arith, length-element_of r s) in
      coefficient-element_of r s k h ∙ sum_at k (omega arith)
      ∙ ap (λ t. centred 1 (t +ℤ from_bits (bit_of n k) (bit_of y k))) (sym (coefficient-element_of m x k h))
      ∙ ap (λ t. centred 1 (coefficient a k +ℤ t)) (sym (coefficient-element_of n y k h))
      ∙ sym (coefficient-reduced 1 (plus a b) k ∙ ap (centred 1) (coefficient-plus a b k c)))

  none_there : (k : ℕ) → 761 ≤ k → from_bits (bit_of m k) (bit_of x k) +ℤ from_bits (bit_of n k) (bit_of y k) ≡ pos 0
  none_there k l = omega (arith, ints, p.inside k, p.end k l, q.inside k, q.end k l)

  pub sum_end : ((k : ℕ) → bit_of s k ≤ bit_of r k) → (k : ℕ) → 761 ≤ k → bit_of r k ≡ 0
  unfolding centred
  sum_end i k l = elim (cases_lt k 768) [
    | inl h ↦ from_bits_zero (bit_of r k) (bit_of s k) (bit_at-lt _ _) (i k) (sum_at k h ∙ ap (centred 1) (none_there k l))
    | inr h ↦ bit_of_beyond r k e h
  ]

-- ---- a bit put at a place
module _ (words : List ℕ) (p b : ℕ) (e : length words ≡ 12) (l : p < 768) (h : b < 2) where
  word_put : ℕ
  word_put = bit_or (get_or words (p / 64) 0) (b * 2 ^ (p % 64) % 2 ^ 64)

  pub put_there : bit_of words p ≡ 0 → bit_of (set words (p / 64) (bit_or (get_or words (p / 64) 0) (b * 2 ^ (p % 64) % 18446744073709551616))) p ≡ b
  unfolding word_put
  put_there z = ap (λ t. bit_at t (p % 64)) (get_or-set_same words (p / 64) word_put 0 (omega arith)) ∙ put_same (get_or words (p / 64) 0) b (p % 64) (omega arith) h z

  pub put_others : (k : ℕ) → k ≢ p → bit_of (set words (p / 64) (bit_or (get_or words (p / 64) 0) (b * 2 ^ (p % 64) % 18446744073709551616))) k ≡ bit_of words k
  unfolding word_put
  put_others k n = elim (cases_eq (k / 64) (p / 64)) [
    | inl q ↦
        let ne : k % 64 ≢ p % 64 = omega arith in
        ap (λ t. bit_at (get_or (set words (p / 64) word_put) t 0) (k % 64)) q
        ∙ ap (λ t. bit_at t (k % 64)) (get_or-set_same words (p / 64) word_put 0 (omega arith))
        ∙ put_other (get_or words (p / 64) 0) b (p % 64) (omega arith) h (k % 64) ne
        ∙ ap (λ t. bit_at (get_or words t 0) (k % 64)) (sym q)
    | inr ne ↦ ap (λ t. bit_at t (k % 64)) (get_or-set_other words (p / 64) (k / 64) word_put 0 ne)
  ]

-- the planes of the first k coefficients of g
pub record IsTaken (g : List ℤ) (m x : List ℕ) (k : ℕ) : Type 0 where
  pub done : (j : ℕ) → j < k → from_bits (bit_of m j) (bit_of x j) ≡ coefficient g j
  pub inside : (j : ℕ) → bit_of x j ≤ bit_of m j
  pub rest : (j : ℕ) → k ≤ j → bit_of m j ≡ 0

pub IsTaken-more : (g : List ℤ) (m x m' x' : List ℕ) (k a b : ℕ) → from_bits a b ≡ coefficient g k → b ≤ a → bit_of m' k ≡ a → bit_of x' k ≡ b
    → ((j : ℕ) → j ≢ k → bit_of m' j ≡ bit_of m j) → ((j : ℕ) → j ≢ k → bit_of x' j ≡ bit_of x j) → IsTaken g m x k → IsTaken g m' x' (k + 1)
IsTaken-more g m x m' x' k a b e l p q r s t = record {
  done = λ j h. elim (cases_eq j k) [
    | inl i ↦ ap (λ n. from_bits (bit_of m' n) (bit_of x' n)) i ∙ ap (λ n. from_bits n (bit_of x' k)) p ∙ ap (from_bits a) q ∙ e ∙ ap (coefficient g) (sym i)
    | inr n ↦ ap (λ i. from_bits i (bit_of x' j)) (r j n) ∙ ap (from_bits (bit_of m j)) (s j n) ∙ t.done j (omega arith)
  ];
  inside = λ j. elim (cases_eq j k) [
    | inl i ↦ subst (λ (n : ℕ). bit_of x' n ≤ bit_of m' n) (sym i) (omega arith)
    | inr n ↦ omega (arith, r j n, s j n, t.inside j)
  ];
  rest = λ j h. let n : j ≢ k = omega arith in r j n ∙ t.rest j (omega arith);
}

pub IsTaken-all : (g : List ℤ) (m x : List ℕ) (k : ℕ) → length g ≡ 761 → 761 ≤ k → IsTaken g m x k → element_of m x ≡ g
IsTaken-all g m x k e l t =
    same_places (element_of m x) g (length-element_of m x ∙ sym e)
    (λ j h. let i : j < 761 = omega (arith, length-element_of m x) in coefficient-element_of m x j i ∙ t.done j (omega arith))

-- ---- the opposite, word by word
module _ (m x y : List ℕ) (e : length y ≡ 12) (h : (i : ℕ) → i < 12 → get_or y i 0 ≡ bit_xor (get_or m i 0) (get_or x i 0)) (inside : (k : ℕ) → bit_of x k ≤ bit_of m k) where
  bit_there : (k : ℕ) → k < 768 → bit_of y k ≡ bit_at (bit_xor (get_or m (k / 64) 0) (get_or x (k / 64) 0)) (k % 64)
  bit_there k l = ap (λ t. bit_at t (k % 64)) (h (k / 64) (omega arith))

  pub opposites_inside : (k : ℕ) → bit_of y k ≤ bit_of m k
  opposites_inside k = elim (cases_lt k 768) [
    | inl l ↦ omega (arith, bit_there k l, opposite_inside (get_or m (k / 64) 0) (get_or x (k / 64) 0) (k % 64) (inside k))
    | inr l ↦ omega (arith, bit_of_beyond y k e l)
  ]

  pub opposite_is : element_of m y ≡ scale (negsuc 0) (element_of m x)
  opposite_is =
      same_places (element_of m y) (scale (negsuc 0) (element_of m x)) (length-element_of m y ∙ sym (length-scale (negsuc 0) (element_of m x) ∙ length-element_of m x))
      (λ k l. let i : k < 761 = omega (arith, length-element_of m y) in
      coefficient-element_of m y k i ∙ ap (from_bits (bit_of m k)) (bit_there k (omega arith))
      ∙ opposite_value (get_or m (k / 64) 0) (get_or x (k / 64) 0) (k % 64) (inside k) ∙ minus_one (from_bits (bit_of m k) (bit_of x k))
      ∙ ap (λ t. negsuc 0 *ℤ t) (sym (coefficient-element_of m x k i)) ∙ sym (coefficient-scale (negsuc 0) (element_of m x) k))

-- ---- no bit at all
no_bit : (k : ℕ) → k < 761 → bit_of (replicate 12 0) k ≡ 0
no_bit k l = ap (λ t. bit_at t (k % 64)) (get_or-replicate 12 (k / 64) 0 0 (omega arith)) ∙ bit_at-zero (k % 64)

pub element_of_zero : element_of (replicate 12 0) (replicate 12 0) ≡ zero_of 761
element_of_zero =
    let z = replicate 12 0 in
    same_places (element_of z z) (zero_of 761) (length-element_of z z ∙ sym (length-zero_of 761))
    (λ k l. let h : k < 761 = omega (arith, length-element_of z z) in
    coefficient-element_of z z k h ∙ ap (λ t. from_bits t (bit_of z k)) (no_bit k h) ∙ ap (from_bits 0) (no_bit k h) ∙ sym (coefficient-zero_of 761 k))

-- ---- the first coefficient that isn't zero
pub zero_at : (m x : List ℕ) (k : ℕ) → k < 761 → ((j : ℕ) → bit_of x j ≤ bit_of m j) → bit_of m k ≡ 0 → coefficient (element_of m x) k ≡ pos 0
zero_at m x k l i e = let z : from_bits (bit_of m k) (bit_of x k) ≡ pos 0 = omega (arith, ints, i k, e) in coefficient-element_of m x k l ∙ z

pub nonzero_at : (m x : List ℕ) (k : ℕ) → k < 761 → ((j : ℕ) → bit_of x j ≤ bit_of m j) → bit_of m k ≡ 1 → coefficient (element_of m x) k ≢ pos 0
nonzero_at m x k l i e z =
    absurd (omega (arith, e, from_bits_zero (bit_of m k) (bit_of x k) (bit_at-lt _ _) (i k) (sym (coefficient-element_of m x k l) ∙ z)))

-- before the lowest bit t of the first word w that isn't zero
pub below_lead : (m : List ℕ) (w t k : ℕ) → ((i : ℕ) → i < w → get_or m i 0 ≡ 0) → ((j : ℕ) → j < t → bit_at (get_or m w 0) j ≡ 0) → t < 64 → k < 64 * w + t → bit_of m k ≡ 0
below_lead m w t k none low h l = elim (cases_lt (k / 64) w) [
  | inl q ↦ ap (λ n. bit_at n (k % 64)) (none (k / 64) q) ∙ bit_at-zero (k % 64)
  | inr q ↦ let e : k / 64 ≡ w = omega arith in ap (λ n. bit_at (get_or m n 0) (k % 64)) e ∙ low (k % 64) (omega arith)
]

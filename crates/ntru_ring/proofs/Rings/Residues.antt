-- A product by 64 moves: the coefficients of the first factor are taken in by their places modulo 64, from the greatest
-- remainder down. A row is x^(64n) times the second factor.
use Rattle.std.proofs.Common.{◌≡◌, ◌≢◌, ◌⊎◌, inl, inr, ℕ, suc, ◌+◌, ◌*◌, ◌/◌, ◌%◌, ◌<◌, ◌≤◌, List, length, set, ℤ, pos, sym, ap, ◌∙◌, arith, length-set, get_or-set_same, get_or-set_other}
use Rattle.std.proofs.lemmas.Bool.{cases_eq}
use Rattle.ntru_ring.specs.Ring.{plus, scale, shift, times, zero_of, coefficient}
use Rattle.ntru_ring.specs.Reduction.{reduced}
use Rattle.ntru_ring.specs.Powers.{shifted}
use Rattle.ntru_ring.proofs.Rings.Algebra.{length-scale, length-times, length-zero_of, scale_zero, scale-times}
use Rattle.ntru_ring.proofs.Rings.Congruence.{reduced-plus, scale_same}
use Rattle.ntru_ring.proofs.Rings.Places.{same_places, coefficient-zero_of}
use Rattle.ntru_ring.proofs.Rings.Shifted.{shifted-shifted, shifted-plus, shifted-scale, shifted_same, shifted_none, shifted_one, length-shifted, times-set}

-- a place that is taken in after the remainders above p, and the first n places with the remainder p
abbrev pub IsTakenIn : ℕ → ℕ → ℕ → Type 0
IsTakenIn p n i = (p < i % 64) ⊎ ((i % 64 ≡ p) × (i / 64 < n))

abbrev pub IsLeft : ℕ → ℕ → ℕ → Type 0
IsLeft p n i = (i % 64 < p) ⊎ ((i % 64 ≡ p) × (n ≤ i / 64))

-- s is the sum so far, for which all are to go up by p places more
pub record IsSummedTo (a b : List ℤ) (p n : ℕ) (s : List ℤ) : Type 0 where
  pub part : List ℤ
  pub long : length part ≡ 761
  pub taken : (i : ℕ) → i < 761 → IsTakenIn p n i → coefficient part i ≡ coefficient a i
  pub left : (i : ℕ) → IsLeft p n i → coefficient part i ≡ pos 0
  pub value : reduced 1 (shifted p s) ≡ reduced 1 (times part b)

-- ---- the sums, where all go up by one place, and where one more row is added
move : (q b s s' : List ℤ) (p : ℕ) → reduced 1 s' ≡ reduced 1 (shift s) → reduced 1 (shifted (suc p) s) ≡ reduced 1 (times q b) → reduced 1 (shifted p s') ≡ reduced 1 (times q b)
move q b s s' p e f = shifted_same 1 p s' (shift s) e ∙ ap (reduced 1) (sym (shifted_one p s)) ∙ f

take_in : (q b s s' row : List ℤ) (p n i : ℕ) (c : ℤ) → length s ≡ length row → i ≡ n + p → i < length q → coefficient q i ≡ pos 0 → reduced 1 s' ≡ reduced 1 (plus s (scale c row)) → reduced 1 row ≡ reduced 1 (shifted n b)
    → reduced 1 (shifted p s) ≡ reduced 1 (times q b) → reduced 1 (shifted p s') ≡ reduced 1 (times (set q i c) b)
take_in q b s s' row p n i c long j l z e r f =
    let moved = shifted_same 1 p row (shifted n b) r ∙ ap (reduced 1) (shifted-shifted p n b ∙ ap (λ t. shifted t b) (sym j)) in
    shifted_same 1 p s' (plus s (scale c row)) e ∙ ap (reduced 1) (shifted-plus p s (scale c row) (long ∙ sym (length-scale c row)) ∙ ap (plus (shifted p s)) (shifted-scale p c row))
    ∙ reduced-plus 1 (shifted p s) (times q b) (scale c (shifted p row)) (scale c (shifted i b)) f (scale_same 1 c (shifted p row) (shifted i b) moved)
    ∙ ap (reduced 1) (sym (times-set q b i c l z))

pub IsSummedTo-none : (a b : List ℤ) → length b ≡ 761 → IsSummedTo a b 64 12 (zero_of 761)
IsSummedTo-none a b e =
    let z = zero_of 761 in
    let n = length-zero_of 761 in
    let zeros = λ (y : List ℤ) (l : length y ≡ 761). scale_zero y ∙ ap zero_of l in
    let none = zeros z n in
    record {
      part = z;
      long = n;
      taken = λ i l t. elim t [ inl h ↦ absurd (omega arith) | inr h ↦ absurd (omega (arith, h.0)) ];
      left = λ i l. coefficient-zero_of 761 i;
      value = ap (reduced 1)
          (ap (shifted 64) (sym none) ∙ shifted-scale 64 (pos 0) z ∙ zeros (shifted 64 z) (length-shifted 64 z ∙ n)
          ∙ sym (ap (λ t. times t b) (sym none) ∙ scale-times (pos 0) z b ∙ zeros (times z b) (length-times z b ∙ e)));
    }

pub IsSummedTo-moved : (a b s s' : List ℤ) (p p' : ℕ) → p' ≡ suc p → p < 64 → reduced 1 s' ≡ reduced 1 (shift s) → IsSummedTo a b p' 12 s → IsSummedTo a b p 0 s'
IsSummedTo-moved a b s s' p p' e l f g = record {
  part = g.part;
  long = g.long;
  taken = λ i h t. elim t [
    | inl u ↦ elim (cases_eq (i % 64) p') [ inl v ↦ g.taken i h (inr (v, omega arith)) | inr v ↦ g.taken i h (inl (omega arith)) ]
    | inr u ↦ absurd (omega (arith, u.1))
  ];
  left = λ i t. g.left i (inl (elim t [ inl u ↦ omega arith | inr u ↦ omega (arith, u.0) ]));
  value = move g.part b s s' p f (ap (λ t. reduced 1 (shifted t s)) (sym e) ∙ g.value);
}

pub IsSummedTo-more : (a b s s' row : List ℤ) (p n i : ℕ) (c : ℤ) → length s ≡ length row → i ≡ 64 * n + p → p < 64 → i < 761 → c ≡ coefficient a i
    → reduced 1 s' ≡ reduced 1 (plus s (scale c row)) → reduced 1 row ≡ reduced 1 (shifted (64 * n) b) → IsSummedTo a b p n s → IsSummedTo a b p (n + 1) s'
IsSummedTo-more a b s s' row p n i c long e l m d f r g =
    let rem : i % 64 ≡ p = omega arith in
    let quo : i / 64 ≡ n = omega arith in
    let zero = g.left i (inr (rem, omega arith)) in
    record {
      part = set g.part i c;
      long = length-set g.part i c ∙ g.long;
      taken = λ j h t. elim (cases_eq j i) [
        | inl u ↦ ap (coefficient (set g.part i c)) u ∙ get_or-set_same g.part i c (pos 0) (omega (arith, g.long)) ∙ d ∙ ap (coefficient a) (sym u)
        | inr u ↦ get_or-set_other g.part i j c (pos 0) u ∙ g.taken j h (elim t [
          | inl v ↦ inl v
          | inr v ↦ let w : j / 64 ≢ n = λ y. u (omega (arith, v.0, y)) in inr (v.0, omega (arith, v.1, w))
        ])
      ];
      left = λ j t. elim (cases_eq j i) [
        | inl u ↦ elim t [ inl v ↦ absurd (omega arith) | inr v ↦ absurd (omega (arith, v.1)) ]
        | inr u ↦ get_or-set_other g.part i j c (pos 0) u ∙ g.left j (elim t [ inl v ↦ inl v | inr v ↦ inr (v.0, omega (arith, v.1)) ])
      ];
      value = take_in g.part b s s' row p (64 * n) i c long e (omega (arith, g.long)) zero f r g.value;
    }

-- all places with the remainder p are taken in
pub IsSummedTo-full : (a b s : List ℤ) (p n : ℕ) → n ≤ 12 → 761 ≤ 64 * n + p → p < 64 → IsSummedTo a b p n s → IsSummedTo a b p 12 s
IsSummedTo-full a b s p n k l m g = record {
  part = g.part;
  long = g.long;
  taken = λ i h t. g.taken i h (elim t [ inl u ↦ inl u | inr u ↦ inr (u.0, omega (arith, u.0)) ]);
  left = λ i t. g.left i (elim t [ inl u ↦ inl u | inr u ↦ inr (u.0, omega (arith, u.1)) ]);
  value = g.value;
}

pub IsSummedTo-all : (a b s : List ℤ) → length a ≡ 761 → IsSummedTo a b 0 12 s → reduced 1 s ≡ reduced 1 (times a b)
IsSummedTo-all a b s e g =
    let whole : g.part ≡ a = same_places g.part a (g.long ∙ sym e)
    (λ i l. let h : i < 761 = omega (arith, g.long) in g.taken i h (elim (cases_eq (i % 64) 0) [ inl u ↦ inr (u, omega arith) | inr u ↦ inl (omega arith) ])) in
    ap (reduced 1) (sym (shifted_none s)) ∙ g.value ∙ ap (λ t. reduced 1 (times t b)) whole

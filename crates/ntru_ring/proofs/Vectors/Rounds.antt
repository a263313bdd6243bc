-- x^64 times an element of R/3, on its planes: all words move up by one, and the last 64 places come round.
use Rattle.std.proofs.Common.{◌≡◌, ◌≢◌, inl, inr, ℕ, suc, ◌+◌, ◌-◌, ◌*◌, ◌/◌, ◌%◌, ◌^◌, ◌<◌, ◌≤◌, List, ◌∷◌, length, get_or, set, replicate, ℤ, pos, refl, sym, ap, ◌∙◌, arith, subst, get_or-set_same, get_or-set_other, length-set}
use Rattle.std.proofs.lemmas.Bool.{cases_lt, cases_eq}
use Rattle.std.proofs.lemmas.List.{get_or-replicate, length-replicate}
use Rattle.std.proofs.lemmas.Nat.Bits.{bit_at-zero}
use Rattle.std.proofs.Math.ListN.{get_or-eq_default}
use Rattle.std.specs.Int.{bit_at}
use Rattle.std.specs.Int.RustNames.{bit_or}
use lib.Bits.{bit_and}
use Rattle.ntru_ring.specs.Ring.{plus, shift}
use Rattle.ntru_ring.specs.Reduction.{reduced}
use Rattle.ntru_ring.specs.Planes.{bit_of, from_bits, element_of}
use Rattle.ntru_ring.specs.Powers.{shifted}
use Rattle.ntru_ring.proofs.Rings.Congruence.{reduced-plus_right}
use Rattle.ntru_ring.proofs.Rings.Shifted.{shifted_parts}
use Rattle.ntru_ring.proofs.Vectors.Planes.{IsLawful, length-element_of, coefficient-element_of}
use Rattle.ntru_ring.proofs.Vectors.Shifts.{low_there, high_there}
use Rattle.ntru_ring.proofs.Vectors.Words.{last_low, last_high}

-- ---- the words up to the place k are the old ones, moved up by one
pub record IsMovedWord (old new : List ℕ) (k : ℕ) : Type 0 where
  pub long : length new ≡ 12
  pub first : get_or new 0 0 ≡ 0
  pub done : (i : ℕ) → i + 1 < k → get_or new (i + 1) 0 ≡ get_or old i 0

pub IsMovedWord-more : (old new : List ℕ) (k : ℕ) → 1 ≤ k → k < 12 → IsMovedWord old new k → IsMovedWord old (set new k (get_or old (k - 1) 0)) (k + 1)
IsMovedWord-more old new k l h a =
    let w = get_or old (k - 1) 0 in
    record {
      long = length-set new k w ∙ a.long;
      first = let n : 0 ≢ k = omega arith in get_or-set_other new k 0 w 0 n ∙ a.first;
      done = λ i m. elim (cases_eq (i + 1) k) [
        | inl e ↦ let d : k - 1 ≡ i = omega arith in ap (λ t. get_or (set new k w) t 0) e ∙ get_or-set_same new k w 0 (omega (arith, a.long)) ∙ ap (λ t. get_or old t 0) d
        | inr n ↦ get_or-set_other new k (i + 1) w 0 n ∙ a.done i (omega arith)
      ];
    }

module _ (old new : List ℕ) (w k : ℕ) (h : 12 ≤ k) (e : w ≡ bit_and (get_or new 11 0) 144115188075855871) (a : IsMovedWord old new k) where
  pub word_low : (p : ℕ) → p < 64 → bit_of (set new 11 w) p ≡ 0
  word_low p l =
      let d : p / 64 ≡ 0 = omega arith in
      low_there new w a.long e p (omega arith) ∙ ap (λ t. bit_at (get_or new t 0) (p % 64)) d ∙ ap (λ t. bit_at t (p % 64)) a.first ∙ bit_at-zero (p % 64)

  pub word_rest : (p : ℕ) → 64 ≤ p → p < 761 → bit_of (set new 11 w) p ≡ bit_of old (p - 64)
  word_rest p l m =
      let d : p / 64 ≡ (p - 64) / 64 + 1 = omega arith in
      let r : p % 64 ≡ (p - 64) % 64 = omega arith in
      low_there new w a.long e p m ∙ ap (λ t. bit_at (get_or new t 0) (p % 64)) d ∙ ap (bit_at (get_or new ((p - 64) / 64 + 1) 0)) r
      ∙ ap (λ t. bit_at t ((p - 64) % 64)) (a.done ((p - 64) / 64) (omega arith))

  pub word_end : (p : ℕ) → 761 ≤ p → bit_of (set new 11 w) p ≡ 0
  word_end p l = high_there new w a.long e p l

-- ---- the last 64 places as the first ones
pub round_low : (old rest : List ℕ) → get_or old 10 0 < 2 ^ 64 → (p : ℕ) → p < 64 → bit_of (bit_or (get_or old 10 0 / 144115188075855872) (get_or old 11 0 * 128 % 18446744073709551616) ∷ rest) p ≡ bit_of old (697 + p)
round_low old rest f p l =
    let w = bit_or (get_or old 10 0 / 144115188075855872) (get_or old 11 0 * 128 % 18446744073709551616) in
    let d : p / 64 ≡ 0 = omega arith in
    let r : p % 64 ≡ p = omega arith in
    ap (λ t. bit_at (get_or (w ∷ rest) t 0) (p % 64)) d ∙ ap (bit_at w) r
    ∙ elim (cases_lt p 7) [
      | inl h ↦
          let q : 10 ≡ (697 + p) / 64 = omega arith in
          let s : 57 + p ≡ (697 + p) % 64 = omega arith in
          last_low (get_or old 11 0) (get_or old 10 0) p h ∙ ap (λ t. bit_at (get_or old t 0) (57 + p)) q ∙ ap (bit_at (get_or old ((697 + p) / 64) 0)) s
      | inr h ↦
          let q : 11 ≡ (697 + p) / 64 = omega arith in
          let s : p - 7 ≡ (697 + p) % 64 = omega arith in
          last_high (get_or old 11 0) (get_or old 10 0) p f h l ∙ ap (λ t. bit_at (get_or old t 0) (p - 7)) q ∙ ap (bit_at (get_or old ((697 + p) / 64) 0)) s
    ]

zeros : (n z i : ℕ) → get_or (replicate n z) i z ≡ z
zeros n z i = elim (cases_lt i n) [
  | inl l ↦ get_or-replicate n i z z l
  | inr l ↦ get_or-eq_default (replicate n z) z {n = i} (subst (λ m. m ≤ i) (sym (length-replicate n z)) l)
]

pub round_rest : (w p : ℕ) → 64 ≤ p → bit_of (w ∷ replicate 11 0) p ≡ 0
round_rest w p l =
    let d : p / 64 ≡ suc (p / 64 - 1) = omega arith in
    ap (λ t. bit_at (get_or (w ∷ replicate 11 0) t 0) (p % 64)) d ∙ ap (λ t. bit_at t (p % 64)) (zeros 11 0 (p / 64 - 1)) ∙ bit_at-zero (p % 64)

-- ---- both planes of both
module _ (m x m' x' t y : List ℕ) (p : IsLawful m x) (m_low : (k : ℕ) → k < 64 → bit_of m' k ≡ 0) (x_low : (k : ℕ) → k < 64 → bit_of x' k ≡ 0)
    (m_rest : (k : ℕ) → 64 ≤ k → k < 761 → bit_of m' k ≡ bit_of m (k - 64)) (x_rest : (k : ℕ) → 64 ≤ k → k < 761 → bit_of x' k ≡ bit_of x (k - 64))
    (m_end : (k : ℕ) → 761 ≤ k → bit_of m' k ≡ 0) (x_end : (k : ℕ) → 761 ≤ k → bit_of x' k ≡ 0)
    (t_low : (k : ℕ) → k < 64 → bit_of t k ≡ bit_of m (697 + k)) (y_low : (k : ℕ) → k < 64 → bit_of y k ≡ bit_of x (697 + k))
    (t_rest : (k : ℕ) → 64 ≤ k → bit_of t k ≡ 0) (y_rest : (k : ℕ) → 64 ≤ k → bit_of y k ≡ 0) where
  pub moved_lawful : IsLawful m' x'
  moved_lawful = record {
    inside = λ k. elim (cases_lt k 64) [
      | inl l ↦ omega (arith, m_low k l, x_low k l)
      | inr l ↦ elim (cases_lt k 761) [
        | inl h ↦ omega (arith, m_rest k l h, x_rest k l h, p.inside (k - 64))
        | inr h ↦ omega (arith, m_end k h, x_end k h)
      ]
    ];
    end = m_end;
  }

  pub round_lawful : IsLawful t y
  round_lawful = record {
    inside = λ k. elim (cases_lt k 64) [
      | inl l ↦ omega (arith, t_low k l, y_low k l, p.inside (697 + k))
      | inr l ↦ omega (arith, t_rest k l, y_rest k l)
    ];
    end = λ k l. t_rest k (omega arith);
  }

  no_bits : from_bits 0 0 ≡ pos 0
  no_bits = refl

  pub shifted_word : (r s : List ℤ) → s ≡ reduced 1 (shift (element_of t y)) → r ≡ reduced 1 (plus (element_of t y) s) → reduced 1 (plus (element_of m' x') r) ≡ reduced 1 (shifted 64 (element_of m x))
  shifted_word r s e f =
      let a = element_of m x in
      let b = element_of m' x' in
      let c = element_of t y in
      let value = λ (u v : List ℕ) (k : ℕ) (n i : ℕ) (g : bit_of u k ≡ n) (h : bit_of v k ≡ i). ap (λ z. from_bits z (bit_of v k)) g ∙ ap (from_bits n) h in
      ap (λ z. reduced 1 (plus b z)) (f ∙ ap (λ z. reduced 1 (plus c z)) e ∙ reduced-plus_right 1 c (shift c)) ∙ reduced-plus_right 1 b (plus c (shift c))
      ∙ ap (reduced 1)
      (shifted_parts a b c (length-element_of m x) (length-element_of m' x') (length-element_of t y)
      (λ k l. coefficient-element_of m' x' k (omega arith) ∙ value m' x' k 0 0 (m_low k l) (x_low k l) ∙ no_bits)
      (λ k l h. coefficient-element_of m' x' k h ∙ value m' x' k (bit_of m (k - 64)) (bit_of x (k - 64)) (m_rest k l h) (x_rest k l h) ∙ sym (coefficient-element_of m x (k - 64) (omega arith)))
      (λ k l. coefficient-element_of t y k (omega arith) ∙ value t y k (bit_of m (697 + k)) (bit_of x (697 + k)) (t_low k l) (y_low k l) ∙ sym (coefficient-element_of m x (697 + k) (omega arith)))
      (λ k l h. coefficient-element_of t y k h ∙ value t y k 0 0 (t_rest k l) (y_rest k l) ∙ no_bits))

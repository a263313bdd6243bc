-- x times an element of R/3, on its planes.
use Rattle.std.proofs.Common.{◌≡◌, ◌≢◌, inl, inr, ℕ, ◌+◌, ◌-◌, ◌/◌, ◌%◌, ◌<◌, ◌≤◌, List, length, get_or, set, ℤ, pos, zero, suc, ◌+ℤ◌, sym, ap, ◌∙◌, arith, subst, get_or-set_same, get_or-set_other, length-set, lit<}
use Rattle.std.proofs.lemmas.Bool.{cases_lt, cases_eq}
use Rattle.std.proofs.lemmas.Int.{ints}
use Rattle.std.specs.Int.{bit_at}
use lib.Bits.{bit_and}
use Rattle.ntru_ring.specs.Ring.{shift, coefficient}
use Rattle.ntru_ring.specs.Reduction.{centred, reduced}
use Rattle.ntru_ring.specs.Planes.{bit_of, from_bits, element_of, IsMoved}
use Rattle.ntru_ring.proofs.Rings.Algebra.{length-shift}
use Rattle.ntru_ring.proofs.Numbers.Centred.{centred_keeps}
use Rattle.ntru_ring.proofs.Rings.Congruence.{length-reduced}
use Rattle.ntru_ring.proofs.Rings.Places.{same_places, coefficient_within, coefficient-reduced, coefficient-shift_first, coefficient-shift_second, coefficient-shift_rest}
use Rattle.ntru_ring.proofs.Vectors.Planes.{IsLawful, length-element_of, coefficient-element_of, element_within, bit_of_beyond}
use Rattle.ntru_ring.proofs.Vectors.Words.{masked_low, masked_high}

-- ---- the last word without what comes after the place 760
module _ (new : List ℕ) (w : ℕ) (long : length new ≡ 12) (e : w ≡ bit_and (get_or new 11 0) 144115188075855871) where
  pub low_there : (p : ℕ) → p < 761 → bit_of (set new 11 w) p ≡ bit_of new p
  low_there p l = elim (cases_eq (p / 64) 11) [
    | inl q ↦
        ap (λ t. bit_at (get_or (set new 11 w) t 0) (p % 64)) q ∙ ap (λ t. bit_at t (p % 64)) (get_or-set_same new 11 w 0 (omega (arith, long)) ∙ e)
        ∙ masked_low (get_or new 11 0) (p % 64) (omega arith) ∙ ap (λ t. bit_at (get_or new t 0) (p % 64)) (sym q)
    | inr n ↦ ap (λ t. bit_at t (p % 64)) (get_or-set_other new 11 (p / 64) w 0 n)
  ]

  pub high_there : (p : ℕ) → 761 ≤ p → bit_of (set new 11 w) p ≡ 0
  high_there p l = elim (cases_lt p 768) [
    | inl q ↦
        let d : p / 64 ≡ 11 = omega arith in
        ap (λ t. bit_at (get_or (set new 11 w) t 0) (p % 64)) d ∙ ap (λ t. bit_at t (p % 64)) (get_or-set_same new 11 w 0 (omega (arith, long)) ∙ e)
        ∙ masked_high (get_or new 11 0) (p % 64) (omega arith)
    | inr q ↦ bit_of_beyond (set new 11 w) p (length-set new 11 w ∙ long) q
  ]

-- the first k words of `new` are those of `old`, moved up by one place
pub record IsMoving (old new : List ℕ) (k : ℕ) : Type 0 where
  pub length : length new ≡ 12
  pub first : bit_at (get_or new 0 0) 0 ≡ 0
  pub carried : (i : ℕ) → i + 1 < k → bit_at (get_or new (i + 1) 0) 0 ≡ bit_at (get_or old i 0) 63
  pub moved : (i j : ℕ) → i < k → j < 63 → bit_at (get_or new i 0) (j + 1) ≡ bit_at (get_or old i 0) j

pub IsMoving-first : (old new : List ℕ) (w : ℕ) → length new ≡ 12 → bit_at w 0 ≡ 0 → ((j : ℕ) → j < 63 → bit_at w (j + 1) ≡ bit_at (get_or old 0 0) j) → IsMoving old (set new 0 w) 1
IsMoving-first old new w e f g =
    let s = get_or-set_same new 0 w 0 (omega arith) in
    record {
      length = length-set new 0 w ∙ e;
      first = ap (λ t. bit_at t 0) s ∙ f;
      carried = λ i l. absurd (omega arith);
      moved = λ i j l h.
          let z : i ≡ 0 = omega arith in
          ap (λ t. bit_at (get_or (set new 0 w) t 0) (j + 1)) z ∙ ap (λ t. bit_at t (j + 1)) s ∙ g j h ∙ ap (λ t. bit_at (get_or old t 0) j) (sym z);
    }

pub IsMoving-more : (old new : List ℕ) (k w : ℕ) → 1 ≤ k → k < 12 → bit_at w 0 ≡ bit_at (get_or old (k - 1) 0) 63 → ((j : ℕ) → j < 63 → bit_at w (j + 1) ≡ bit_at (get_or old k 0) j) → IsMoving old new k → IsMoving old (set new k w) (k + 1)
IsMoving-more old new k w p l f g a =
    let s = get_or-set_same new k w 0 (omega (arith, a.length)) in
    let other = λ (i : ℕ) (n : i ≢ k). get_or-set_other new k i w 0 n in
    record {
      length = length-set new k w ∙ a.length;
      first = let n : 0 ≢ k = omega arith in ap (λ t. bit_at t 0) (other 0 n) ∙ a.first;
      carried = λ i h. elim (cases_eq (i + 1) k) [
        | inl e ↦ let d : k - 1 ≡ i = omega arith in ap (λ t. bit_at (get_or (set new k w) t 0) 0) e ∙ ap (λ t. bit_at t 0) s ∙ f ∙ ap (λ t. bit_at (get_or old t 0) 63) d
        | inr n ↦ ap (λ t. bit_at t 0) (other (i + 1) n) ∙ a.carried i (omega arith)
      ];
      moved = λ i j h q. elim (cases_eq i k) [
        | inl e ↦ ap (λ t. bit_at (get_or (set new k w) t 0) (j + 1)) e ∙ ap (λ t. bit_at t (j + 1)) s ∙ g j q ∙ ap (λ t. bit_at (get_or old t 0) j) (sym e)
        | inr n ↦ ap (λ t. bit_at t (j + 1)) (other i n) ∙ a.moved i j (omega arith) q
      ];
    }

module _ (old new : List ℕ) (k : ℕ) (h : 12 ≤ k) (a : IsMoving old new k) where
  rest_there : (p : ℕ) → p < 760 → bit_of new (p + 1) ≡ bit_of old p
  rest_there p l = elim (cases_lt (p % 64) 63) [
    | inl q ↦
        let d : (p + 1) / 64 ≡ p / 64 = omega arith in
        let r : (p + 1) % 64 ≡ p % 64 + 1 = omega arith in
        ap (λ t. bit_at (get_or new t 0) ((p + 1) % 64)) d ∙ ap (bit_at (get_or new (p / 64) 0)) r ∙ a.moved (p / 64) (p % 64) (omega arith) q
    | inr q ↦
        let d : (p + 1) / 64 ≡ p / 64 + 1 = omega arith in
        let r : (p + 1) % 64 ≡ 0 = omega arith in
        let e : 63 ≡ p % 64 = omega arith in
        ap (λ t. bit_at (get_or new t 0) ((p + 1) % 64)) d ∙ ap (bit_at (get_or new (p / 64 + 1) 0)) r ∙ a.carried (p / 64) (omega arith) ∙ ap (bit_at (get_or old (p / 64) 0)) e
  ]

  pub IsMoved-from_moving : (w : ℕ) → w ≡ bit_and (get_or new 11 0) 144115188075855871 → IsMoved old (set new 11 w)
  IsMoved-from_moving w e = record {
    length = length-set new 11 w ∙ a.length;
    first = low_there new w a.length e 0 (lit< tt) ∙ a.first;
    rest = λ p l. low_there new w a.length e (p + 1) (omega arith) ∙ rest_there p l;
    end = high_there new w a.length e;
  }

-- ---- both planes, and the last coefficient at the places 0 and 1
module _ (m x m' x' : List ℕ) (p : IsLawful m x) (a : IsMoved m m') (b : IsMoved x x') where
  pub moved_inside : (k : ℕ) → bit_of x' k ≤ bit_of m' k
  moved_inside zero = omega (arith, a.first, b.first)
  moved_inside (suc k) = elim (cases_lt k 760) [
    | inl l ↦ let e : suc k ≡ k + 1 = omega arith in subst (λ (t : ℕ). bit_of x' t ≤ bit_of m' t) (sym e) (omega (arith, a.rest k l, b.rest k l, p.inside k))
    | inr l ↦ omega (arith, a.end (suc k) (omega arith), b.end (suc k) (omega arith))
  ]

  moved_value : (k : ℕ) → k < 760 → from_bits (bit_of m' (k + 1)) (bit_of x' (k + 1)) ≡ coefficient (element_of m x) k
  moved_value k l = ap (λ t. from_bits t (bit_of x' (k + 1))) (a.rest k l) ∙ ap (from_bits (bit_of m k)) (b.rest k l) ∙ sym (coefficient-element_of m x k (omega arith))

  module _ (c : ℤ) (u v n y : ℕ) (e : c ≡ coefficient (element_of m x) 760)
      (sums : (j : ℕ) → from_bits (bit_at u j) (bit_at v j) ≡ centred 1 (from_bits (bit_at (get_or m' 0 0) j) (bit_at (get_or x' 0 0) j) +ℤ from_bits (bit_at n j) (bit_at y j)))
      (first : from_bits (bit_at n 0) (bit_at y 0) ≡ c) (second : from_bits (bit_at n 1) (bit_at y 1) ≡ c) (above : (j : ℕ) → 2 ≤ j → from_bits (bit_at n j) (bit_at y j) ≡ pos 0) where
    low_value : (k : ℕ) → k < 64 → from_bits (bit_of (set m' 0 u) k) (bit_of (set x' 0 v) k) ≡ centred 1 (from_bits (bit_of m' k) (bit_of x' k) +ℤ from_bits (bit_at n k) (bit_at y k))
    low_value k l =
        let d : k / 64 ≡ 0 = omega arith in
        let r : k % 64 ≡ k = omega arith in
        let bits = λ (words : List ℕ). ap (λ t. bit_at (get_or words t 0) (k % 64)) d ∙ ap (bit_at (get_or words 0 0)) r in
        ap (λ t. from_bits t (bit_of (set x' 0 v) k)) (bits (set m' 0 u) ∙ ap (λ t. bit_at t k) (get_or-set_same m' 0 u 0 (omega (arith, a.length))))
        ∙ ap (from_bits (bit_at u k)) (bits (set x' 0 v) ∙ ap (λ t. bit_at t k) (get_or-set_same x' 0 v 0 (omega (arith, b.length)))) ∙ sums k
        ∙ ap (λ t. centred 1 (from_bits t (bit_at (get_or x' 0 0) k) +ℤ from_bits (bit_at n k) (bit_at y k))) (sym (bits m'))
        ∙ ap (λ t. centred 1 (from_bits (bit_of m' k) t +ℤ from_bits (bit_at n k) (bit_at y k))) (sym (bits x'))

    high_bits : (words : List ℕ) (w k : ℕ) → 64 ≤ k → bit_of (set words 0 w) k ≡ bit_of words k
    high_bits words w k l = let n : k / 64 ≢ 0 = omega arith in ap (λ t. bit_at t (k % 64)) (get_or-set_other words 0 (k / 64) w 0 n)

    shift_place : (k : ℕ) → k < 761 → from_bits (bit_of (set m' 0 u) k) (bit_of (set x' 0 v) k) ≡ coefficient (reduced 1 (shift (element_of m x))) k
    shift_place zero l =
        let s : from_bits 0 0 +ℤ c ≡ c = omega (arith, ints) in
        low_value 0 (lit< tt) ∙ ap (λ t. centred 1 (from_bits t (bit_of x' 0) +ℤ from_bits (bit_at n 0) (bit_at y 0))) a.first
        ∙ ap (λ t. centred 1 (from_bits 0 t +ℤ from_bits (bit_at n 0) (bit_at y 0))) b.first ∙ ap (λ t. centred 1 (from_bits 0 0 +ℤ t)) first ∙ ap (centred 1) (s ∙ e)
        ∙ sym (coefficient-reduced 1 (shift (element_of m x)) 0 ∙ ap (centred 1) (coefficient-shift_first (element_of m x) 760 (length-element_of m x)))
    shift_place (suc zero) l =
        low_value 1 (lit< tt) ∙ ap (λ t. centred 1 (t +ℤ from_bits (bit_at n 1) (bit_at y 1))) (moved_value 0 (lit< tt))
        ∙ ap (λ t. centred 1 (coefficient (element_of m x) 0 +ℤ t)) (second ∙ e)
        ∙ sym (coefficient-reduced 1 (shift (element_of m x)) 1 ∙ ap (centred 1) (coefficient-shift_second (element_of m x) 759 (length-element_of m x)))
    shift_place (suc (suc k)) l =
        let q : suc (suc k) ≡ suc k + 1 = omega arith in
        let value = ap (λ t. from_bits (bit_of m' t) (bit_of x' t)) q ∙ moved_value (suc k) (omega arith) in
        let target = sym (coefficient-reduced 1 (shift (element_of m x)) (suc (suc k)) ∙ ap (centred 1) (coefficient-shift_rest (element_of m x) k (omega (arith, length-element_of m x)))) in
        elim (cases_lt (suc (suc k)) 64) [
          | inl h ↦
              let s : coefficient (element_of m x) (suc k) +ℤ pos 0 ≡ coefficient (element_of m x) (suc k) = omega (arith, ints) in
              low_value (suc (suc k)) h ∙ ap (λ t. centred 1 (t +ℤ from_bits (bit_at n (suc (suc k))) (bit_at y (suc (suc k))))) value
              ∙ ap (λ t. centred 1 (coefficient (element_of m x) (suc k) +ℤ t)) (above (suc (suc k)) (omega arith)) ∙ ap (centred 1) s ∙ target
          | inr h ↦
              ap (λ t. from_bits t (bit_of (set x' 0 v) (suc (suc k)))) (high_bits m' u (suc (suc k)) h) ∙ ap (from_bits (bit_of m' (suc (suc k)))) (high_bits x' v (suc (suc k)) h) ∙ value
              ∙ sym (centred_keeps 1 (coefficient (element_of m x) (suc k)) (coefficient_within 1 (element_of m x) (suc k) (element_within m x p.inside))) ∙ target
        ]

    pub shift_is : element_of (set m' 0 u) (set x' 0 v) ≡ reduced 1 (shift (element_of m x))
    shift_is =
        same_places (element_of (set m' 0 u) (set x' 0 v)) (reduced 1 (shift (element_of m x)))
        (length-element_of (set m' 0 u) (set x' 0 v) ∙ sym (length-reduced 1 (shift (element_of m x)) ∙ length-shift (element_of m x) ∙ length-element_of m x))
        (λ k l. let h : k < 761 = omega (arith, length-element_of (set m' 0 u) (set x' 0 v)) in coefficient-element_of (set m' 0 u) (set x' 0 v) k h ∙ shift_place k h)

    pub shift_lawful : ((j : ℕ) → bit_at v j ≤ bit_at u j) → IsLawful (set m' 0 u) (set x' 0 v)
    shift_lawful i = record {
      inside = λ k. elim (cases_lt k 64) [
        | inl l ↦
            let d : k / 64 ≡ 0 = omega arith in
            subst (λ (t : ℕ). bit_at (get_or (set x' 0 v) t 0) (k % 64) ≤ bit_at (get_or (set m' 0 u) t 0) (k % 64)) (sym d)
            (omega (arith, i (k % 64), ap (λ t. bit_at t (k % 64)) (get_or-set_same m' 0 u 0 (omega (arith, a.length))), ap (λ t. bit_at t (k % 64)) (get_or-set_same x' 0 v 0 (omega (arith, b.length)))))
        | inr l ↦ omega (arith, high_bits m' u k l, high_bits x' v k l, moved_inside k)
      ];
      end = λ k l. high_bits m' u k (omega arith) ∙ a.end k l;
    }

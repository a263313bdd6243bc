-- x^n times an element, by its coefficients and by what is moved and what comes round.
use Rattle.std.proofs.Common.{◌≡◌, inl, inr, ℕ, zero, suc, ◌+◌, ◌-◌, ◌*◌, ◌<◌, ◌≤◌, List, [], ◌∷◌, length, set, ℤ, pos, ◌+ℤ◌, refl, sym, ap, ◌∙◌, arith, subst}
use Rattle.std.proofs.lemmas.Bool.{cases_lt, cases_eq}
use Rattle.std.proofs.lemmas.Int.{ints}
use Rattle.ntru_ring.specs.Ring.{plus, scale, shift, times, coefficient}
use Rattle.ntru_ring.specs.Reduction.{reduced}
use Rattle.ntru_ring.specs.Powers.{shifted}
use Rattle.ntru_ring.proofs.Rings.Algebra.{length-plus, length-shift, length-times, plus_comm, plus_assoc, plus_scale_zero, shift-plus, shift-scale}
use Rattle.ntru_ring.proofs.Rings.Congruence.{reduced-reduced, shift_same}
use Rattle.ntru_ring.proofs.Rings.Places.{same_places, coefficient-plus, coefficient-shift_first, coefficient-shift_second, coefficient-shift_rest}

-- ---- laws
pub shifted-shift : (n : ℕ) (a : List ℤ) → shifted n (shift a) ≡ shift (shifted n a)
unfolding shifted
shifted-shift zero a = refl
shifted-shift (suc n) a = shifted-shift n (shift a)

pub length-shifted : (n : ℕ) (a : List ℤ) → length (shifted n a) ≡ length a
unfolding shifted
length-shifted zero a = refl
length-shifted (suc n) a = length-shifted n (shift a) ∙ length-shift a

pub shifted-shifted : (p n : ℕ) (a : List ℤ) → shifted p (shifted n a) ≡ shifted (n + p) a
unfolding shifted
shifted-shifted p zero a = let e : p ≡ 0 + p = omega arith in ap (λ t. shifted t a) e
shifted-shifted p (suc n) a = let e : suc (n + p) ≡ suc n + p = omega arith in shifted-shifted p n (shift a) ∙ ap (λ t. shifted t a) e

pub shifted-plus : (n : ℕ) (a b : List ℤ) → length a ≡ length b → shifted n (plus a b) ≡ plus (shifted n a) (shifted n b)
unfolding shifted
shifted-plus zero a b e = refl
shifted-plus (suc n) a b e = ap (shifted n) (shift-plus a b e) ∙ shifted-plus n (shift a) (shift b) (length-shift a ∙ e ∙ sym (length-shift b))

pub shifted-scale : (n : ℕ) (c : ℤ) (a : List ℤ) → shifted n (scale c a) ≡ scale c (shifted n a)
unfolding shifted
shifted-scale zero c a = refl
shifted-scale (suc n) c a = ap (shifted n) (shift-scale c a) ∙ shifted-scale n c (shift a)

pub shifted_same : (h n : ℕ) (a b : List ℤ) → reduced h a ≡ reduced h b → reduced h (shifted n a) ≡ reduced h (shifted n b)
unfolding shifted
shifted_same h zero a b e = e
shifted_same h (suc n) a b e = shifted_same h n (shift a) (shift b) (shift_same h a b e)

pub shifted_none : (a : List ℤ) → shifted 0 a ≡ a
unfolding shifted
shifted_none a = refl

pub shifted_one : (n : ℕ) (a : List ℤ) → shifted (suc n) a ≡ shifted n (shift a)
unfolding shifted
shifted_one n a = refl

-- one coefficient more of the first factor
pub times-set : (a b : List ℤ) (i : ℕ) (c : ℤ) → i < length a → coefficient a i ≡ pos 0 → times (set a i c) b ≡ plus (times a b) (scale c (shifted i b))
unfolding times shifted
times-set [] b i c l e = absurd (omega arith)
times-set (x ∷ a) b zero c l e =
    let r = times a (shift b) in
    let long = length-times a (shift b) ∙ length-shift b in
    sym
    (ap (λ t. plus (plus (scale t b) r) (scale c b)) e ∙ ap (λ t. plus t (scale c b)) (plus_comm (scale (pos 0) b) r ∙ plus_scale_zero r b long) ∙ plus_comm r (scale c b))
times-set (x ∷ a) b (suc i) c l e =
    ap (plus (scale x b)) (times-set a (shift b) i c (omega arith) e) ∙ sym (plus_assoc (scale x b) (times a (shift b)) (scale c (shifted i (shift b))))

-- ---- the coefficients of x^(i + 1) * a
record IsShifted (i : ℕ) (a b : List ℤ) : Type 0 where
  pub long : length b ≡ 761
  pub above : (k : ℕ) → suc i < k → k < 761 → coefficient b k ≡ coefficient a (k - suc i)
  pub there : coefficient b (suc i) ≡ coefficient a 0 +ℤ coefficient a 760
  pub below : (k : ℕ) → 1 ≤ k → k ≤ i → coefficient b k ≡ coefficient a (k + 760 - i) +ℤ coefficient a (k + 759 - i)
  pub first : coefficient b 0 ≡ coefficient a (760 - i)

IsShifted-one : (a : List ℤ) → length a ≡ 761 → IsShifted 0 a (shift a)
IsShifted-one a e = record {
  long = length-shift a ∙ e;
  above = above;
  there = coefficient-shift_second a 759 e;
  below = λ k l h. absurd (omega arith);
  first = coefficient-shift_first a 760 e;
}
  where
    above : (k : ℕ) → 1 < k → k < 761 → coefficient (shift a) k ≡ coefficient a (k - 1)
    above zero l h = absurd (omega arith)
    above (suc zero) l h = absurd (omega arith)
    above (suc (suc k)) l h = let s : suc k ≡ suc (suc k) - 1 = omega arith in coefficient-shift_rest a k (omega (arith, e)) ∙ ap (coefficient a) s

IsShifted-more : (i : ℕ) (a b : List ℤ) → suc i < 760 → IsShifted i a b → IsShifted (suc i) a (shift b)
IsShifted-more i a b m s = record {
  long = length-shift b ∙ s.long;
  above = above;
  there = coefficient-shift_rest b i (omega (arith, s.long)) ∙ s.there;
  below = below;
  first = coefficient-shift_first b 760 s.long ∙ s.above 760 m (omega arith);
}
  where
    above : (k : ℕ) → suc (suc i) < k → k < 761 → coefficient (shift b) k ≡ coefficient a (k - suc (suc i))
    above zero l h = absurd (omega arith)
    above (suc zero) l h = absurd (omega arith)
    above (suc (suc k)) l h =
        let e : suc k - suc i ≡ suc (suc k) - suc (suc i) = omega arith in
        coefficient-shift_rest b k (omega (arith, s.long)) ∙ s.above (suc k) (omega arith) (omega arith) ∙ ap (coefficient a) e

    below : (k : ℕ) → 1 ≤ k → k ≤ suc i → coefficient (shift b) k ≡ coefficient a (k + 760 - suc i) +ℤ coefficient a (k + 759 - suc i)
    below zero l h = absurd (omega arith)
    below (suc zero) l h =
        let p : 760 - i ≡ 1 + 760 - suc i = omega arith in
        let q : 760 - suc i ≡ 1 + 759 - suc i = omega arith in
        coefficient-shift_second b 759 s.long ∙ ap (λ t. t +ℤ coefficient b 760) (s.first ∙ ap (coefficient a) p) ∙ ap (λ t. coefficient a (1 + 760 - suc i) +ℤ t) (s.above 760 m (omega arith) ∙ ap (coefficient a) q)
    below (suc (suc k)) l h =
        let p : suc k + 760 - i ≡ suc (suc k) + 760 - suc i = omega arith in
        let q : suc k + 759 - i ≡ suc (suc k) + 759 - suc i = omega arith in
        coefficient-shift_rest b k (omega (arith, s.long)) ∙ s.below (suc k) (omega arith) (omega arith) ∙ ap (λ t. t +ℤ coefficient a (suc k + 759 - i)) (ap (coefficient a) p)
        ∙ ap (λ t. coefficient a (suc (suc k) + 760 - suc i) +ℤ t) (ap (coefficient a) q)

shifted_is : (i : ℕ) (a : List ℤ) → i < 760 → length a ≡ 761 → IsShifted i a (shifted (suc i) a)
unfolding shifted
shifted_is zero a l e = IsShifted-one a e
shifted_is (suc i) a l e = subst (IsShifted (suc i) a) (sym (shifted-shift (suc i) a)) (IsShifted-more i a (shifted (suc i) a) l (shifted_is i a (omega arith) e))

-- ---- x^64 * a is what is moved, and 1 + x times what comes round
module _ (a m t : List ℤ) (e : length a ≡ 761) (f : length m ≡ 761) (g : length t ≡ 761) (m_low : (k : ℕ) → k < 64 → coefficient m k ≡ pos 0)
    (m_rest : (k : ℕ) → 64 ≤ k → k < 761 → coefficient m k ≡ coefficient a (k - 64)) (t_low : (k : ℕ) → k < 64 → coefficient t k ≡ coefficient a (697 + k))
    (t_rest : (k : ℕ) → 64 ≤ k → k < 761 → coefficient t k ≡ pos 0) where
  s : IsShifted 63 a (shifted 64 a)
  s = shifted_is 63 a (omega arith) e

  both_at : (k : ℕ) → coefficient (plus m (plus t (shift t))) k ≡ coefficient m k +ℤ (coefficient t k +ℤ coefficient (shift t) k)
  both_at k =
      let l = length-shift t ∙ g in
      coefficient-plus m (plus t (shift t)) k (f ∙ sym (length-plus t (shift t) (g ∙ sym l) ∙ l)) ∙ ap (λ y. coefficient m k +ℤ y) (coefficient-plus t (shift t) k (g ∙ sym l))

  three : (x y z x' y' z' : ℤ) → x ≡ x' → y ≡ y' → z ≡ z' → x +ℤ (y +ℤ z) ≡ x' +ℤ (y' +ℤ z')
  three x y z x' y' z' p q r = cc

  place : (k : ℕ) → k < 761 → coefficient (plus m (plus t (shift t))) k ≡ coefficient (shifted 64 a) k
  place zero l =
      let z : pos 0 +ℤ (coefficient a 697 +ℤ pos 0) ≡ coefficient a 697 = omega (arith, ints) in
      both_at 0 ∙ three _ _ _ _ _ _ (m_low 0 (omega arith)) (t_low 0 (omega arith)) (coefficient-shift_first t 760 g ∙ t_rest 760 (omega arith) (omega arith)) ∙ z ∙ sym s.first
  place (suc zero) l =
      let z : pos 0 +ℤ (coefficient a 698 +ℤ (coefficient a 697 +ℤ pos 0)) ≡ coefficient a 698 +ℤ coefficient a 697 = omega (arith, ints) in
      let second = coefficient-shift_second t 759 g ∙ ap (λ y. y +ℤ coefficient t 760) (t_low 0 (omega arith)) ∙ ap (λ y. coefficient a 697 +ℤ y) (t_rest 760 (omega arith) (omega arith)) in
      both_at 1 ∙ three _ _ _ _ _ _ (m_low 1 (omega arith)) (t_low 1 (omega arith)) second ∙ z ∙ sym (s.below 1 (omega arith) (omega arith))
  place (suc (suc k)) l =
      let rest = coefficient-shift_rest t k (omega (arith, g)) in
      let n = suc (suc k) in
      elim (cases_lt n 64) [
        | inl h ↦
            let p : 697 + n ≡ n + 760 - 63 = omega arith in
            let q : 697 + suc k ≡ n + 759 - 63 = omega arith in
            let z : pos 0 +ℤ (coefficient a (n + 760 - 63) +ℤ coefficient a (n + 759 - 63)) ≡ coefficient a (n + 760 - 63) +ℤ coefficient a (n + 759 - 63) = omega (arith, ints) in
            both_at n ∙ three _ _ _ _ _ _ (m_low n h) (t_low n h ∙ ap (coefficient a) p) (rest ∙ t_low (suc k) (omega arith) ∙ ap (coefficient a) q) ∙ z ∙ sym (s.below n (omega arith) (omega arith))
        | inr h ↦ elim (cases_eq n 64) [
          | inl i ↦
              let p : n - 64 ≡ 0 = omega arith in
              let q : 697 + suc k ≡ 760 = omega arith in
              let z : coefficient a 0 +ℤ (pos 0 +ℤ coefficient a 760) ≡ coefficient a 0 +ℤ coefficient a 760 = omega (arith, ints) in
              both_at n ∙ three _ _ _ _ _ _ (m_rest n h l ∙ ap (coefficient a) p) (t_rest n h l) (rest ∙ t_low (suc k) (omega arith) ∙ ap (coefficient a) q) ∙ z ∙ sym s.there
              ∙ ap (coefficient (shifted 64 a)) (sym i)
          | inr j ↦
              let z : coefficient a (n - 64) +ℤ (pos 0 +ℤ pos 0) ≡ coefficient a (n - 64) = omega (arith, ints) in
              both_at n ∙ three _ _ _ _ _ _ (m_rest n h l) (t_rest n h l) (rest ∙ t_rest (suc k) (omega arith) (omega arith)) ∙ z ∙ sym (s.above n (omega arith) l)
        ]
      ]

  pub shifted_parts : plus m (plus t (shift t)) ≡ shifted 64 a
  shifted_parts =
      let l = length-shift t ∙ g in
      let n = length-plus t (shift t) (g ∙ sym l) ∙ l in
      let o : length (plus m (plus t (shift t))) ≡ 761 = length-plus m (plus t (shift t)) (f ∙ sym n) ∙ n in
      same_places (plus m (plus t (shift t))) (shifted 64 a) (o ∙ sym (length-shifted 64 a ∙ e)) (λ k h. place k (omega (arith, o)))

-- x^64 times a row
pub shifted_row : (row before a : List ℤ) (k : ℕ) → 1 ≤ k → row ≡ reduced 1 (shifted 64 before) → before ≡ reduced 1 (shifted (64 * (k - 1)) a) → row ≡ reduced 1 (shifted (64 * k) a)
shifted_row row before a k l e f =
    let x = shifted (64 * (k - 1)) a in
    let n : 64 * (k - 1) + 64 ≡ 64 * k = omega arith in
    e ∙ shifted_same 1 64 before x (ap (reduced 1) f ∙ reduced-reduced 1 x) ∙ ap (reduced 1) (shifted-shifted 64 (64 * (k - 1)) a ∙ ap (λ t. shifted t a) n)

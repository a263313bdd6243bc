-- Vectors of coefficients over R/q, lane by lane, as the code computes them in bits.
use Rattle.std.proofs.Common.{◌≡◌, ℕ, zero, suc, ◌+◌, ◌-◌, ◌*◌, ◌%◌, ◌^◌, ◌<◌, List, [], ◌∷◌, length, map, replicate, ℤ, pos, neg_ℤ, ◌+ℤ◌, ◌-ℤ◌, ◌*ℤ◌, ◌≤ℤ◌, to_z, of_z, refl, sym, ap, ◌∙◌, arith, All, lit<, subst}
use Rattle.std.proofs.lemmas.Int.{ints, to_z-of_z, int_wrap_fits, wrapping_add-bits, wrapping_sub-bits, wrapping_mul_is, wrapping_mul_onto, int_wrap-add_left, int_wrap-add_right, int_wrap-sub_right}
use Rattle.std.proofs.lemmas.List.Elements.{All-head, All-tail, All-cons, All-nil}
use Rattle.std.proofs.Math.Facts.{Fits-of_z}
use Rattle.std.proofs.Math.IntN.{*ℤ_comm}
use Rattle.std.specs.Int.{int_wrap}
use borrow.Author.Differences.{up, down}
use lib.Lanes.{zip2, Each1}
use lib.Signed.{shr_z, ◌<ℤ◌}
use mir.Syntax.{w16, w32}
use mir.Val.{SFits}
use Rattle.ntru_ring.specs.Ring.{plus, scale}
use Rattle.ntru_ring.specs.Reduction.{centred, reduced, IsWithin, IsNear}
use Rattle.ntru_ring.proofs.Numbers.Centred.{centred_same}
use Rattle.ntru_ring.proofs.Numbers.Integers.{*ℤ-+ℤ, *ℤ_swap, minus_product, shr_low, shr_high}
use Rattle.ntru_ring.proofs.Numbers.Ranges.{within_product, within_fits, within_word, stored}

-- ---- quotients by 65536
-- the errors of a quotient a of v * q, where q is about 65536 * f / 4591, and b is - f * v
quotient_low : (a k : ℤ) → IsWithin 75202560 a → a <ℤ (pos 65536 *ℤ k +ℤ pos 65536) → (pos 65536 *ℤ k) ≤ℤ a → IsWithin 1148 k
quotient_low a k w h l = record { low = omega (arith, ints, w.low, h); high = omega (arith, ints, w.high, l) }

error_near : (u a b k : ℤ) → IsWithin 2295 u → IsWithin 5267025 (pos 4591 *ℤ a +ℤ pos 65536 *ℤ b) → (pos 65536 *ℤ k) ≤ℤ a → a <ℤ (pos 65536 *ℤ k +ℤ pos 65536) → IsNear (u +ℤ b +ℤ k *ℤ pos 4591)
error_near u a b k w e l h = record { low = omega (arith, ints, w.low, e.low, h); high = omega (arith, ints, w.high, e.high, l) }

error_is : (v q f : ℤ) → v *ℤ (pos 4591 *ℤ q -ℤ pos 65536 *ℤ f) ≡ pos 4591 *ℤ (v *ℤ q) +ℤ pos 65536 *ℤ (neg_ℤ f *ℤ v)
error_is v q f =
    let e : pos 4591 *ℤ q -ℤ pos 65536 *ℤ f ≡ pos 4591 *ℤ q +ℤ pos 65536 *ℤ neg_ℤ f = omega (arith, ints) in
    ap (λ t. v *ℤ t) e ∙ *ℤ-+ℤ v (pos 4591 *ℤ q) (pos 65536 *ℤ neg_ℤ f) ∙ ap (λ t. t +ℤ v *ℤ (pos 65536 *ℤ neg_ℤ f)) (*ℤ_swap v (pos 4591) q)
    ∙ ap (λ t. pos 4591 *ℤ (v *ℤ q) +ℤ t) (*ℤ_swap v (pos 65536) (neg_ℤ f) ∙ ap (λ t. pos 65536 *ℤ t) (*ℤ_comm v (neg_ℤ f)))

pub near_within : (z : ℤ) → IsNear z → IsWithin 6967 z
near_within z n = record { low = n.low; high = omega (arith, ints, n.high) }

-- ---- one lane of x - f * y
module _ (f q : ℤ) where
  quotient_bits : ℤ → ℕ
  quotient_bits v = of_z w32 (shr_z (to_z w32 (of_z w32 (to_z w16 (of_z w16 v)) * of_z w32 (to_z w16 (of_z w16 q)) % 4294967296)) 65536)

  lane : ℤ → ℤ → ℤ
  lane u v = to_z w16 (((of_z w16 u + (65536 - of_z w16 v * of_z w16 f % 65536)) % 65536 + of_z w16 (to_z w32 (quotient_bits v)) * 4591 % 65536) % 65536)

  module _ (ff : IsWithin 2295 f) (fq : SFits w16 q) (near : IsWithin 2295 (pos 4591 *ℤ q -ℤ pos 65536 *ℤ f)) where
    product_in : (v : ℤ) → IsWithin 2295 v → IsWithin 75202560 (v *ℤ q)
    product_in v w = within_product 2295 32768 v q w (within_word q fq)

    product_stored : (v : ℤ) → IsWithin 2295 v → to_z w32 (of_z w32 (to_z w16 (of_z w16 v)) * of_z w32 (to_z w16 (of_z w16 q)) % 4294967296) ≡ v *ℤ q
    product_stored v w =
        ap (λ t. to_z w32 (of_z w32 t * of_z w32 (to_z w16 (of_z w16 q)) % 4294967296)) (stored w16 2295 v w (lit< tt))
        ∙ ap (λ t. to_z w32 (of_z w32 v * of_z w32 t % 4294967296)) (to_z-of_z w16 q fq)
        ∙ wrapping_mul_is w32 v q (within_fits w32 2295 v w (lit< tt)) (within_fits w32 32768 q (within_word q fq) (lit< tt))
        ∙ int_wrap_fits w32 (v *ℤ q) (within_fits w32 75202560 (v *ℤ q) (product_in v w) (lit< tt))

    quotient_in : (v : ℤ) → IsWithin 2295 v → IsWithin 1148 (shr_z (v *ℤ q) 65536)
    quotient_in v w = quotient_low (v *ℤ q) (shr_z (v *ℤ q) 65536) (product_in v w) (shr_high (v *ℤ q)) (shr_low (v *ℤ q))

    quotient_stored : (v : ℤ) → IsWithin 2295 v → to_z w32 (quotient_bits v) ≡ shr_z (v *ℤ q) 65536
    unfolding quotient_bits
    quotient_stored v w = ap (λ t. to_z w32 (of_z w32 (shr_z t 65536))) (product_stored v w) ∙ stored w32 1148 (shr_z (v *ℤ q) 65536) (quotient_in v w) (lit< tt)

    quotient_fits : (v : ℤ) → IsWithin 2295 v → SFits w16 (to_z w32 (quotient_bits v))
    quotient_fits v w = subst (SFits w16) (sym (quotient_stored v w)) (within_fits w16 1148 (shr_z (v *ℤ q) 65536) (quotient_in v w) (lit< tt))

    lane_near : (u v : ℤ) → IsWithin 2295 u → IsWithin 2295 v → IsNear (u +ℤ neg_ℤ f *ℤ v +ℤ shr_z (v *ℤ q) 65536 *ℤ pos 4591)
    lane_near u v x y =
        error_near u (v *ℤ q) (neg_ℤ f *ℤ v) (shr_z (v *ℤ q) 65536) x
        (subst (IsWithin 5267025) (error_is v q f) (within_product 2295 2295 v (pos 4591 *ℤ q -ℤ pos 65536 *ℤ f) y near)) (shr_low (v *ℤ q)) (shr_high (v *ℤ q))

    lane_is : (u v : ℤ) → IsWithin 2295 u → IsWithin 2295 v → lane u v ≡ u +ℤ neg_ℤ f *ℤ v +ℤ shr_z (v *ℤ q) 65536 *ℤ pos 4591
    unfolding lane
    lane_is u v x y =
        let k = shr_z (v *ℤ q) 65536 in
        let low = of_z w16 v * of_z w16 f % 65536 in
        let left = (of_z w16 u + (65536 - low)) % 65536 in
        let t = of_z w16 (to_z w32 (quotient_bits v)) in
        let right = t * 4591 % 65536 in
        let su = within_fits w16 2295 u x (lit< tt) in
        let fu : of_z w16 u < 2 ^ 16 = (Fits-of_z su).fits in
        let ft : t < 2 ^ 16 = (Fits-of_z (quotient_fits v y)).fits in
        let product = wrapping_mul_is w16 v f (within_fits w16 2295 v y (lit< tt)) (within_fits w16 2295 f ff (lit< tt)) in
        let a : to_z w16 left ≡ int_wrap w16 (u -ℤ v *ℤ f) =
        wrapping_sub-bits w16 (of_z w16 u) low fu (omega arith) ∙ ap (λ s. int_wrap w16 (s -ℤ to_z w16 low)) (to_z-of_z w16 u su)
        ∙ ap (λ s. int_wrap w16 (u -ℤ s)) product ∙ int_wrap-sub_right w16 u (v *ℤ f) in
        let b : to_z w16 right ≡ int_wrap w16 (k *ℤ pos 4591) =
        wrapping_mul_onto w16 t (pos 4591) ft (within_fits w16 4591 (pos 4591) (record { low = omega (arith, ints); high = omega (arith, ints) }) (lit< tt))
        ∙ ap (λ s. int_wrap w16 (s *ℤ pos 4591)) (to_z-of_z w16 (to_z w32 (quotient_bits v)) (quotient_fits v y) ∙ quotient_stored v y) in
        let n = lane_near u v x y in
        wrapping_add-bits w16 left right (omega arith) (omega arith)
        ∙ ap (λ s. int_wrap w16 (s +ℤ to_z w16 right)) a ∙ ap (λ s. int_wrap w16 (int_wrap w16 (u -ℤ v *ℤ f) +ℤ s)) b
        ∙ int_wrap-add_left w16 (u -ℤ v *ℤ f) (int_wrap w16 (k *ℤ pos 4591)) ∙ int_wrap-add_right w16 (u -ℤ v *ℤ f) (k *ℤ pos 4591)
        ∙ ap (λ s. int_wrap w16 (s +ℤ k *ℤ pos 4591)) (ap (λ s. u -ℤ s) (*ℤ_comm v f) ∙ minus_product u f v)
        ∙ int_wrap_fits w16 (u +ℤ neg_ℤ f *ℤ v +ℤ k *ℤ pos 4591) (within_fits w16 6967 _ (near_within _ n) (lit< tt))

    lane_same : (u v : ℤ) → IsWithin 2295 u → IsWithin 2295 v → centred 2295 (lane u v) ≡ centred 2295 (u +ℤ neg_ℤ f *ℤ v)
    lane_same u v x y =
        let k = shr_z (v *ℤ q) 65536 in
        ap (centred 2295) (lane_is u v x y) ∙ multiple (u +ℤ neg_ℤ f *ℤ v) k
      where
        multiple : (z k : ℤ) → centred 2295 (z +ℤ k *ℤ pos 4591) ≡ centred 2295 z
        multiple z k = centred_same 2295 (z +ℤ k *ℤ pos 4591) z (down k) (up k) (omega (arith, ints))

    -- ---- the vector, as the code computes it
    pub quotients_fit : (n : ℕ) (y : List ℤ) → length y ≡ n → All (IsWithin 2295) y
        → Each1 (λ a. SFits w16 (to_z w32 a)) (zip2 (λ a b. of_z w32 (shr_z (to_z w32 a) (2 ^ b))) (zip2 (λ a b. a * b % 4294967296) (map (λ a. of_z w32 (to_z w16 a)) (map (of_z w16) y)) (replicate n (of_z w32 (to_z w16 (of_z w16 q))))) (replicate n 16))
    unfolding quotient_bits
    quotients_fit zero [] e w = tt
    quotients_fit zero (v ∷ y) e w = absurd (omega arith)
    quotients_fit (suc n) [] e w = absurd (omega arith)
    quotients_fit (suc n) (v ∷ y) e w = (quotient_fits v (All-head (IsWithin 2295) v y w), quotients_fit n y (omega arith) (All-tail (IsWithin 2295) v y w))

    pub lanes_same : (n : ℕ) (x y : List ℤ) → length x ≡ n → length y ≡ n → All (IsWithin 2295) x → All (IsWithin 2295) y
        → reduced 2295 (map (to_z w16) (zip2 (λ a b. (a + b) % 65536)
        (zip2 (λ a b. (a + (65536 - b)) % 65536) (map (of_z w16) x) (zip2 (λ a b. a * b % 65536) (map (of_z w16) y) (replicate n (of_z w16 f))))
        (zip2 (λ a b. a * b % 65536) (map (λ a. of_z w16 (to_z w32 a)) (zip2 (λ a b. of_z w32 (shr_z (to_z w32 a) (2 ^ b))) (zip2 (λ a b. a * b % 4294967296) (map (λ a. of_z w32 (to_z w16 a)) (map (of_z w16) y)) (replicate n (of_z w32 (to_z w16 (of_z w16 q))))) (replicate n 16))) (replicate n 4591))))
        ≡ reduced 2295 (plus x (scale (neg_ℤ f) y))
    unfolding reduced plus scale lane quotient_bits
    lanes_same zero [] [] e g w z = refl
    lanes_same (suc n) (u ∷ x) (v ∷ y) e g w z =
        let p = lane_same u v (All-head (IsWithin 2295) u x w) (All-head (IsWithin 2295) v y z) in
        let r = lanes_same n x y (omega arith) (omega arith) (All-tail (IsWithin 2295) u x w) (All-tail (IsWithin 2295) v y z) in
        λ i. p i ∷ r i
    lanes_same zero (u ∷ x) y e g w z = absurd (omega arith)
    lanes_same zero [] (v ∷ y) e g w z = absurd (omega arith)
    lanes_same (suc n) [] y e g w z = absurd (omega arith)
    lanes_same (suc n) (u ∷ x) [] e g w z = absurd (omega arith)

    pub lanes_near : (n : ℕ) (x y : List ℤ) → length x ≡ n → length y ≡ n → All (IsWithin 2295) x → All (IsWithin 2295) y
        → All IsNear (map (to_z w16) (zip2 (λ a b. (a + b) % 65536)
        (zip2 (λ a b. (a + (65536 - b)) % 65536) (map (of_z w16) x) (zip2 (λ a b. a * b % 65536) (map (of_z w16) y) (replicate n (of_z w16 f))))
        (zip2 (λ a b. a * b % 65536) (map (λ a. of_z w16 (to_z w32 a)) (zip2 (λ a b. of_z w32 (shr_z (to_z w32 a) (2 ^ b))) (zip2 (λ a b. a * b % 4294967296) (map (λ a. of_z w32 (to_z w16 a)) (map (of_z w16) y)) (replicate n (of_z w32 (to_z w16 (of_z w16 q))))) (replicate n 16))) (replicate n 4591))))
    unfolding lane quotient_bits
    lanes_near zero [] [] e g w z = All-nil IsNear
    lanes_near (suc n) (u ∷ x) (v ∷ y) e g w z =
        let a = All-head (IsWithin 2295) u x w in
        let b = All-head (IsWithin 2295) v y z in
        All-cons IsNear _ _ (subst IsNear (sym (lane_is u v a b)) (lane_near u v a b)) (lanes_near n x y (omega arith) (omega arith) (All-tail (IsWithin 2295) u x w) (All-tail (IsWithin 2295) v y z))
    lanes_near zero (u ∷ x) y e g w z = absurd (omega arith)
    lanes_near zero [] (v ∷ y) e g w z = absurd (omega arith)
    lanes_near (suc n) [] y e g w z = absurd (omega arith)
    lanes_near (suc n) (u ∷ x) [] e g w z = absurd (omega arith)

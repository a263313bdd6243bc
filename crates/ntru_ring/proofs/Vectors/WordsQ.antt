-- One coefficient of a sum over R/q, as the code computes it in 16 bits.
use Rattle.std.proofs.Common.{◌≡◌, ◌+◌, ◌<◌, ℕ, true, false, ℤ, pos, neg_ℤ, ◌≤ℤ◌, ◌+ℤ◌, ◌-ℤ◌, ◌*ℤ◌, sym, ap, ◌∙◌, to_z, of_z, lit<, subst, arith}
use Rattle.std.proofs.lemmas.Int.{ints, to_z-of_z, by_lt_z}
use borrow.Author.Differences.{up, down}
use lib.Dec.{T}
use lib.Signed.{lt_z, shr_z, ◌<ℤ◌}
use mir.Syntax.{w16, w32}
use mir.Val.{SFits}
use Rattle.ntru_ring.specs.Reduction.{centred, IsWithin}
use Rattle.ntru_ring.proofs.Numbers.Centred.{centred_keeps, centred_same}
use Rattle.ntru_ring.proofs.Numbers.Integers.{shr_low, shr_high}
use Rattle.ntru_ring.proofs.Vectors.LanesQ.{stored_centred, widened_word}
use Rattle.ntru_ring.proofs.Numbers.Ranges.{within_fits, within_product, within_sum, within_word, stored, fits_along}

-- ---- sums in 16 bits of rows that are added or subtracted
pub read_word : (q x : ℤ) → SFits w16 x → q ≡ centred 2295 (to_z w16 (of_z w16 x)) → to_z w16 (of_z w16 q) ≡ centred 2295 x
read_word q x f e = stored_centred q (to_z w16 (of_z w16 x)) e ∙ ap (centred 2295) (to_z-of_z w16 x f)

module _ (r s t : ℤ) (w : IsWithin 2295 r) (f : t ≡ s) (u : IsWithin 29835 s) where
  read_sum : to_z w16 (of_z w16 t) ≡ s
  read_sum = ap (λ x. to_z w16 (of_z w16 x)) f ∙ stored w16 29835 s u (lit< tt)

  row_sum : to_z w16 (of_z w16 t) +ℤ to_z w16 (of_z w16 r) ≡ s +ℤ r
  row_sum = ap (λ x. x +ℤ to_z w16 (of_z w16 r)) read_sum ∙ ap (λ x. s +ℤ x) (stored w16 2295 r w (lit< tt))

  pub row_sum_fits : SFits w16 (to_z w16 (of_z w16 t) +ℤ to_z w16 (of_z w16 r))
  row_sum_fits = fits_along w16 _ _ row_sum (within_fits w16 32130 (s +ℤ r) (within_sum 29835 2295 s r u w) (lit< tt))

  pub row_sum_stored : to_z w16 (of_z w16 (to_z w16 (of_z w16 t) +ℤ to_z w16 (of_z w16 r))) ≡ t +ℤ pos 1 *ℤ r
  row_sum_stored =
      let e : s +ℤ r ≡ t +ℤ pos 1 *ℤ r = ap (λ x. x +ℤ r) (sym f) ∙ once t r in
      to_z-of_z w16 _ row_sum_fits ∙ row_sum ∙ e
    where
      once : (t r : ℤ) → t +ℤ r ≡ t +ℤ pos 1 *ℤ r
      once t r = omega (arith, ints)

-- ---- a sum of two numbers in 16 bits
module _ (m n : ℕ) (x y : ℤ) (v : IsWithin m x) (w : IsWithin n y) (l : m < 32768) (k : n < 32768) (h : m + n < 32768) where
  two_read : to_z w16 (of_z w16 x) +ℤ to_z w16 (of_z w16 y) ≡ x +ℤ y
  two_read = ap (λ t. t +ℤ to_z w16 (of_z w16 y)) (stored w16 m x v l) ∙ ap (λ t. x +ℤ t) (stored w16 n y w k)

  two_within : IsWithin (m + n) (to_z w16 (of_z w16 x) +ℤ to_z w16 (of_z w16 y))
  two_within = subst (IsWithin (m + n)) (sym two_read) (within_sum m n x y v w)

  pub two_fit : SFits w16 (to_z w16 (of_z w16 x) +ℤ to_z w16 (of_z w16 y))
  two_fit = within_fits w16 (m + n) _ two_within h

  two_stored : to_z w16 (of_z w16 (to_z w16 (of_z w16 x) +ℤ to_z w16 (of_z w16 y))) ≡ x +ℤ y
  two_stored = to_z-of_z w16 _ two_fit ∙ two_read

-- ---- a sum with four rows
module _ (a b c d s t : ℤ) (u : IsWithin 2295 a) (v : IsWithin 2295 b) (w : IsWithin 2295 c) (x : IsWithin 2295 d) (f : t ≡ s) (r : IsWithin 22950 s) where
  first_within : IsWithin 4590 (to_z w16 (of_z w16 a) +ℤ to_z w16 (of_z w16 b))
  first_within = two_within 2295 2295 a b u v (lit< tt) (lit< tt) (lit< tt)

  second_within : IsWithin 4590 (to_z w16 (of_z w16 c) +ℤ to_z w16 (of_z w16 d))
  second_within = two_within 2295 2295 c d w x (lit< tt) (lit< tt) (lit< tt)

  pub four_fit : SFits w16 (to_z w16 (of_z w16 (to_z w16 (of_z w16 a) +ℤ to_z w16 (of_z w16 b))) +ℤ to_z w16 (of_z w16 (to_z w16 (of_z w16 c) +ℤ to_z w16 (of_z w16 d))))
  four_fit = two_fit 4590 4590 _ _ first_within second_within (lit< tt) (lit< tt) (lit< tt)

  four_within : IsWithin 9180 (to_z w16 (of_z w16 (to_z w16 (of_z w16 a) +ℤ to_z w16 (of_z w16 b))) +ℤ to_z w16 (of_z w16 (to_z w16 (of_z w16 c) +ℤ to_z w16 (of_z w16 d))))
  four_within = two_within 4590 4590 _ _ first_within second_within (lit< tt) (lit< tt) (lit< tt)

  old_within : IsWithin 22950 t
  old_within = subst (IsWithin 22950) (sym f) r

  pub rows_fit : SFits w16 (to_z w16 (of_z w16 t) +ℤ to_z w16 (of_z w16 (to_z w16 (of_z w16 (to_z w16 (of_z w16 a) +ℤ to_z w16 (of_z w16 b))) +ℤ to_z w16 (of_z w16 (to_z w16 (of_z w16 c) +ℤ to_z w16 (of_z w16 d))))))
  rows_fit = two_fit 22950 9180 t _ old_within four_within (lit< tt) (lit< tt) (lit< tt)

  pub rows_stored : (z : ℤ) → z ≡ (a +ℤ b) +ℤ (c +ℤ d)
      → to_z w16 (of_z w16 (to_z w16 (of_z w16 t) +ℤ to_z w16 (of_z w16 (to_z w16 (of_z w16 (to_z w16 (of_z w16 a) +ℤ to_z w16 (of_z w16 b))) +ℤ to_z w16 (of_z w16 (to_z w16 (of_z w16 c) +ℤ to_z w16 (of_z w16 d))))))) ≡ t +ℤ pos 1 *ℤ z
  rows_stored z e =
      let p = two_read 2295 2295 a b u v (lit< tt) (lit< tt) (lit< tt) in
      let q = two_read 2295 2295 c d w x (lit< tt) (lit< tt) (lit< tt) in
      let n = two_read 4590 4590 _ _ first_within second_within (lit< tt) (lit< tt) (lit< tt) in
      two_stored 22950 9180 t _ old_within four_within (lit< tt) (lit< tt) (lit< tt) ∙ ap (λ y. t +ℤ y) (n ∙ ap (λ y. y +ℤ (to_z w16 (of_z w16 c) +ℤ to_z w16 (of_z w16 d))) p ∙ ap (λ y. (a +ℤ b) +ℤ y) q ∙ sym e) ∙ once t z
    where
      once : (t z : ℤ) → t +ℤ z ≡ t +ℤ pos 1 *ℤ z
      once t z = omega (arith, ints)

-- ---- a 16-bit number reduced
abbrev pub rest_of : ℤ → ℤ → ℤ
rest_of z r =
    to_z w16 (of_z w16 (to_z w16 (of_z w16 z) -ℤ to_z w16 (of_z w16 (to_z w16 (of_z w16 (to_z w32 (of_z w32 (shr_z (to_z w32 (of_z w32 (to_z w32 (of_z w32 r) *ℤ pos 14))) 65536)))) *ℤ pos 4591))))

less_from : (a b : ℤ) → lt_z a b ≡ true → a <ℤ b
less_from a b e = record { lt = subst T (sym e) tt }

least_from : (a b : ℤ) → lt_z a b ≡ false → b ≤ℤ a
least_from a b e = by_lt_z a b (λ l. absurd (subst T e l.lt)) (λ g. g)

module _ (z r : ℤ) (f : SFits w16 z) (e : r ≡ to_z w16 (of_z w16 z)) where
  k : ℤ
  k = shr_z (z *ℤ pos 14) 65536

  k_within : IsWithin 7 k
  unfolding k
  k_within =
      let w = within_word z f in
      let l = shr_low (z *ℤ pos 14) in
      let h = shr_high (z *ℤ pos 14) in
      record { low = omega (arith, ints, w.low, w.high); high = omega (arith, ints, f.sfits) }

  rest_low : neg_ℤ (pos 2295) ≤ℤ (z -ℤ k *ℤ pos 4591)
  unfolding k
  rest_low = let l = shr_low (z *ℤ pos 14) in let n = k_within.low in omega (arith, ints)

  rest_high : (z -ℤ k *ℤ pos 4591) ≤ℤ pos 6886
  unfolding k
  rest_high = let h = shr_high (z *ℤ pos 14) in let n = k_within.high in omega (arith, ints)

  rest_is : rest_of z r ≡ z -ℤ k *ℤ pos 4591
  unfolding k
  rest_is =
      let p = ap (λ t. to_z w32 (of_z w32 (t *ℤ pos 14))) (widened_word z r f e) ∙ stored w32 458752 (z *ℤ pos 14) (within_product 32768 14 z (pos 14) (within_word z f) (record { low = omega (arith, ints); high = omega (arith, ints) })) (lit< tt) in
      let q = ap (λ t. to_z w16 (of_z w16 (to_z w32 (of_z w32 (shr_z t 65536))))) p ∙ ap (λ t. to_z w16 (of_z w16 t)) (stored w32 7 k k_within (lit< tt)) ∙ stored w16 7 k k_within (lit< tt) in
      let m = ap (λ t. to_z w16 (of_z w16 (t *ℤ pos 4591))) q ∙ stored w16 32137 (k *ℤ pos 4591) (within_product 7 4591 k (pos 4591) k_within (record { low = omega (arith, ints); high = omega (arith, ints) })) (lit< tt) in
      ap (λ t. to_z w16 (of_z w16 (to_z w16 (of_z w16 z) -ℤ t))) m ∙ ap (λ t. to_z w16 (of_z w16 (t -ℤ k *ℤ pos 4591))) (to_z-of_z w16 z f)
      ∙ stored w16 6886 (z -ℤ k *ℤ pos 4591) (record { low = omega (arith, ints, rest_low); high = rest_high }) (lit< tt)

  same_rest : centred 2295 (z -ℤ k *ℤ pos 4591) ≡ centred 2295 z
  same_rest = multiple z k
    where
      multiple : (z k : ℤ) → centred 2295 (z -ℤ k *ℤ pos 4591) ≡ centred 2295 z
      multiple z k = centred_same 2295 (z -ℤ k *ℤ pos 4591) z (up k) (down k) (omega (arith, ints))

  pub rest_kept : lt_z (pos 2295) (rest_of z r) ≡ false → rest_of z r ≡ centred 2295 z
  rest_kept l =
      let h : (z -ℤ k *ℤ pos 4591) ≤ℤ pos 2295 = subst (λ t. t ≤ℤ pos 2295) rest_is (least_from (pos 2295) (rest_of z r) l) in
      rest_is ∙ sym (centred_keeps 2295 (z -ℤ k *ℤ pos 4591) (record { low = rest_low; high = h })) ∙ same_rest

  pub rest_lowered : lt_z (pos 2295) (rest_of z r) ≡ true → to_z w16 (of_z w16 (rest_of z r -ℤ pos 4591)) ≡ centred 2295 z
  rest_lowered l =
      let h : pos 2295 <ℤ (z -ℤ k *ℤ pos 4591) = subst (λ t. pos 2295 <ℤ t) rest_is (less_from (pos 2295) (rest_of z r) l) in
      let v = z -ℤ k *ℤ pos 4591 in
      let w : IsWithin 2295 (v -ℤ pos 4591) = record { low = omega (arith, ints, h); high = omega (arith, ints, rest_high) } in
      ap (λ t. to_z w16 (of_z w16 (t -ℤ pos 4591))) rest_is ∙ stored w16 2295 (v -ℤ pos 4591) w (lit< tt) ∙ sym (centred_keeps 2295 (v -ℤ pos 4591) w)
      ∙ centred_same 2295 (v -ℤ pos 4591) v 1 0 (omega (arith, ints)) ∙ same_rest

-- One coefficient of a sum over R/q, as the code computes it in 32 bits.
use Rattle.std.proofs.Common.{◌≡◌, ◌<◌, ◌≤◌, ◌-◌, ◌*◌, ◌+◌, ℕ, List, length, set, ℤ, pos, neg_ℤ, ◌-ℤ◌, ◌+ℤ◌, ◌*ℤ◌, sym, ap, ◌∙◌, to_z, of_z, lit<, lit≤, subst, arith, get_or-set_other}
use Rattle.ntru_ring.specs.Ring.{coefficient}
use Rattle.ntru_ring.proofs.Rings.Moves.{IsMovedUp, IsMovedUp-from_sets, one_not_zero}
use Rattle.ntru_ring.specs.Reduction.{IsWithin, centred}
use Rattle.ntru_ring.proofs.Numbers.Centred.{centred_within}
use Rattle.ntru_ring.proofs.Numbers.Integers.{minus_product}
use Rattle.ntru_ring.proofs.Numbers.Ranges.{within_fits, within_product, within_sum, within_neg, within_word, wider, stored, fits_along}
use Rattle.std.proofs.lemmas.Int.{ints, to_z-of_z}
use mir.Syntax.{w16, w32}
use mir.Val.{SFits}

pub factor : (b r : ℤ) → IsWithin 2295 r → b ≡ to_z w16 (of_z w16 r) → to_z w32 (of_z w32 b) ≡ r
factor b r w e = ap (λ t. to_z w32 (of_z w32 t)) (e ∙ stored w16 2295 r w (lit< tt)) ∙ stored w32 2295 r w (lit< tt)

product_is : (by r q : ℤ) → IsWithin 2295 by → IsWithin 2295 r → q ≡ to_z w16 (of_z w16 r) → to_z w32 (of_z w32 by) *ℤ to_z w32 (of_z w32 q) ≡ by *ℤ r
product_is by r q v w e = ap (λ t. t *ℤ to_z w32 (of_z w32 q)) (stored w32 2295 by v (lit< tt)) ∙ ap (λ t. by *ℤ t) (factor q r w e)

pub product_fits : (by r q : ℤ) → IsWithin 2295 by → IsWithin 2295 r → q ≡ to_z w16 (of_z w16 r) → SFits w32 (to_z w32 (of_z w32 by) *ℤ to_z w32 (of_z w32 q))
product_fits by r q v w e = fits_along w32 _ _ (product_is by r q v w e) (within_fits w32 (2295 * 2295) (by *ℤ r) (within_product 2295 2295 by r v w) (lit< tt))

sum_is : (by r q s t : ℤ) → IsWithin 2295 by → IsWithin 2295 r → q ≡ to_z w16 (of_z w16 r) → t ≡ s → IsWithin 2142216622 s → to_z w32 (of_z w32 t) +ℤ to_z w32 (of_z w32 (to_z w32 (of_z w32 by) *ℤ to_z w32 (of_z w32 q))) ≡ s +ℤ by *ℤ r
sum_is by r q s t v w e f u =
    ap (λ x. to_z w32 (of_z w32 x) +ℤ to_z w32 (of_z w32 (to_z w32 (of_z w32 by) *ℤ to_z w32 (of_z w32 q)))) f
    ∙ ap (λ x. x +ℤ to_z w32 (of_z w32 (to_z w32 (of_z w32 by) *ℤ to_z w32 (of_z w32 q)))) (stored w32 2142216622 s u (lit< tt))
    ∙ ap (λ x. s +ℤ x) (ap (λ x. to_z w32 (of_z w32 x)) (product_is by r q v w e) ∙ stored w32 (2295 * 2295) (by *ℤ r) (within_product 2295 2295 by r v w) (lit< tt))

total_fits : (by r s : ℤ) → IsWithin 2295 by → IsWithin 2295 r → IsWithin 2142216622 s → SFits w32 (s +ℤ by *ℤ r)
total_fits by r s v w u = within_fits w32 (2142216622 + 2295 * 2295) (s +ℤ by *ℤ r) (within_sum 2142216622 (2295 * 2295) s (by *ℤ r) u (within_product 2295 2295 by r v w)) (lit< tt)

pub sum_fits : (by r q s t : ℤ) → IsWithin 2295 by → IsWithin 2295 r → q ≡ to_z w16 (of_z w16 r) → t ≡ s → IsWithin 2142216622 s → SFits w32 (to_z w32 (of_z w32 t) +ℤ to_z w32 (of_z w32 (to_z w32 (of_z w32 by) *ℤ to_z w32 (of_z w32 q))))
sum_fits by r q s t v w e f u = fits_along w32 _ _ (sum_is by r q s t v w e f u) (total_fits by r s v w u)

pub sum_stored : (by r q s t : ℤ) → IsWithin 2295 by → IsWithin 2295 r → q ≡ to_z w16 (of_z w16 r) → t ≡ s → IsWithin 2142216622 s → to_z w32 (of_z w32 (to_z w32 (of_z w32 t) +ℤ to_z w32 (of_z w32 (to_z w32 (of_z w32 by) *ℤ to_z w32 (of_z w32 q))))) ≡ t +ℤ to_z w32 (of_z w32 by) *ℤ r
sum_stored by r q s t v w e f u =
    ap (λ x. to_z w32 (of_z w32 x)) (sum_is by r q s t v w e f u) ∙ to_z-of_z w32 (s +ℤ by *ℤ r) (total_fits by r s v w u)
    ∙ ap (λ x. x +ℤ by *ℤ r) (sym f) ∙ ap (λ x. t +ℤ x *ℤ r) (sym (stored w32 2295 by v (lit< tt)))

-- a representative is itself again after it was stored
pub stored_centred : (q z : ℤ) → q ≡ centred 2295 z → to_z w16 (of_z w16 q) ≡ centred 2295 z
stored_centred q z e = ap (λ t. to_z w16 (of_z w16 t)) e ∙ stored w16 2295 (centred 2295 z) (centred_within 2295 z) (lit< tt)

pub read_centred : (q x : ℤ) → SFits w32 x → q ≡ centred 2295 (to_z w32 (of_z w32 x)) → to_z w16 (of_z w16 q) ≡ centred 2295 x
read_centred q x f e = stored_centred q (to_z w32 (of_z w32 x)) e ∙ ap (centred 2295) (to_z-of_z w32 x f)

last_read : (q r x : ℤ) → SFits w32 x → q ≡ centred 2295 (to_z w32 (of_z w32 x)) → r ≡ to_z w16 (of_z w16 q) → to_z w32 (of_z w32 r) ≡ centred 2295 x
last_read q r x f e g =
    ap (λ t. to_z w32 (of_z w32 t)) (g ∙ read_centred q x f e) ∙ stored w32 2295 (centred 2295 x) (centred_within 2295 x) (lit< tt)

pub lead_fits : (s t u : ℤ) → t ≡ s → IsWithin 2142216622 s → IsWithin 2295 u → SFits w32 (to_z w32 (of_z w32 t) +ℤ u)
lead_fits s t u e v w =
    fits_along w32 _ _ (ap (λ x. to_z w32 (of_z w32 x) +ℤ u) e ∙ ap (λ x. x +ℤ u) (stored w32 2142216622 s v (lit< tt)))
    (within_fits w32 (2142216622 + 2295) (s +ℤ u) (within_sum 2142216622 2295 s u v w) (lit< tt))

lead_stored : (s t u : ℤ) → t ≡ s → IsWithin 2142216622 s → IsWithin 2295 u → to_z w32 (of_z w32 (to_z w32 (of_z w32 t) +ℤ u)) ≡ t +ℤ u
lead_stored s t u e v w =
    to_z-of_z w32 (to_z w32 (of_z w32 t) +ℤ u) (lead_fits s t u e v w) ∙ ap (λ x. to_z w32 (of_z w32 x) +ℤ u) e ∙ ap (λ x. x +ℤ u) (stored w32 2142216622 s v (lit< tt)) ∙ ap (λ x. x +ℤ u) (sym e)

-- the place 1 before the last coefficient is added
pub second_is : (sums xs : List ℤ) (last : ℤ) → ((j : ℕ) → 1 ≤ j → j < 761 → coefficient xs j ≡ coefficient sums (j - 1)) → coefficient (set xs 0 last) 1 ≡ coefficient sums 0
second_is sums xs last done = get_or-set_other xs 0 1 last (pos 0) one_not_zero ∙ done 1 (lit≤ tt) (lit< tt)

pub moved_fits : (sums xs : List ℤ) (q r : ℤ) → ((j : ℕ) → 1 ≤ j → j < 761 → coefficient xs j ≡ coefficient sums (j - 1))
    → SFits w32 (coefficient sums 760) → q ≡ centred 2295 (to_z w32 (of_z w32 (coefficient sums 760))) → r ≡ to_z w16 (of_z w16 q) → IsWithin 2142216622 (coefficient sums 0)
    → SFits w32 (to_z w32 (of_z w32 (coefficient (set xs 0 (to_z w32 (of_z w32 r))) 1)) +ℤ to_z w32 (of_z w32 r))
moved_fits sums xs q r done f e g w =
    let last = to_z w32 (of_z w32 r) in
    let u = subst (IsWithin 2295) (sym (last_read q r (coefficient sums 760) f e g)) (centred_within 2295 (coefficient sums 760)) in
    lead_fits (coefficient sums 0) (coefficient (set xs 0 last) 1) last (second_is sums xs last done) w u

pub moved : (sums xs : List ℤ) (q r : ℤ) → length sums ≡ 761 → length xs ≡ 761 → ((j : ℕ) → 1 ≤ j → j < 761 → coefficient xs j ≡ coefficient sums (j - 1))
    → SFits w32 (coefficient sums 760) → q ≡ centred 2295 (to_z w32 (of_z w32 (coefficient sums 760))) → r ≡ to_z w16 (of_z w16 q) → IsWithin 2142216622 (coefficient sums 0)
    → IsMovedUp 2295 759 sums (set (set xs 0 (to_z w32 (of_z w32 r))) 1 (to_z w32 (of_z w32 (to_z w32 (of_z w32 (coefficient (set xs 0 (to_z w32 (of_z w32 r))) 1)) +ℤ to_z w32 (of_z w32 r)))))
moved sums xs q r m n done f e g w =
    let last = to_z w32 (of_z w32 r) in
    let l = last_read q r (coefficient sums 760) f e g in
    let u = subst (IsWithin 2295) (sym l) (centred_within 2295 (coefficient sums 760)) in
    IsMovedUp-from_sets 2295 759 sums xs last _ m n done l (lead_stored (coefficient sums 0) (coefficient (set xs 0 last) 1) last (second_is sums xs last done) w u)

-- a sum and a product of coefficients, reduced
pub sum_centred : (x y r s q : ℤ) → IsWithin 2295 x → IsWithin 2295 y → r ≡ to_z w16 (of_z w16 x) → s ≡ to_z w16 (of_z w16 y)
    → q ≡ centred 2295 (to_z w32 (of_z w32 (to_z w32 (of_z w32 r) +ℤ to_z w32 (of_z w32 s)))) → to_z w16 (of_z w16 q) ≡ centred 2295 (x +ℤ y)
sum_centred x y r s q v w e f g =
    let t : to_z w32 (of_z w32 r) +ℤ to_z w32 (of_z w32 s) ≡ x +ℤ y = ap (λ u. u +ℤ to_z w32 (of_z w32 s)) (factor r x v e) ∙ ap (λ u. x +ℤ u) (factor s y w f) in
    stored_centred q _ g ∙ ap (centred 2295) (ap (λ u. to_z w32 (of_z w32 u)) t ∙ stored w32 (2295 + 2295) (x +ℤ y) (within_sum 2295 2295 x y v w) (lit< tt))

stored_product : (by x r s : ℤ) → SFits w16 by → IsWithin 2295 x → r ≡ to_z w16 (of_z w16 by) → s ≡ to_z w16 (of_z w16 x)
    → to_z w32 (of_z w32 (to_z w32 (of_z w32 r) *ℤ to_z w32 (of_z w32 s))) ≡ by *ℤ x
stored_product by x r s v w e f =
    let b = within_word by v in
    let a : to_z w32 (of_z w32 r) ≡ by = ap (λ u. to_z w32 (of_z w32 u)) (e ∙ to_z-of_z w16 by v) ∙ stored w32 32768 by b (lit< tt) in
    let t : to_z w32 (of_z w32 r) *ℤ to_z w32 (of_z w32 s) ≡ by *ℤ x = ap (λ u. u *ℤ to_z w32 (of_z w32 s)) a ∙ ap (λ u. by *ℤ u) (factor s x w f) in
    ap (λ u. to_z w32 (of_z w32 u)) t ∙ stored w32 (32768 * 2295) (by *ℤ x) (within_product 32768 2295 by x b w) (lit< tt)

pub product_within : (by x r s : ℤ) → SFits w16 by → IsWithin 2295 x → r ≡ to_z w16 (of_z w16 by) → s ≡ to_z w16 (of_z w16 x)
    → IsWithin 2147479273 (to_z w32 (of_z w32 (to_z w32 (of_z w32 r) *ℤ to_z w32 (of_z w32 s))))
product_within by x r s v w e f =
    subst (IsWithin 2147479273) (sym (stored_product by x r s v w e f)) (wider (32768 * 2295) 2147479273 (lit≤ tt) (by *ℤ x) (within_product 32768 2295 by x (within_word by v) w))

pub product_centred : (by x r s q : ℤ) → SFits w16 by → IsWithin 2295 x → r ≡ to_z w16 (of_z w16 by) → s ≡ to_z w16 (of_z w16 x)
    → q ≡ centred 2295 (to_z w32 (of_z w32 (to_z w32 (of_z w32 r) *ℤ to_z w32 (of_z w32 s)))) → to_z w16 (of_z w16 q) ≡ centred 2295 (by *ℤ x)
product_centred by x r s q v w e f g = stored_centred q _ g ∙ ap (centred 2295) (stored_product by x r s v w e f)

pub widened_word : (x r : ℤ) → SFits w16 x → r ≡ to_z w16 (of_z w16 x) → to_z w32 (of_z w32 r) ≡ x
widened_word x r f e = ap (λ u. to_z w32 (of_z w32 u)) (e ∙ to_z-of_z w16 x f) ∙ stored w32 32768 x (within_word x f) (lit< tt)

-- the opposite of a representative
pub negated : (q z : ℤ) → IsWithin 2295 q → q ≡ centred 2295 z → to_z w16 (of_z w16 (pos 0 -ℤ to_z w16 (of_z w16 q))) ≡ neg_ℤ (centred 2295 z)
negated q z w e =
    let n : to_z w16 (of_z w16 (pos 0 -ℤ to_z w16 (of_z w16 q))) ≡ neg_ℤ q = omega (arith, ints, w.low, w.high) in
    n ∙ ap neg_ℤ e

pub negated_twice : (q : ℤ) → IsWithin 2295 q → neg_ℤ (to_z w16 (of_z w16 (pos 0 -ℤ to_z w16 (of_z w16 q)))) ≡ q
negated_twice q w = omega (arith, ints, w.low, w.high)

-- ---- x - f * y
module _ (x f y r s t : ℤ) (v : IsWithin 2295 x) (w : IsWithin 2295 f) (u : IsWithin 2295 y) (e : r ≡ to_z w16 (of_z w16 x)) (g : s ≡ to_z w16 (of_z w16 f)) (h : t ≡ to_z w16 (of_z w16 y)) where
  difference_is : to_z w32 (of_z w32 r) -ℤ to_z w32 (of_z w32 (to_z w32 (of_z w32 s) *ℤ to_z w32 (of_z w32 t))) ≡ x +ℤ neg_ℤ f *ℤ y
  difference_is =
      ap (λ a. a -ℤ to_z w32 (of_z w32 (to_z w32 (of_z w32 s) *ℤ to_z w32 (of_z w32 t)))) (factor r x v e)
      ∙ ap (λ a. x -ℤ a) (stored_product f y s t (within_fits w16 2295 f w (lit< tt)) u g h) ∙ minus_product x f y

  difference_within : IsWithin (2295 + 2295 * 2295) (x +ℤ neg_ℤ f *ℤ y)
  difference_within = within_sum 2295 (2295 * 2295) x (neg_ℤ f *ℤ y) v (within_product 2295 2295 (neg_ℤ f) y (within_neg 2295 f w) u)

  pub difference_fits : SFits w32 (to_z w32 (of_z w32 r) -ℤ to_z w32 (of_z w32 (to_z w32 (of_z w32 s) *ℤ to_z w32 (of_z w32 t))))
  difference_fits = fits_along w32 _ _ difference_is (within_fits w32 (2295 + 2295 * 2295) (x +ℤ neg_ℤ f *ℤ y) difference_within (lit< tt))

  difference_stored : to_z w32 (of_z w32 (to_z w32 (of_z w32 r) -ℤ to_z w32 (of_z w32 (to_z w32 (of_z w32 s) *ℤ to_z w32 (of_z w32 t))))) ≡ x +ℤ neg_ℤ f *ℤ y
  difference_stored = to_z-of_z w32 _ difference_fits ∙ difference_is

  pub difference_in : IsWithin 2147479273 (to_z w32 (of_z w32 (to_z w32 (of_z w32 r) -ℤ to_z w32 (of_z w32 (to_z w32 (of_z w32 s) *ℤ to_z w32 (of_z w32 t))))))
  difference_in = subst (IsWithin 2147479273) (sym difference_stored) (wider (2295 + 2295 * 2295) 2147479273 (lit≤ tt) (x +ℤ neg_ℤ f *ℤ y) difference_within)

  pub difference_centred : (q : ℤ) → q ≡ centred 2295 (to_z w32 (of_z w32 (to_z w32 (of_z w32 r) -ℤ to_z w32 (of_z w32 (to_z w32 (of_z w32 s) *ℤ to_z w32 (of_z w32 t)))))) → to_z w16 (of_z w16 q) ≡ centred 2295 (x +ℤ neg_ℤ f *ℤ y)
  difference_centred q k = stored_centred q _ k ∙ ap (centred 2295) difference_stored

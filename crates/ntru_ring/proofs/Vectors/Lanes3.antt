-- One coefficient over R/3, as the code computes it in 16 bits.
use Rattle.std.proofs.Common.{◌≡◌, ℤ, pos, negsuc, zero, suc, neg_ℤ, refl, ◌+ℤ◌, ◌-ℤ◌, ◌*ℤ◌, ap, ◌∙◌, to_z, of_z, lit<, arith}
use Rattle.std.proofs.lemmas.Int.{ints, to_z-of_z}
use Rattle.ntru_ring.specs.Reduction.{IsWithin, centred}
use Rattle.ntru_ring.specs.Small.{nearest}
use Rattle.ntru_ring.proofs.Numbers.Centred.{centred_within}
use Rattle.ntru_ring.proofs.Numbers.Ranges.{within_fits, within_sum, stored}
use Rattle.ntru_ring.proofs.Numbers.Rounds.{nearest_within}
use mir.Syntax.{w16}
use mir.Val.{SFits}

pub stored_centred : (q z : ℤ) → q ≡ centred 1 z → to_z w16 (of_z w16 q) ≡ centred 1 z
stored_centred q z e = ap (λ t. to_z w16 (of_z w16 t)) e ∙ stored w16 1 (centred 1 z) (centred_within 1 z) (lit< tt)

pub read_centred : (q x : ℤ) → SFits w16 x → q ≡ centred 1 (to_z w16 (of_z w16 x)) → to_z w16 (of_z w16 q) ≡ centred 1 x
read_centred q x f e = stored_centred q (to_z w16 (of_z w16 x)) e ∙ ap (centred 1) (to_z-of_z w16 x f)

pub sum_centred : (x y q : ℤ) → IsWithin 1 x → IsWithin 1 y → q ≡ centred 1 (to_z w16 (of_z w16 (to_z w16 (of_z w16 x) +ℤ to_z w16 (of_z w16 y)))) → to_z w16 (of_z w16 q) ≡ centred 1 (x +ℤ y)
sum_centred x y q v w g =
    let t : to_z w16 (of_z w16 x) +ℤ to_z w16 (of_z w16 y) ≡ x +ℤ y = ap (λ u. u +ℤ to_z w16 (of_z w16 y)) (stored w16 1 x v (lit< tt)) ∙ ap (λ u. x +ℤ u) (stored w16 1 y w (lit< tt)) in
    stored_centred q _ g ∙ ap (centred 1) (ap (λ u. to_z w16 (of_z w16 u)) t ∙ stored w16 2 (x +ℤ y) (within_sum 1 1 x y v w) (lit< tt))

pub nearest_stored : (z r : ℤ) → IsWithin 2295 z → r ≡ centred 1 (to_z w16 (of_z w16 z)) → to_z w16 (of_z w16 (to_z w16 (of_z w16 z) -ℤ to_z w16 (of_z w16 r))) ≡ nearest z
unfolding nearest
nearest_stored z r w e =
    let f = within_fits w16 2295 z w (lit< tt) in
    let t : to_z w16 (of_z w16 z) -ℤ to_z w16 (of_z w16 r) ≡ z -ℤ centred 1 z = ap (λ u. u -ℤ to_z w16 (of_z w16 r)) (to_z-of_z w16 z f) ∙ ap (λ u. z -ℤ u) (read_centred r z f e) in
    ap (λ u. to_z w16 (of_z w16 u)) t ∙ stored w16 2295 (z -ℤ centred 1 z) (nearest_within z w) (lit< tt)

-- the opposite of a representative
pub negated : (q z : ℤ) → IsWithin 1 q → q ≡ centred 1 z → to_z w16 (of_z w16 (pos 0 -ℤ to_z w16 (of_z w16 q))) ≡ neg_ℤ (centred 1 z)
negated q z w e =
    let n : to_z w16 (of_z w16 (pos 0 -ℤ to_z w16 (of_z w16 q))) ≡ neg_ℤ q = omega (arith, ints, w.low, w.high) in
    n ∙ ap neg_ℤ e

-- 1 and -1 are their own inverses modulo 3
pub own_inverse : (c : ℤ) → IsWithin 1 c → ¬ (c ≡ pos 0) → centred 1 (c *ℤ c) ≡ pos 1
unfolding centred
own_inverse (pos zero) w n = absurd (n refl)
own_inverse (pos (suc zero)) w n = refl
own_inverse (pos (suc (suc k))) w n = absurd (omega (arith, ints, w.high))
own_inverse (negsuc zero) w n = refl
own_inverse (negsuc (suc k)) w n = absurd (omega (arith, ints, w.low))

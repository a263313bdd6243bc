-- Inverses are unique, and an annihilated element has none.
use Rattle.std.proofs.Common.{◌≡◌, ℕ, suc, List, length, ℤ, sym, ap, ◌∙◌, All}
use Rattle.ntru_ring.specs.Ring.{times, zero_of, one_of}
use Rattle.ntru_ring.specs.Reduction.{reduced, IsWithin, IsInverse, Annihilates}
use Rattle.ntru_ring.proofs.Rings.Algebra.{times_swap}
use Rattle.ntru_ring.proofs.Rings.Unit.{times_comm, times_assoc, one_times, times_zero}
use Rattle.ntru_ring.proofs.Rings.Congruence.{reduced_keeps, reduced-times_left, reduced-times_right}
use Rattle.ntru_ring.proofs.Eliminating.Inverses.{reduced_zero}

-- (g * v) * z is z where v is an inverse of g
undone : (h n : ℕ) (g v z : List ℤ) → length g ≡ suc n → length z ≡ suc n → All (IsWithin h) z → IsInverse h g v → reduced h (times (times g v) z) ≡ z
undone h n g v z lg lz w i =
    sym (reduced-times_left h (times g v) z) ∙ ap (λ t. reduced h (times t z)) (i ∙ ap one_of lg) ∙ ap (reduced h) (one_times z n lz) ∙ reduced_keeps h z w

pub no_inverse : (h n : ℕ) (g v z : List ℤ) → length g ≡ suc n → length v ≡ suc n → length z ≡ suc n → All (IsWithin h) z → IsInverse h g v → Annihilates h g z → ⊥
no_inverse h n g v z lg lv lz w i a =
    let p = undone h n g v z lg lz w i in
    let q = times_assoc g v z (lg ∙ sym lv) (lv ∙ sym lz) ∙ times_swap g v z in
    let r = sym (reduced-times_right h v (times g z)) ∙ ap (λ t. reduced h (times v t)) (a.product) ∙ ap (reduced h) (times_zero v (length g)) ∙ reduced_zero h (length g) in
    a.nonzero (sym p ∙ ap (reduced h) q ∙ r ∙ ap zero_of (lg ∙ sym lz))

pub inverse_unique : (h n : ℕ) (g v w : List ℤ) → length g ≡ suc n → length v ≡ suc n → length w ≡ suc n → All (IsWithin h) v → All (IsWithin h) w → IsInverse h g v → IsInverse h g w → v ≡ w
inverse_unique h n g v w lg lv lw iv iw i j =
    let p = undone h n g w v lg lv iv j in
    let q = undone h n g v w lg lw iw i in
    let r = times_assoc g w v (lg ∙ sym lw) (lw ∙ sym lv) ∙ ap (times g) (times_comm w v (lw ∙ sym lv)) ∙ sym (times_assoc g v w (lg ∙ sym lv) (lv ∙ sym lw)) in
    sym p ∙ ap (reduced h) r ∙ q

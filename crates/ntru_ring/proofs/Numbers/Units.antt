-- Each number from 1 to 4590 has its inverse modulo 4591.
use Rattle.std.proofs.Common.{◌≡◌, ◌⊎◌, inl, inr, ◌-ℤ◌, ℕ, ◌+◌, ◌-◌, ◌*◌, ◌/◌, ◌%◌, ◌<◌, ◌≤◌, Bool, not, eqb, ℤ, pos, ◌+ℤ◌, ◌*ℤ◌, refl, sym, ap, ◌∙◌, arith}
use Rattle.std.proofs.lemmas.Bool.{cases_lt, agree_below_at, eqb-true, ne_eqb}
use Rattle.std.proofs.lemmas.Int.{ints}
use Rattle.std.proofs.Math.Nat.{div-add-mod}
use borrow.Author.Differences.{up, down, Apart-out}
use lib.Signed.{rem_z}
use Rattle.ntru_ring.specs.Units.{inverse_modulo}
use Rattle.ntru_ring.specs.Reduction.{centred, IsWithin}
use Rattle.ntru_ring.proofs.Numbers.Centred.{centred_is, centred_same, centred_keeps, centred-times_left, centred-times_right}

is_inverted : ℕ → Bool
is_inverted x = eqb (inverse_modulo x * x % 4591) 1

pub inverse_modulo_is : (x : ℕ) → 0 < x → x < 4591 → inverse_modulo x * x % 4591 ≡ 1
unfolding is_inverted inverse_modulo
inverse_modulo_is x p l =
    let a = agree_below_at is_inverted (λ n. not (eqb n 0)) 4591 x refl l in
    eqb-true _ 1 (a ∙ ap not (ne_eqb x 0 (λ e. absurd (omega (arith, e)))))

-- the inverse of a representative c, by the number x in 0..4590 that is congruent to it
pub inverse_is : (c v : ℤ) (x : ℕ) → IsWithin 2295 c → ¬ (c ≡ pos 0) → (pos x ≡ c +ℤ pos 4591) ⊎ (pos x ≡ c) → x < 4591
    → v ≡ centred 2295 (pos (inverse_modulo x)) → centred 2295 (v *ℤ c) ≡ pos 1
inverse_is c v x w n e l g =
    let i = inverse_modulo x in
    let same : centred 2295 c ≡ centred 2295 (pos x) = elim e [
      | inl q ↦ centred_same 2295 c (pos x) 1 0 (omega (arith, ints))
      | inr q ↦ centred_same 2295 c (pos x) 0 0 (omega (arith, ints))
    ] in
    let some : 0 < x = elim e [
      | inl q ↦ omega (arith, ints, w.low)
      | inr q ↦ omega (arith, ints, Apart-out c (pos 0) n)
    ] in
    let one = inverse_modulo_is x some l in
    let d = div-add-mod (i * x) 4591 in
    let m : pos i *ℤ pos x +ℤ pos (0 * (2 * 2295 + 1)) ≡ pos 1 +ℤ pos (i * x / 4591 * (2 * 2295 + 1)) = omega (arith, ints) in
    ap (λ t. centred 2295 (t *ℤ c)) g ∙ centred-times_left 2295 (pos i) c ∙ sym (centred-times_right 2295 (pos i) c) ∙ ap (λ t. centred 2295 (pos i *ℤ t)) same
    ∙ centred-times_right 2295 (pos i) (pos x) ∙ centred_same 2295 (pos i *ℤ pos x) (pos 1) 0 (i * x / 4591) m
    ∙ centred_keeps 2295 (pos 1) (record { low = omega (arith, ints); high = omega (arith, ints) })

-- a number in 0..4590 by its representative
pub representative_is : (i : ℕ) → pos ((i + 2295) % 4591) -ℤ pos 2295 ≡ centred 2295 (pos i)
representative_is i = sym (centred_is 2295 (pos i) 0 (i + 2295) (omega (arith, ints)))

-- the number in 0..4590 that is congruent to a representative
pub residue_is : (c : ℤ) (x : ℕ) → IsWithin 2295 c → pos x ≡ rem_z (c +ℤ pos 4591) (pos 4591) → ((pos x ≡ c +ℤ pos 4591) ⊎ (pos x ≡ c)) × (x < 4591)
residue_is c x w e =
    let n : ℕ = up c + 4591 - down c in
    let m : c +ℤ pos 4591 ≡ pos n = omega (arith, ints, w.low, w.high) in
    let r : pos x ≡ pos (n % 4591) = e ∙ ap (λ t. rem_z t (pos 4591)) m in
    let small : n ≤ 4591 + 2295 = omega (arith, ints, w.low, w.high) in
    elim (cases_lt n 4591) [
      | inl l ↦ (inl (omega (arith, ints)), omega (arith, ints))
      | inr l ↦ (inr (omega (arith, ints)), omega (arith, ints))
    ]

-- The representative in -h..h of an integer modulo 2h + 1.
use Rattle.std.proofs.Common.{◌≡◌, ℕ, ◌+◌, ◌-◌, ◌*◌, ◌/◌, ◌%◌, ◌<◌, ℤ, pos, negsuc, neg_ℤ, ◌+ℤ◌, ◌-ℤ◌, ◌*ℤ◌, refl, sym, ap, ◌∙◌, arith}
use Rattle.std.proofs.lemmas.Int.{ints, int_rem_euclid_is}
use Rattle.std.proofs.Math.Nat.{div-add-mod, mod-eq_of_lt}
use Rattle.std.proofs.Math.IntN.{*ℤ_comm, +ℤ_comm}
use borrow.Author.Differences.{up, down}
use Rattle.ntru_ring.specs.Reduction.{centred, IsWithin}
use Rattle.ntru_ring.proofs.Numbers.Integers.{*ℤ-+ℤ, minus_one}

-- the representative, by a natural m that differs from z + h by a multiple
pub centred_is : (h : ℕ) (z : ℤ) (k m : ℕ) → z +ℤ pos h +ℤ pos (k * (2 * h + 1)) ≡ pos m → centred h z ≡ pos (m % (2 * h + 1)) -ℤ pos h
unfolding centred
centred_is h z k m e = ap (λ t. t -ℤ pos h) (int_rem_euclid_is (z +ℤ pos h) (pos (2 * h + 1)) (2 * h + 1) k m (omega arith) refl e)

-- such a natural
natural_of : ℕ → ℤ → ℕ
natural_of h z = up z + h + down z * (2 * h)

natural_is : (h : ℕ) (z : ℤ) → z +ℤ pos h +ℤ pos (down z * (2 * h + 1)) ≡ pos (natural_of h z)
unfolding natural_of
natural_is h z = omega (arith, ints)

-- two numbers that differ by a multiple have one representative
pub centred_same : (h : ℕ) (x y : ℤ) (j k : ℕ) → x +ℤ pos (j * (2 * h + 1)) ≡ y +ℤ pos (k * (2 * h + 1)) → centred h x ≡ centred h y
centred_same h x y j k e =
    let m = natural_of h x + j * (2 * h + 1) in
    let a = natural_is h x in
    let p : x +ℤ pos h +ℤ pos ((down x + j) * (2 * h + 1)) ≡ pos m = omega (arith, ints) in
    let q : y +ℤ pos h +ℤ pos ((down x + k) * (2 * h + 1)) ≡ pos m = omega (arith, ints) in
    centred_is h x (down x + j) m p ∙ sym (centred_is h y (down x + k) m q)

-- a number differs from its representative by a multiple
pub centred_differs : (h : ℕ) (z : ℤ) → (j : ℕ) × (k : ℕ) × (z +ℤ pos (j * (2 * h + 1)) ≡ centred h z +ℤ pos (k * (2 * h + 1)))
centred_differs h z =
    let m = natural_of h z in
    let n = 2 * h + 1 in
    let a = natural_is h z in
    let c = centred_is h z (down z) m a in
    let d = div-add-mod m n in
    (down z, m / n, omega (arith, ints))

pub centred_within : (h : ℕ) (z : ℤ) → IsWithin h (centred h z)
centred_within h z =
    let m = natural_of h z in
    let c = centred_is h z (down z) m (natural_is h z) in
    let l : m % (2 * h + 1) < 2 * h + 1 = omega arith in
    record { low = omega (arith, ints); high = omega (arith, ints) }

-- what lies in -h..h stays
pub centred_keeps : (h : ℕ) (z : ℤ) → IsWithin h z → centred h z ≡ z
centred_keeps h z w =
    let m = up z + h - down z in
    let e : z +ℤ pos h +ℤ pos (0 * (2 * h + 1)) ≡ pos m = omega (arith, ints, w.low, w.high) in
    let b : m < 2 * h + 1 = omega (arith, ints, w.low, w.high) in
    let r : m % (2 * h + 1) ≡ m = mod-eq_of_lt b in
    let s : pos m -ℤ pos h ≡ z = omega (arith, ints, w.low, w.high) in
    centred_is h z 0 m e ∙ ap (λ t. pos t -ℤ pos h) r ∙ s

pub centred-centred : (h : ℕ) (z : ℤ) → centred h (centred h z) ≡ centred h z
centred-centred h z = centred_keeps h (centred h z) (centred_within h z)

pub centred-plus_left : (h : ℕ) (x y : ℤ) → centred h (centred h x +ℤ y) ≡ centred h (x +ℤ y)
centred-plus_left h x y =
    let d = centred_differs h x in
    sym (centred_same h (x +ℤ y) (centred h x +ℤ y) d.0 d.1 (omega (arith, ints, d.2)))

pub centred-plus_right : (h : ℕ) (x y : ℤ) → centred h (x +ℤ centred h y) ≡ centred h (x +ℤ y)
centred-plus_right h x y = ap (centred h) (+ℤ_comm x (centred h y)) ∙ centred-plus_left h y x ∙ ap (centred h) (+ℤ_comm y x)

times_multiple : (c x y : ℤ) (j k n : ℕ) → x +ℤ pos (j * n) ≡ y +ℤ pos (k * n) → c *ℤ x +ℤ pos ((up c * j + down c * k) * n) ≡ c *ℤ y +ℤ pos ((up c * k + down c * j) * n)
times_multiple c x y j k n e =
    let a = ap (λ t. c *ℤ t) e in
    let b = *ℤ-+ℤ c x (pos (j * n)) in
    let d = *ℤ-+ℤ c y (pos (k * n)) in
    omega (arith, ints)

pub centred-times_right : (h : ℕ) (c x : ℤ) → centred h (c *ℤ centred h x) ≡ centred h (c *ℤ x)
centred-times_right h c x =
    let d = centred_differs h x in
    sym (centred_same h (c *ℤ x) (c *ℤ centred h x) (up c * d.0 + down c * d.1) (up c * d.1 + down c * d.0) (times_multiple c x (centred h x) d.0 d.1 (2 * h + 1) d.2))

pub centred-times_left : (h : ℕ) (c x : ℤ) → centred h (centred h c *ℤ x) ≡ centred h (c *ℤ x)
centred-times_left h c x = ap (centred h) (*ℤ_comm (centred h c) x) ∙ centred-times_right h x c ∙ ap (centred h) (*ℤ_comm x c)

pub centred-neg_ℤ : (h : ℕ) (x : ℤ) → centred h (neg_ℤ (centred h x)) ≡ centred h (neg_ℤ x)
centred-neg_ℤ h x = ap (centred h) (minus_one (centred h x)) ∙ centred-times_right h (negsuc 0) x ∙ ap (centred h) (sym (minus_one x))

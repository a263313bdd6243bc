-- Numbers within a range: they fit their type, and sums and products of them are within a range again.
use Rattle.std.proofs.Common.{◌≡◌, ℕ, suc, ◌+◌, ◌*◌, ◌^◌, ◌<◌, ◌≤◌, ℤ, pos, negsuc, nat_abs, neg_ℤ, ◌+ℤ◌, ◌*ℤ◌, arith, to_z, of_z}
use Rattle.std.proofs.lemmas.Int.{ints, to_z-of_z}
use Rattle.std.proofs.Math.Nat.{mul-le-mul_left}
use Rattle.ntru_ring.specs.Reduction.{IsWithin}
use borrow.Author.Differences.{up, down}
use mir.Syntax.{Width, w16}
use mir.Val.{hbits, SFits}

pub wider : (m n : ℕ) → m ≤ n → (z : ℤ) → IsWithin m z → IsWithin n z
wider m n h z w = record { low = omega (arith, ints, w.low); high = omega (arith, ints, w.high) }

pub within_zero : (h : ℕ) → IsWithin h (pos 0)
within_zero h = record { low = omega (arith, ints); high = omega (arith, ints) }

pub within_sum : (m n : ℕ) (x y : ℤ) → IsWithin m x → IsWithin n y → IsWithin (m + n) (x +ℤ y)
within_sum m n x y v w = record { low = omega (arith, ints, v.low, w.low); high = omega (arith, ints, v.high, w.high) }

pub within_neg : (h : ℕ) (z : ℤ) → IsWithin h z → IsWithin h (neg_ℤ z)
within_neg h z w = record { low = omega (arith, ints, w.high); high = omega (arith, ints, w.low) }

scaled_le : (n a b : ℕ) → a ≤ b → n * a ≤ n * b
scaled_le n a b h = mul-le-mul_left n h

pub within_scale : (m : ℕ) (c x : ℤ) → IsWithin m x → IsWithin (nat_abs c * m) (c *ℤ x)
within_scale m (pos n) x w =
    let l = scaled_le n (down x) (up x + m) (omega (arith, ints, w.low)) in
    let h = scaled_le n (up x) (down x + m) (omega (arith, ints, w.high)) in
    record { low = omega (arith, ints); high = omega (arith, ints) }
within_scale m (negsuc n) x w =
    let l = scaled_le (suc n) (down x) (up x + m) (omega (arith, ints, w.low)) in
    let h = scaled_le (suc n) (up x) (down x + m) (omega (arith, ints, w.high)) in
    record { low = omega (arith, ints); high = omega (arith, ints) }

nat_abs_le : (m : ℕ) (c : ℤ) → IsWithin m c → nat_abs c ≤ m
nat_abs_le m (pos n) w = omega (arith, ints, w.high)
nat_abs_le m (negsuc n) w = omega (arith, ints, w.low)

pub within_product : (m n : ℕ) (c x : ℤ) → IsWithin m c → IsWithin n x → IsWithin (m * n) (c *ℤ x)
within_product m n c x v w =
    let l = scaled_le n (nat_abs c) m (nat_abs_le m c v) in
    wider (nat_abs c * n) (m * n) (omega arith) (c *ℤ x) (within_scale n c x w)

pub within_fits : (w : Width) (h : ℕ) (z : ℤ) → IsWithin h z → h < 2 ^ hbits w → SFits w z
within_fits w h z r l = omega (arith, ints, r.low, r.high)

-- such a number is itself again after it was stored
pub stored : (w : Width) (h : ℕ) (z : ℤ) → IsWithin h z → h < 2 ^ hbits w → to_z w (of_z w z) ≡ z
stored w h z r l = to_z-of_z w z (within_fits w h z r l)

pub fits_along : (w : Width) (x y : ℤ) → x ≡ y → SFits w y → SFits w x
fits_along w x y e f = record { sfits = rw e f.sfits }

-- what a 16-bit number can be
pub within_word : (z : ℤ) → SFits w16 z → IsWithin 32768 z
within_word z f = record { low = omega (arith, ints); high = omega (arith, ints) }

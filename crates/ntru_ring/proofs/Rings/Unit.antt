-- 1 is the unit of the product; the product is commutative and associative.
use Rattle.std.proofs.Common.{◌≡◌, ℕ, zero, suc, ◌+◌, ◌-◌, ◌<◌, List, [], ◌∷◌, ◌++◌, length, set, replicate, ℤ, pos, ◌+ℤ◌, ◌*ℤ◌, refl, sym, ap, ◌∙◌, arith}
use Rattle.std.proofs.lemmas.Int.{ints}
use Rattle.ntru_ring.specs.Ring.{plus, scale, last, behind, shift, times, zero_of, one_of}
use Rattle.ntru_ring.proofs.Rings.Algebra.{length-times, length-zero_of, scale_zero, times_step, times_swap}

pub one_of_suc : (n : ℕ) → one_of (suc n) ≡ pos 1 ∷ zero_of n
unfolding one_of zero_of
one_of_suc n = let e : suc n - 1 ≡ n = omega arith in ap (λ k. pos 1 ∷ replicate k (pos 0)) e

pub length-one_of : (n : ℕ) → length (one_of (suc n)) ≡ suc n
length-one_of n = ap length (one_of_suc n) ∙ ap suc (length-zero_of n)

last_zero : (x : ℤ) (a : List ℤ) (m : ℕ) → last x (a ++ zero_of (suc m)) ≡ pos 0
unfolding last zero_of
last_zero x [] zero = refl
last_zero x [] (suc m) = last_zero (pos 0) [] m
last_zero x (y ∷ a) m = last_zero y a m

behind_zero : (x : ℤ) (a : List ℤ) (m : ℕ) → behind x (a ++ zero_of (suc m)) ≡ x ∷ (a ++ zero_of m)
unfolding behind zero_of
behind_zero x [] zero = refl
behind_zero x [] (suc m) = ap (λ t. x ∷ t) (behind_zero (pos 0) [] m)
behind_zero x (y ∷ a) m = ap (λ t. x ∷ t) (behind_zero y a m)

-- x * a, where a's last coefficient is 0
pub shift_filled : (a : List ℤ) (m : ℕ) → shift (a ++ zero_of (suc m)) ≡ pos 0 ∷ (a ++ zero_of m)
unfolding shift zero_of last behind
shift_filled [] zero = refl
shift_filled [] (suc m) =
    let l = last_zero (pos 0) [] m in
    let b = behind_zero (pos 0) [] m in
    let s : pos 0 +ℤ pos 0 ≡ pos 0 = omega (arith, ints) in
    cc
shift_filled (x ∷ a) m =
    let l = last_zero x a m in
    let b = behind_zero x a m in
    let s : x +ℤ pos 0 ≡ x = omega (arith, ints) in
    cc

scale-zero_of : (x : ℤ) (k : ℕ) → scale x (zero_of k) ≡ zero_of k
unfolding scale zero_of
scale-zero_of x zero = refl
scale-zero_of x (suc k) = let e : x *ℤ pos 0 ≡ pos 0 = omega (arith, ints) in cc (e, scale-zero_of x k)

pub zero_of-plus : (a : List ℤ) (k : ℕ) → length a ≡ k → plus (zero_of k) a ≡ a
unfolding plus zero_of
zero_of-plus [] zero e = refl
zero_of-plus [] (suc k) e = absurd (omega arith)
zero_of-plus (x ∷ a) zero e = absurd (omega arith)
zero_of-plus (x ∷ a) (suc k) e = let s : pos 0 +ℤ x ≡ x = omega (arith, ints) in cc (s, zero_of-plus a k (omega arith))

length-filled : (a : List ℤ) (m : ℕ) → length (a ++ zero_of m) ≡ length a + m
length-filled [] m = length-zero_of m ∙ omega arith
length-filled (x ∷ a) m = ap suc (length-filled a m) ∙ omega arith

times_filled_head : (x : ℤ) (a : List ℤ) (k : ℕ) → length a ≡ k → plus (scale x (pos 1 ∷ zero_of k)) (pos 0 ∷ a) ≡ x ∷ a
unfolding plus scale
times_filled_head x a k e =
    let s : x *ℤ pos 1 +ℤ pos 0 ≡ x = omega (arith, ints) in
    let z = ap (λ t. plus t a) (scale-zero_of x k) ∙ zero_of-plus a k e in
    cc

times_filled : (a : List ℤ) (m k : ℕ) → length a + m ≡ suc k → times a (pos 1 ∷ zero_of k) ≡ a ++ zero_of m
unfolding times
times_filled [] m k e =
    scale_zero (pos 1 ∷ zero_of k) ∙ ap zero_of (ap suc (length-zero_of k) ∙ sym e ∙ omega arith)
times_filled (x ∷ a) m k e =
    let i = ap shift (times_filled a (suc m) k (omega arith)) ∙ shift_filled a m in
    times_step x a (pos 1 ∷ zero_of k) ∙ ap (plus (scale x (pos 1 ∷ zero_of k))) i ∙ times_filled_head x (a ++ zero_of m) k (length-filled a m ∙ omega arith)

behind_zeros : (n : ℕ) → behind (pos 0) (zero_of n) ≡ zero_of n
unfolding behind zero_of
behind_zeros zero = refl
behind_zeros (suc n) = ap (λ t. pos 0 ∷ t) (behind_zeros n)

pub shift_zero : (n : ℕ) → shift (zero_of n) ≡ zero_of n
unfolding shift zero_of last behind
shift_zero zero = refl
shift_zero (suc zero) = refl
shift_zero (suc (suc n)) =
    let l = last_zero (pos 0) [] n in
    let b = behind_zeros (suc n) in
    cc

append_zero : (a : List ℤ) → a ++ zero_of zero ≡ a
unfolding zero_of
append_zero [] = refl
append_zero (x ∷ a) = ap (λ t. x ∷ t) (append_zero a)

pub times_one : (a : List ℤ) (n : ℕ) → length a ≡ suc n → times a (one_of (suc n)) ≡ a
times_one a n e = ap (times a) (one_of_suc n) ∙ times_filled a zero n (omega arith) ∙ append_zero a

pub times_comm : (a b : List ℤ) → length a ≡ length b → times a b ≡ times b a
times_comm [] [] e = refl
times_comm [] (y ∷ b) e = absurd (omega arith)
times_comm (x ∷ a) [] e = absurd (omega arith)
times_comm (x ∷ a) (y ∷ b) e =
    let s = times_swap (x ∷ a) (y ∷ b) (one_of (suc (length a))) in
    let p = times_one (y ∷ b) (length a) (sym e) in
    let q = times_one (x ∷ a) (length a) refl in
    ap (times (x ∷ a)) (sym p) ∙ s ∙ ap (times (y ∷ b)) q

pub one_times : (a : List ℤ) (n : ℕ) → length a ≡ suc n → times (one_of (suc n)) a ≡ a
one_times a n e = times_comm (one_of (suc n)) a (length-one_of n ∙ sym e) ∙ times_one a n e

pub times_assoc : (a b c : List ℤ) → length a ≡ length b → length b ≡ length c → times (times a b) c ≡ times a (times b c)
times_assoc a b c e f =
    times_comm (times a b) c (length-times a b ∙ f) ∙ times_swap c a b ∙ ap (times a) (times_comm c b (sym f))

pub times_zero : (a : List ℤ) (n : ℕ) → times a (zero_of n) ≡ zero_of n
unfolding times
times_zero [] n = scale-zero_of (pos 0) n
times_zero (x ∷ a) n =
    ap (λ t. plus (scale x (zero_of n)) (times a t)) (shift_zero n) ∙ ap (plus (scale x (zero_of n))) (times_zero a n)
    ∙ ap (λ t. plus t (zero_of n)) (scale-zero_of x n) ∙ zero_of-plus (zero_of n) n (length-zero_of n)

-- ---- the powers of x
last_unit : (x : ℤ) (n k : ℕ) → suc k < n → last x (set (zero_of n) k (pos 1)) ≡ pos 0
unfolding last zero_of
last_unit x zero k h = absurd (omega arith)
last_unit x (suc zero) zero h = absurd (omega arith)
last_unit x (suc (suc n)) zero h = last_zero (pos 1) [] n
last_unit x (suc n) (suc k) h = last_unit (pos 0) n k (omega arith)

behind_unit : (n k : ℕ) → suc k < n → behind (pos 0) (set (zero_of n) k (pos 1)) ≡ set (zero_of n) (suc k) (pos 1)
unfolding behind zero_of
behind_unit zero k h = absurd (omega arith)
behind_unit (suc zero) k h = absurd (omega arith)
behind_unit (suc (suc n)) zero h = ap (λ t. pos 0 ∷ pos 1 ∷ t) (behind_zeros n)
behind_unit (suc (suc n)) (suc k) h = ap (λ t. pos 0 ∷ t) (behind_unit (suc n) k (omega arith))

pub shift_unit : (n k : ℕ) → suc k < n → shift (set (zero_of n) k (pos 1)) ≡ set (zero_of n) (suc k) (pos 1)
unfolding shift zero_of last behind
shift_unit zero k h = absurd (omega arith)
shift_unit (suc zero) k h = absurd (omega arith)
shift_unit (suc (suc n)) zero h =
    let l = last_zero (pos 1) [] n in
    let b = behind_zeros n in
    cc
shift_unit (suc (suc n)) (suc k) h =
    let l = last_unit (pos 0) (suc n) k (omega arith) in
    let b = behind_unit (suc n) k (omega arith) in
    cc

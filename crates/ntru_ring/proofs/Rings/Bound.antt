-- How large a product of two small elements can be. It is why NTRU Prime asks for q to be at least 16w + 1 (round 3
-- specification, parameters of Streamlined NTRU Prime).
use Rattle.std.proofs.Common.{◌≡◌, ℕ, zero, suc, ◌+◌, ◌*◌, ◌<◌, ◌≤◌, List, [], ◌∷◌, length, cond, ℤ, pos, negsuc, ◌+ℤ◌, ◌*ℤ◌, nat_abs, refl, ap, ◌∙◌, arith, All}
use Rattle.std.proofs.lemmas.Int.{ints}
use Rattle.std.proofs.lemmas.List.Elements.{All-head, All-tail, All-cons, All-nil, All-weaker}
use Rattle.std.proofs.lemmas.List.Sums.{sum_by-cons}
use Rattle.ntru_ring.specs.Ring.{plus, scale, last, behind, shift, times}
use Rattle.ntru_ring.specs.Reduction.{IsWithin}
use Rattle.ntru_ring.specs.Small.{weight, is_nonzero}
use Rattle.ntru_ring.proofs.Rings.Algebra.{length-shift}
use Rattle.ntru_ring.proofs.Numbers.Ranges.{wider, within_sum, within_scale, within_product}

pub All-wider : (m n : ℕ) → m ≤ n → (a : List ℤ) → All (IsWithin m) a → All (IsWithin n) a
All-wider m n h a w = All-weaker (IsWithin m) (IsWithin n) (wider m n h) a w

pub plus_within : (m n : ℕ) (a b : List ℤ) → All (IsWithin m) a → All (IsWithin n) b → All (IsWithin (m + n)) (plus a b)
unfolding plus
plus_within m n [] b v w = All-nil (IsWithin (m + n))
plus_within m n (x ∷ a) [] v w = All-nil (IsWithin (m + n))
plus_within m n (x ∷ a) (y ∷ b) v w =
    let p = All-head (IsWithin m) x a v in
    let q = All-head (IsWithin n) y b w in
    All-cons (IsWithin (m + n)) (x +ℤ y) (plus a b)
    (within_sum m n x y p q)
    (plus_within m n a b (All-tail (IsWithin m) x a v) (All-tail (IsWithin n) y b w))

zero_within : (b : List ℤ) → All (IsWithin 0) (scale (pos 0) b)
unfolding scale
zero_within [] = All-nil (IsWithin 0)
zero_within (y ∷ b) =
    All-cons (IsWithin 0) (pos 0 *ℤ y) (scale (pos 0) b) (record { low = omega (arith, ints); high = omega (arith, ints) }) (zero_within b)

last_all : (x : ℤ) (a : List ℤ) → IsWithin 1 x → All (IsWithin 1) a → IsWithin 1 (last x a)
unfolding last
last_all x [] v w = v
last_all x (y ∷ a) v w = last_all y a (All-head (IsWithin 1) y a w) (All-tail (IsWithin 1) y a w)

behind_small : (x : ℤ) (a : List ℤ) → IsWithin 1 x → All (IsWithin 1) a → All (IsWithin 1) (behind x a)
unfolding behind
behind_small x [] v w = All-nil (IsWithin 1)
behind_small x (y ∷ a) v w = All-cons (IsWithin 1) x (behind y a) v (behind_small y a (All-head (IsWithin 1) y a w) (All-tail (IsWithin 1) y a w))

scale_within : (m : ℕ) (c : ℤ) (a : List ℤ) → All (IsWithin m) a → All (IsWithin (nat_abs c * m)) (scale c a)
unfolding scale
scale_within m c [] w = All-nil (IsWithin (nat_abs c * m))
scale_within m c (x ∷ a) w =
    All-cons (IsWithin (nat_abs c * m)) (c *ℤ x) (scale c a) (within_scale m c x (All-head (IsWithin m) x a w)) (scale_within m c a (All-tail (IsWithin m) x a w))

pub scale_within_both : (m n : ℕ) (c : ℤ) (a : List ℤ) → IsWithin m c → All (IsWithin n) a → All (IsWithin (m * n)) (scale c a)
unfolding scale
scale_within_both m n c [] v w = All-nil (IsWithin (m * n))
scale_within_both m n c (x ∷ a) v w =
    All-cons (IsWithin (m * n)) (c *ℤ x) (scale c a) (within_product m n c x v (All-head (IsWithin n) x a w)) (scale_within_both m n c a v (All-tail (IsWithin n) x a w))

-- the first j coefficients of the tail lie in -2..2, the others in -1..1
IsCapped : ℕ → List ℤ → Type 0
IsCapped zero a = All (IsWithin 1) a
IsCapped (suc j) [] = Unit {0}
IsCapped (suc j) (x ∷ a) = IsWithin 2 x × IsCapped j a

-- such an element: its first coefficient lies in -1..1
IsShifted : ℕ → List ℤ → Type 0
IsShifted j [] = Unit {0}
IsShifted j (x ∷ a) = IsWithin 1 x × IsCapped j a

IsCapped-within : (j : ℕ) (a : List ℤ) → IsCapped j a → All (IsWithin 2) a
unfolding IsCapped
IsCapped-within zero a w = All-wider 1 2 (omega arith) a w
IsCapped-within (suc j) [] w = All-nil (IsWithin 2)
IsCapped-within (suc j) (x ∷ a) w = All-cons (IsWithin 2) x a w.0 (IsCapped-within j a w.1)

IsShifted-within : (j : ℕ) (a : List ℤ) → IsShifted j a → All (IsWithin 2) a
unfolding IsShifted
IsShifted-within j [] w = All-nil (IsWithin 2)
IsShifted-within j (x ∷ a) w = All-cons (IsWithin 2) x a (wider 1 2 (omega arith) x w.0) (IsCapped-within j a w.1)

IsShifted-from_small : (a : List ℤ) → All (IsWithin 1) a → IsShifted 0 a
unfolding IsShifted IsCapped
IsShifted-from_small [] w = tt
IsShifted-from_small (x ∷ a) w = (All-head (IsWithin 1) x a w, All-tail (IsWithin 1) x a w)

last_past : (x : ℤ) (a : List ℤ) (j : ℕ) → j < length a → IsCapped j a → IsWithin 1 (last x a)
unfolding last IsCapped
last_past x [] j h w = absurd (omega arith)
last_past x (y ∷ a) zero h w = last_all y a (All-head (IsWithin 1) y a w) (All-tail (IsWithin 1) y a w)
last_past x (y ∷ a) (suc j) h w = last_past y a j (omega arith) w.1

last_small : (x : ℤ) (a : List ℤ) (j : ℕ) → IsWithin 1 x → j < length a → IsCapped j a → IsWithin 1 (last x a)
unfolding last IsCapped
last_small x [] j v h w = absurd (omega arith)
last_small x (y ∷ a) (suc j) v h w = last_past y a j (omega arith) w.1
last_small x (y ∷ a) zero v h w = last_all y a (All-head (IsWithin 1) y a w) (All-tail (IsWithin 1) y a w)

behind_capped : (j : ℕ) (x : ℤ) (a : List ℤ) → IsWithin 2 x → IsCapped j a → IsCapped (suc j) (behind x a)
unfolding IsCapped behind
behind_capped j x [] v w = tt
behind_capped zero x (y ∷ a) v w = (v, behind_small y a (All-head (IsWithin 1) y a w) (All-tail (IsWithin 1) y a w))
behind_capped (suc j) x (y ∷ a) v w = (v, behind_capped j y a w.0 w.1)

IsShifted-shift : (j : ℕ) (a : List ℤ) → suc j < length a → IsShifted j a → IsShifted (suc j) (shift a)
unfolding IsShifted shift
IsShifted-shift j [] h w = tt
IsShifted-shift j (x ∷ a) h w =
    let l = last_small x a j w.0 (omega arith) w.1 in
    let s : IsWithin 2 (x +ℤ last x a) = within_sum 1 1 x (last x a) w.0 l in
    (l, behind_capped j (x +ℤ last x a) a s w.1)

is_one : ℤ → ℕ
is_one x = cond (is_nonzero x) 1 0

is_one_is : (x : ℤ) → IsWithin 1 x → is_one x ≡ nat_abs x
unfolding is_one
is_one_is (pos zero) w = refl
is_one_is (pos (suc zero)) w = refl
is_one_is (pos (suc (suc n))) w = absurd (omega (arith, ints, w.high))
is_one_is (negsuc zero) w = refl
is_one_is (negsuc (suc n)) w = absurd (omega (arith, ints, w.low))

weight_cons : (x : ℤ) (a : List ℤ) → IsWithin 1 x → weight (x ∷ a) ≡ nat_abs x + weight a
unfolding weight is_one
weight_cons x a w = sum_by-cons is_one x a ∙ ap (λ t. t + weight a) (is_one_is x w)

-- a times a shifted element
times_shifted_within : (a b : List ℤ) (j : ℕ) → All (IsWithin 1) a → length a + j ≤ length b → IsShifted j b → All (IsWithin (2 * weight a)) (times a b)
unfolding times
times_shifted_within [] b j v h w = All-wider 0 (2 * weight []) (omega arith) (scale (pos 0) b) (scale_within 2 (pos 0) b (IsShifted-within j b w))
times_shifted_within (x ∷ []) b j v h w =
    let x1 = All-head (IsWithin 1) x [] v in
    let r = plus_within (nat_abs x * 2) 0 (scale x b) (scale (pos 0) (shift b)) (scale_within 2 x b (IsShifted-within j b w)) (zero_within (shift b)) in
    All-wider (nat_abs x * 2 + 0) (2 * weight (x ∷ [])) (omega (arith, weight_cons x [] x1)) (times (x ∷ []) b) r
times_shifted_within (x ∷ y ∷ a) b j v h w =
    let x1 = All-head (IsWithin 1) x (y ∷ a) v in
    let i = times_shifted_within (y ∷ a) (shift b) (suc j) (All-tail (IsWithin 1) x (y ∷ a) v) (omega (arith, length-shift b)) (IsShifted-shift j b (omega arith) w) in
    let r = plus_within (nat_abs x * 2) (2 * weight (y ∷ a)) (scale x b) (times (y ∷ a) (shift b)) (scale_within 2 x b (IsShifted-within j b w)) i in
    All-wider (nat_abs x * 2 + 2 * weight (y ∷ a)) (2 * weight (x ∷ y ∷ a)) (omega (arith, weight_cons x (y ∷ a) x1)) (times (x ∷ y ∷ a) b) r

-- each coefficient of a product of small elements lies within twice the first one's weight
pub times_within : (a b : List ℤ) → All (IsWithin 1) a → All (IsWithin 1) b → length a ≡ length b → All (IsWithin (2 * weight a)) (times a b)
times_within a b v w e = times_shifted_within a b 0 v (omega arith) (IsShifted-from_small b w)

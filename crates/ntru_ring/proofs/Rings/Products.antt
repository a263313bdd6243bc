-- The loop of a product, by Horner's form.
use Rattle.std.proofs.Common.{◌≡◌, ℕ, zero, suc, ◌+◌, ◌-◌, ◌<◌, ◌≤◌, List, ◌∷◌, length, drop, ℤ, pos, negsuc, ◌+ℤ◌, ◌-ℤ◌, ◌*ℤ◌, refl, sym, ap, ◌∙◌, arith}
use Rattle.std.proofs.lemmas.Int.{ints}
use Rattle.std.proofs.lemmas.List.{drop_more, drop_all}
use Rattle.ntru_ring.specs.Ring.{plus, scale, shift, times, zero_of, coefficient}
use Rattle.ntru_ring.specs.Reduction.{reduced}
use Rattle.ntru_ring.specs.Powers.{rotated, power}
use Rattle.ntru_ring.proofs.Rings.Algebra.{length-scale, length-shift, length-times, plus_comm, plus_assoc, plus_middle, plus_scale_zero, scale-plus, scale-scale, scale_sum, times_step, scale_zero}
use Rattle.ntru_ring.proofs.Rings.Congruence.{reduced-plus, reduced-times_right, shift_same}
use Rattle.ntru_ring.proofs.Rings.Powers.{rotated-plus, rotated-scale, rotated-reduced, length-rotated, length-power}
use Rattle.ntru_ring.proofs.Rings.Unit.{zero_of-plus}

-- no coefficient is taken yet
pub product_none : (n : ℕ) (a b : List ℤ) → length a ≡ n → length b ≡ n → zero_of n ≡ times (drop n a) b
unfolding times
product_none n a b e f =
    sym (ap (λ t. times t b) (drop_all n a (omega (arith, e))) ∙ scale_zero b ∙ ap zero_of f)

-- one more coefficient, from the last down
pub product_more : (h n : ℕ) (a b s s' s'' : List ℤ) (k : ℕ) (x : ℤ) → length a ≡ n → k < n → x ≡ coefficient a (n - (k + 1))
    → reduced h s ≡ reduced h (times (drop (n - k) a) b) → reduced h s' ≡ reduced h (shift s) → reduced h s'' ≡ reduced h (plus s' (scale x b))
    → reduced h s'' ≡ reduced h (times (drop (n - (k + 1)) a) b)
product_more h n a b s s' s'' k x e l r i p q =
    let at = n - (k + 1) in
    let rest = drop (n - k) a in
    let m : at + 1 ≡ n - k = omega arith in
    let d = drop_more a at (pos 0) (omega (arith, e)) ∙ ap (λ t. coefficient a at ∷ drop t a) m in
    let u = p ∙ shift_same h s (times rest b) i in
    q ∙ reduced-plus h s' (shift (times rest b)) (scale x b) (scale x b) u refl
    ∙ ap (reduced h) (plus_comm (shift (times rest b)) (scale x b) ∙ sym (times_step x rest b) ∙ ap (λ t. times (t ∷ rest) b) r ∙ ap (λ t. times t b) (sym d))

-- ---- the loop of a product by the powers of x: the rows that are added less those that are subtracted, with what is left,
-- are the product
scale-zero_of : (c : ℤ) (n : ℕ) → scale c (zero_of n) ≡ zero_of n
unfolding scale zero_of
scale-zero_of c zero = refl
scale-zero_of c (suc n) = let e : c *ℤ pos 0 ≡ pos 0 = omega (arith, ints) in cc (e, scale-zero_of c n)

-- the rows that are left
pub left_of : List ℤ → ℕ → List ℤ → List ℤ
left_of s k a = rotated (times (drop k s) (power k a))

pub small_none : (s a : List ℤ) (n : ℕ) → length a ≡ n → plus (plus (zero_of n) (scale (negsuc 0) (zero_of n))) (left_of s 0 a) ≡ rotated (times s a)
unfolding left_of power
small_none s a n e =
    let r = rotated (times s a) in
    let l : length r ≡ n = length-rotated (times s a) ∙ length-times s a ∙ e in
    ap (λ t. plus (plus (zero_of n) t) r) (scale-zero_of (negsuc 0) n) ∙ plus_assoc (zero_of n) (zero_of n) r ∙ ap (plus (zero_of n)) (zero_of-plus r n l) ∙ zero_of-plus r n l

left_more : (s a : List ℤ) (k : ℕ) (x : ℤ) → k < length s → x ≡ coefficient s k
    → left_of s k a ≡ plus (scale x (rotated (power k a))) (rotated (times (drop (k + 1) s) (shift (power k a))))
unfolding left_of times
left_more s a k x l e =
    let p = power k a in
    let rest = drop (k + 1) s in
    let d = drop_more s k (pos 0) l ∙ ap (λ y. y ∷ rest) (sym e) in
    ap (λ t. rotated (times t p)) d ∙ rotated-plus (scale x p) (times rest (shift p)) (length-scale x p ∙ sym (length-times rest (shift p) ∙ length-shift p))
    ∙ ap (λ t. plus t (rotated (times rest (shift p)))) (rotated-scale x p)

left_same : (s a : List ℤ) (k : ℕ) → reduced 2295 (left_of s (k + 1) a) ≡ reduced 2295 (rotated (times (drop (k + 1) s) (shift (power k a))))
unfolding left_of power
left_same s a k =
    let q = shift (power k a) in
    let rest = drop (k + 1) s in
    let e : k + 1 ≡ suc k = omega arith in
    ap (λ t. reduced 2295 (rotated (times rest (power t a)))) e ∙ sym (rotated-reduced 2295 (times rest (reduced 2295 q))) ∙ ap rotated (reduced-times_right 2295 rest q)
    ∙ rotated-reduced 2295 (times rest q)

-- both sums, where a row is added b and subtracted c times
both_more : (p m w : List ℤ) (b c : ℕ) → plus (plus p (scale (pos b) w)) (scale (negsuc 0) (plus m (scale (pos c) w))) ≡ plus (plus p (scale (negsuc 0) m)) (scale (pos b -ℤ pos c) w)
both_more p m w b c =
    let x = pos b in
    let e : pos b +ℤ negsuc 0 *ℤ pos c ≡ pos b -ℤ pos c = omega (arith, ints) in
    ap (plus (plus p (scale x w))) (scale-plus (negsuc 0) m (scale (pos c) w) ∙ ap (plus (scale (negsuc 0) m)) (scale-scale (negsuc 0) (pos c) w))
    ∙ plus_middle p (scale x w) (scale (negsuc 0) m) (scale (negsuc 0 *ℤ pos c) w)
    ∙ ap (plus (plus p (scale (negsuc 0) m))) (sym (scale_sum x (negsuc 0 *ℤ pos c) w) ∙ ap (λ t. scale t w) e)

pub small_more : (s a goal p p' m m' : List ℤ) (k b c : ℕ) (x : ℤ) → k < length s → x ≡ coefficient s k → x ≡ pos b -ℤ pos c
    → p' ≡ plus p (scale (pos b) (rotated (power k a))) → m' ≡ plus m (scale (pos c) (rotated (power k a)))
    → reduced 2295 (plus (plus p (scale (negsuc 0) m)) (left_of s k a)) ≡ goal → reduced 2295 (plus (plus p' (scale (negsuc 0) m')) (left_of s (k + 1) a)) ≡ goal
small_more s a goal p p' m m' k b c x l e f u v g =
    let w = rotated (power k a) in
    let d = plus p (scale (negsuc 0) m) in
    let rest = rotated (times (drop (k + 1) s) (shift (power k a))) in
    let t = ap (λ y. plus y (scale (negsuc 0) m')) u ∙ ap (λ y. plus (plus p (scale (pos b) w)) (scale (negsuc 0) y)) v ∙ both_more p m w b c ∙ ap (λ y. plus d (scale y w)) (sym f) in
    reduced-plus 2295 (plus p' (scale (negsuc 0) m')) (plus d (scale x w)) (left_of s (k + 1) a) rest (ap (reduced 2295) t) (left_same s a k)
    ∙ ap (reduced 2295) (plus_assoc d (scale x w) rest ∙ ap (plus d) (sym (left_more s a k x l e))) ∙ g

pub small_all : (s a d : List ℤ) (k : ℕ) → length s ≤ k → length d ≡ length a → plus d (left_of s k a) ≡ d
unfolding left_of times
small_all s a d k l e =
    let p = power k a in
    ap (λ t. plus d (rotated (times t p))) (drop_all k s l) ∙ ap (plus d) (rotated-scale (pos 0) p) ∙ plus_scale_zero d (rotated p) (e ∙ sym (length-rotated p ∙ length-power k a))

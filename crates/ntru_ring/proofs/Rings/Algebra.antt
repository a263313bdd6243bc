-- Laws of the ring at any length.
use Rattle.std.proofs.Common.{◌≡◌, ℕ, zero, suc, List, [], ◌∷◌, length, ℤ, pos, ◌+ℤ◌, ◌*ℤ◌, refl, sym, ap, ◌∙◌, arith}
use Rattle.std.proofs.lemmas.Int.{ints}
use Rattle.ntru_ring.specs.Ring.{plus, scale, last, behind, shift, times, zero_of}
use Rattle.std.proofs.Math.IntN.{+ℤ_comm, +ℤ_assoc, *ℤ_comm}
use Rattle.ntru_ring.proofs.Numbers.Integers.{*ℤ-+ℤ, +ℤ-*ℤ, *ℤ_assoc, +ℤ_middle}

-- ---- lengths
pub length-scale : (c : ℤ) (a : List ℤ) → length (scale c a) ≡ length a
unfolding scale
length-scale c [] = refl
length-scale c (x ∷ a) = ap suc (length-scale c a)

pub length-plus : (a b : List ℤ) → length a ≡ length b → length (plus a b) ≡ length b
unfolding plus
length-plus [] b e = e
length-plus (x ∷ a) [] e = refl
length-plus (x ∷ a) (y ∷ b) e = ap suc (length-plus a b (omega arith))

pub length-behind : (x : ℤ) (a : List ℤ) → length (behind x a) ≡ length a
unfolding behind
length-behind x [] = refl
length-behind x (y ∷ a) = ap suc (length-behind y a)

pub length-shift : (a : List ℤ) → length (shift a) ≡ length a
unfolding shift
length-shift [] = refl
length-shift (x ∷ a) = ap suc (length-behind (x +ℤ last x a) a)

pub length-times : (a b : List ℤ) → length (times a b) ≡ length b
unfolding times
length-times [] b = length-scale (pos 0) b
length-times (x ∷ a) b =
    let s = length-times a (shift b) ∙ length-shift b in
    length-plus (scale x b) (times a (shift b)) (length-scale x b ∙ sym s) ∙ s

pub length-zero_of : (n : ℕ) → length (zero_of n) ≡ n
unfolding zero_of
length-zero_of zero = refl
length-zero_of (suc n) = ap suc (length-zero_of n)

-- ---- plus and scale
pub plus_comm : (a b : List ℤ) → plus a b ≡ plus b a
unfolding plus
plus_comm [] [] = refl
plus_comm [] (y ∷ b) = refl
plus_comm (x ∷ a) [] = refl
plus_comm (x ∷ a) (y ∷ b) = cc (+ℤ_comm x y, plus_comm a b)

pub plus_assoc : (a b c : List ℤ) → plus (plus a b) c ≡ plus a (plus b c)
unfolding plus
plus_assoc [] b c = refl
plus_assoc (x ∷ a) [] c = refl
plus_assoc (x ∷ a) (y ∷ b) [] = refl
plus_assoc (x ∷ a) (y ∷ b) (z ∷ c) = cc (+ℤ_assoc x y z, plus_assoc a b c)

pub plus_middle : (a b c d : List ℤ) → plus (plus a b) (plus c d) ≡ plus (plus a c) (plus b d)
plus_middle a b c d =
    plus_assoc a b (plus c d) ∙ ap (plus a) (sym (plus_assoc b c d) ∙ ap (λ t. plus t d) (plus_comm b c) ∙ plus_assoc c b d) ∙ sym (plus_assoc a c (plus b d))

pub scale-plus : (c : ℤ) (a b : List ℤ) → scale c (plus a b) ≡ plus (scale c a) (scale c b)
unfolding plus scale
scale-plus c [] b = refl
scale-plus c (x ∷ a) [] = refl
scale-plus c (x ∷ a) (y ∷ b) = cc (*ℤ-+ℤ c x y, scale-plus c a b)

pub scale_sum : (c d : ℤ) (a : List ℤ) → scale (c +ℤ d) a ≡ plus (scale c a) (scale d a)
unfolding plus scale
scale_sum c d [] = refl
scale_sum c d (x ∷ a) = cc (+ℤ-*ℤ c d x, scale_sum c d a)

pub scale-scale : (c d : ℤ) (a : List ℤ) → scale c (scale d a) ≡ scale (c *ℤ d) a
unfolding scale
scale-scale c d [] = refl
scale-scale c d (x ∷ a) = cc (*ℤ_assoc c d x, scale-scale c d a)

pub scale_swap : (c d : ℤ) (a : List ℤ) → scale c (scale d a) ≡ scale d (scale c a)
scale_swap c d a = scale-scale c d a ∙ ap (λ t. scale t a) (*ℤ_comm c d) ∙ sym (scale-scale d c a)

pub scale_one : (a : List ℤ) → scale (pos 1) a ≡ a
unfolding scale
scale_one [] = refl
scale_one (x ∷ a) = let e : pos 1 *ℤ x ≡ x = omega (arith, ints) in cc (e, scale_one a)

pub plus_scale_zero : (a b : List ℤ) → length a ≡ length b → plus a (scale (pos 0) b) ≡ a
unfolding plus scale
plus_scale_zero [] b e = refl
plus_scale_zero (x ∷ a) [] e = absurd (omega arith)
plus_scale_zero (x ∷ a) (y ∷ b) e =
    let h : x +ℤ pos 0 *ℤ y ≡ x = omega (arith, ints) in cc (h, plus_scale_zero a b (omega arith))

pub scale_zero : (b : List ℤ) → scale (pos 0) b ≡ zero_of (length b)
unfolding scale zero_of
scale_zero [] = refl
scale_zero (y ∷ b) = let h : pos 0 *ℤ y ≡ pos 0 = omega (arith, ints) in cc (h, scale_zero b)

-- ---- shift
last-plus : (x y : ℤ) (a b : List ℤ) → length a ≡ length b → last (x +ℤ y) (plus a b) ≡ last x a +ℤ last y b
unfolding plus last
last-plus x y [] [] e = refl
last-plus x y [] (w ∷ b) e = absurd (omega arith)
last-plus x y (v ∷ a) [] e = absurd (omega arith)
last-plus x y (v ∷ a) (w ∷ b) e = last-plus v w a b (omega arith)

behind-plus : (x y : ℤ) (a b : List ℤ) → behind (x +ℤ y) (plus a b) ≡ plus (behind x a) (behind y b)
unfolding plus behind
behind-plus x y [] b = refl
behind-plus x y (v ∷ a) [] = refl
behind-plus x y (v ∷ a) (w ∷ b) = cc (behind-plus v w a b)

pub shift-plus : (a b : List ℤ) → length a ≡ length b → shift (plus a b) ≡ plus (shift a) (shift b)
unfolding plus shift
shift-plus [] b e = refl
shift-plus (x ∷ a) [] e = refl
shift-plus (x ∷ a) (y ∷ b) e =
    let l = last-plus x y a b (omega arith) in
    let m = +ℤ_middle x y (last x a) (last y b) in
    let k = behind-plus (x +ℤ last x a) (y +ℤ last y b) a b in
    cc

last-scale : (c x : ℤ) (a : List ℤ) → last (c *ℤ x) (scale c a) ≡ c *ℤ last x a
unfolding scale last
last-scale c x [] = refl
last-scale c x (y ∷ a) = last-scale c y a

behind-scale : (c x : ℤ) (a : List ℤ) → behind (c *ℤ x) (scale c a) ≡ scale c (behind x a)
unfolding scale behind
behind-scale c x [] = refl
behind-scale c x (y ∷ a) = cc (behind-scale c y a)

pub shift-scale : (c : ℤ) (a : List ℤ) → shift (scale c a) ≡ scale c (shift a)
unfolding scale shift
shift-scale c [] = refl
shift-scale c (x ∷ a) =
    let l = last-scale c x a in
    let m = *ℤ-+ℤ c x (last x a) in
    let k = behind-scale c (x +ℤ last x a) a in
    cc

-- ---- times
pub times-plus : (a b c : List ℤ) → length b ≡ length c → times a (plus b c) ≡ plus (times a b) (times a c)
unfolding times
times-plus [] b c e = scale-plus (pos 0) b c
times-plus (x ∷ a) b c e =
    let s = ap (times a) (shift-plus b c e) ∙ times-plus a (shift b) (shift c) (length-shift b ∙ e ∙ sym (length-shift c)) in
    let m = plus_middle (scale x b) (scale x c) (times a (shift b)) (times a (shift c)) in
    cc (scale-plus x b c)

pub times-scale : (a : List ℤ) (c : ℤ) (b : List ℤ) → times a (scale c b) ≡ scale c (times a b)
unfolding times
times-scale [] c b = scale_swap (pos 0) c b
times-scale (x ∷ a) c b =
    let s = ap (times a) (shift-scale c b) ∙ times-scale a c (shift b) in
    let m = scale-plus c (scale x b) (times a (shift b)) in
    cc (scale_swap x c b)

pub times-shift : (a b : List ℤ) → times a (shift b) ≡ shift (times a b)
unfolding times
times-shift [] b = sym (shift-scale (pos 0) b)
times-shift (x ∷ a) b =
    let e = shift-plus (scale x b) (times a (shift b)) (length-scale x b ∙ sym (length-times a (shift b) ∙ length-shift b)) in
    cc (times-shift a (shift b), shift-scale x b)

-- Horner's form
pub times_step : (x : ℤ) (a b : List ℤ) → times (x ∷ a) b ≡ plus (scale x b) (shift (times a b))
unfolding times
times_step x a b = ap (plus (scale x b)) (times-shift a b)

pub plus-times : (a b c : List ℤ) → length a ≡ length b → times (plus a b) c ≡ plus (times a c) (times b c)
unfolding plus times
plus-times [] [] c e = sym (plus_scale_zero (scale (pos 0) c) c (length-scale (pos 0) c))
plus-times [] (y ∷ b) c e = absurd (omega arith)
plus-times (x ∷ a) [] c e = absurd (omega arith)
plus-times (x ∷ a) (y ∷ b) c e =
    let m = plus_middle (scale x c) (scale y c) (times a (shift c)) (times b (shift c)) in
    cc (scale_sum x y c, plus-times a b (shift c) (omega arith))

pub scale-times : (c : ℤ) (a b : List ℤ) → times (scale c a) b ≡ scale c (times a b)
unfolding scale times
scale-times c [] b = let h : c *ℤ pos 0 ≡ pos 0 = omega (arith, ints) in ap (λ t. scale t b) (sym h) ∙ sym (scale-scale c (pos 0) b)
scale-times c (x ∷ a) b =
    let m = scale-plus c (scale x b) (times a (shift b)) in
    cc (scale-scale c x b, scale-times c a (shift b))

pub times_swap : (a b u : List ℤ) → times a (times b u) ≡ times b (times a u)
unfolding times
times_swap [] b u = sym (times-scale b (pos 0) u)
times_swap (x ∷ a) b u =
    let s = ap (times a) (sym (times-shift b u)) ∙ times_swap a b (shift u) in
    let p = times-plus b (scale x u) (times a (shift u)) (length-scale x u ∙ sym (length-times a (shift u) ∙ length-shift u)) in
    cc (times-scale b x u)

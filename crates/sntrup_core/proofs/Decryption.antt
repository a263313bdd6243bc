-- Decryption undoes encryption: 3 * f * c is g * r + 3 * f * d, where d is what rounding adds, and no coefficient of that
-- sum is larger than 2295.
use Rattle.std.proofs.Common.{◌≡◌, ℕ, suc, ◌+◌, ◌*◌, List, [], ◌∷◌, length, eqb, ℤ, pos, negsuc, ◌-ℤ◌, ◌+ℤ◌, ◌*ℤ◌, refl, ap, sym, ◌∙◌, arith, All}
use Rattle.std.proofs.lemmas.Int.{ints}
use Rattle.std.proofs.lemmas.Bool.{cond-true, eq-eqb}
use Rattle.ntru_ring.specs.Ring.{plus, scale, times, one_of}
use Rattle.ntru_ring.specs.Reduction.{centred, reduced, IsWithin}
use Rattle.ntru_ring.specs.Small.{weight, nearest, rounded}
use Rattle.ntru_ring.proofs.Rings.Algebra.{times-plus, scale-plus, scale-times, plus_scale_zero, length-times, length-scale}
use Rattle.ntru_ring.proofs.Rings.Unit.{times_comm, times_assoc, times_one}
use Rattle.ntru_ring.proofs.Rings.Congruence.{length-reduced, reduced_keeps, reduced_within, reduced-plus_left, reduced-plus_right, reduced-scale_by, reduced-times_right, reduced-times_left, scale_same}
use Rattle.ntru_ring.proofs.Rings.Bound.{All-wider, plus_within, scale_within_both, times_within}
use Rattle.sntrup_core.specs.Core.{IsSmall, IsShort, IsPair, encrypted, recovered, decrypted}
use Rattle.sntrup_core.proofs.InverseLaws.{inverse-some}
use Rattle.sntrup_core.proofs.Quotients.{length-quotient}

-- what rounding adds
added : List ℤ → List ℤ
added a = scale (negsuc 0) (reduced 1 a)

rounded-is : (a : List ℤ) → rounded a ≡ plus a (added a)
unfolding added rounded nearest plus scale reduced
rounded-is [] = refl
rounded-is (x ∷ a) =
    let e : x -ℤ centred 1 x ≡ x +ℤ negsuc 0 *ℤ centred 1 x = omega (arith, ints) in
    cc (rounded-is a)

added-within : (a : List ℤ) → All (IsWithin 1) (added a)
unfolding added
added-within a =
    scale_within_both 1 1 (negsuc 0) (reduced 1 a) (record { low = omega (arith, ints); high = omega (arith, ints) })
    (reduced_within 1 a)

length-added : (a : List ℤ) → length (added a) ≡ length a
unfolding added
length-added a = length-scale (negsuc 0) (reduced 1 a) ∙ length-reduced 1 a

-- a multiple of 3 vanishes modulo 3
three-is : centred 1 (pos 3) ≡ pos 0
unfolding centred
three-is = refl

without_threes : (a b : List ℤ) → length a ≡ length b → reduced 1 (plus a (scale (pos 3) b)) ≡ reduced 1 a
without_threes a b l =
    sym (reduced-plus_right 1 a (scale (pos 3) b)) ∙ ap (λ t. reduced 1 (plus a t)) (sym (reduced-scale_by 1 (pos 3) b))
    ∙ reduced-plus_right 1 a (scale (centred 1 (pos 3)) b) ∙ ap (λ c. reduced 1 (plus a (scale c b))) three-is
    ∙ ap (reduced 1) (plus_scale_zero a b l)

-- 3 * f * (h * r + d) is g * r + 3 * f * d
products : (n : ℕ) (g f h r d : List ℤ) → length g ≡ suc n → length f ≡ suc n → length h ≡ suc n → length r ≡ suc n
    → length d ≡ suc n → reduced 2295 (scale (pos 3) (times f h)) ≡ g
    → reduced 2295 (scale (pos 3) (times f (plus (reduced 2295 (times h r)) d)))
    ≡ reduced 2295 (plus (times r g) (scale (pos 3) (times f d)))
products n g f h r d lg lf lh lr ld e =
    let hr = reduced 2295 (times h r) in
    let lhr : length hr ≡ suc n = length-reduced 2295 (times h r) ∙ length-times h r ∙ lr in
    let gr : reduced 2295 (scale (pos 3) (times f hr)) ≡ reduced 2295 (times r g) =
    scale_same 2295 (pos 3) (times f hr) (times f (times h r)) (reduced-times_right 2295 f (times h r))
    ∙ ap (λ t. reduced 2295 (scale (pos 3) t)) (sym (times_assoc f h r (lf ∙ sym lh) (lh ∙ sym lr)))
    ∙ ap (reduced 2295) (sym (scale-times (pos 3) (times f h) r))
    ∙ sym (reduced-times_left 2295 (scale (pos 3) (times f h)) r) ∙ ap (λ t. reduced 2295 (times t r)) e
    ∙ ap (reduced 2295) (times_comm g r (lg ∙ sym lr)) in
    ap (λ t. reduced 2295 (scale (pos 3) t)) (times-plus f hr d (lhr ∙ sym ld))
    ∙ ap (reduced 2295) (scale-plus (pos 3) (times f hr) (times f d))
    ∙ sym (reduced-plus_left 2295 (scale (pos 3) (times f hr)) (scale (pos 3) (times f d)))
    ∙ ap (λ t. reduced 2295 (plus t (scale (pos 3) (times f d)))) gr
    ∙ reduced-plus_left 2295 (times r g) (scale (pos 3) (times f d))

-- the sum fits: 2 * 286 + 3 * (2 * 286) = 2288 is at most 2295
fits : (g f r d : List ℤ) → All (IsWithin 1) g → All (IsWithin 1) f → All (IsWithin 1) r → All (IsWithin 1) d
    → length r ≡ length g → length f ≡ length d → weight f ≡ 286 → weight r ≡ 286
    → All (IsWithin 2295) (plus (times r g) (scale (pos 3) (times f d)))
fits g f r d sg sf sr sd lr lf wf wr =
    let gr = All-wider (2 * weight r) 572 (omega arith) (times r g) (times_within r g sr sg lr) in
    let fd = All-wider (2 * weight f) 572 (omega arith) (times f d) (times_within f d sf sd lf) in
    let three : IsWithin 3 (pos 3) = record { low = omega (arith, ints); high = omega (arith, ints) } in
    All-wider (572 + 3 * 572) 2295 (omega arith) (plus (times r g) (scale (pos 3) (times f d)))
    (plus_within 572 (3 * 572) (times r g) (scale (pos 3) (times f d)) gr
    (scale_within_both 3 572 (pos 3) (times f d) three fd))

-- r * g * v is r modulo 3
unmultiplied : (n : ℕ) (r g v : List ℤ) → length r ≡ suc n → length g ≡ suc n → length v ≡ suc n → All (IsWithin 1) r
    → reduced 1 (times g v) ≡ one_of (length g) → reduced 1 (times (reduced 1 (times r g)) v) ≡ r
unmultiplied n r g v lr lg lv sr i =
    reduced-times_left 1 (times r g) v ∙ ap (reduced 1) (times_assoc r g v (lr ∙ sym lg) (lg ∙ sym lv))
    ∙ sym (reduced-times_right 1 r (times g v)) ∙ ap (λ t. reduced 1 (times r t)) (i ∙ ap one_of lg)
    ∙ ap (reduced 1) (times_one r n lr) ∙ reduced_keeps 1 r sr

pub recovered-encrypted : (g f h v r : List ℤ) → IsPair g f h v → IsSmall g → IsShort f → IsShort r
    → recovered f v (encrypted r h) ≡ r
unfolding recovered encrypted
recovered-encrypted g f h v r p sg sf sr =
    let found = inverse-some 1 g v p.inverse_is in
    let hr = reduced 2295 (times h r) in
    let d = added hr in
    let lh : length h ≡ 761 = length-quotient g f h p.quotient_is ∙ sg.long in
    let ld : length d ≡ 761 = length-added hr ∙ length-reduced 2295 (times h r) ∙ length-times h r ∙ sr.small.long in
    let sum = plus (times r g) (scale (pos 3) (times f d)) in
    let small : reduced 2295 (scale (pos 3) (times f (rounded hr))) ≡ sum =
    ap (λ c. reduced 2295 (scale (pos 3) (times f c))) (rounded-is hr)
    ∙ products 760 g f h r d sg.long sf.small.long lh sr.small.long ld p.exact
    ∙ reduced_keeps 2295 sum
    (fits g f r d sg.within sf.small.within sr.small.within (added-within hr) (sr.small.long ∙ sym sg.long)
    (sf.small.long ∙ sym ld) sf.weighs sr.weighs) in
    let same : length (times r g) ≡ length (times f d) = length-times r g ∙ sg.long ∙ sym (length-times f d ∙ ld) in
    ap (λ e. reduced 1 (times (reduced 1 e) v)) small
    ∙ ap (λ e. reduced 1 (times e v)) (without_threes (times r g) (times f d) same)
    ∙ unmultiplied 760 r g v sr.small.long sg.long (found.long ∙ sg.long) sr.small.within found.inverts

pub decrypted-encrypted : (g f h v r : List ℤ) → IsPair g f h v → IsSmall g → IsShort f → IsShort r
    → decrypted f v (encrypted r h) ≡ r
unfolding decrypted
decrypted-encrypted g f h v r p sg sf sr =
    let is = recovered-encrypted g f h v r p sg sf sr in
    cond-true (eqb (weight (recovered f v (encrypted r h))) 286) _ _ (eq-eqb _ 286 (ap weight is ∙ sr.weighs)) ∙ is

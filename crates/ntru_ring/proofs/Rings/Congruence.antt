-- Congruent elements: two elements are congruent where `reduced h` makes them equal. The operations respect it.
use Rattle.std.proofs.Common.{◌≡◌, ℕ, List, [], ◌∷◌, length, map, ℤ, pos, neg_ℤ, ◌+ℤ◌, refl, sym, ap, ◌∙◌, All}
use Rattle.std.proofs.lemmas.List.{length-map}
use Rattle.std.proofs.lemmas.List.Elements.{All-head, All-tail, All-cons, All-nil}
use Rattle.ntru_ring.specs.Ring.{plus, scale, last, behind, shift, times}
use Rattle.ntru_ring.specs.Reduction.{centred, reduced, IsWithin}
use Rattle.ntru_ring.proofs.Rings.Algebra.{plus_comm}
use Rattle.ntru_ring.proofs.Numbers.Centred.{centred-centred, centred_keeps, centred_within, centred-plus_left, centred-plus_right, centred-times_left, centred-times_right, centred-neg_ℤ}

pub length-reduced : (h : ℕ) (a : List ℤ) → length (reduced h a) ≡ length a
unfolding reduced
length-reduced h a = length-map a (centred h)

pub reduced-reduced : (h : ℕ) (a : List ℤ) → reduced h (reduced h a) ≡ reduced h a
unfolding reduced
reduced-reduced h [] = refl
reduced-reduced h (x ∷ a) = cc (centred-centred h x, reduced-reduced h a)

pub reduced_keeps : (h : ℕ) (a : List ℤ) → All (IsWithin h) a → reduced h a ≡ a
unfolding reduced
reduced_keeps h [] w = refl
reduced_keeps h (x ∷ a) w = cc (centred_keeps h x (All-head (IsWithin h) x a w), reduced_keeps h a (All-tail (IsWithin h) x a w))

pub reduced_within : (h : ℕ) (a : List ℤ) → All (IsWithin h) (reduced h a)
unfolding reduced
reduced_within h [] = All-nil (IsWithin h)
reduced_within h (x ∷ a) = All-cons (IsWithin h) (centred h x) (map (centred h) a) (centred_within h x) (reduced_within h a)

pub reduced-plus_right : (h : ℕ) (a b : List ℤ) → reduced h (plus a (reduced h b)) ≡ reduced h (plus a b)
unfolding reduced plus
reduced-plus_right h [] b = refl
reduced-plus_right h (x ∷ a) [] = refl
reduced-plus_right h (x ∷ a) (y ∷ b) = cc (centred-plus_right h x y, reduced-plus_right h a b)

pub reduced-plus_left : (h : ℕ) (a b : List ℤ) → reduced h (plus (reduced h a) b) ≡ reduced h (plus a b)
reduced-plus_left h a b = ap (reduced h) (plus_comm (reduced h a) b) ∙ reduced-plus_right h b a ∙ ap (reduced h) (plus_comm b a)

pub reduced-plus : (h : ℕ) (a b c d : List ℤ) → reduced h a ≡ reduced h b → reduced h c ≡ reduced h d → reduced h (plus a c) ≡ reduced h (plus b d)
reduced-plus h a b c d e f =
    sym (reduced-plus_left h a c) ∙ sym (reduced-plus_right h (reduced h a) c) ∙ ap (λ t. reduced h (plus t (reduced h c))) e
    ∙ ap (λ t. reduced h (plus (reduced h b) t)) f ∙ reduced-plus_right h (reduced h b) d ∙ reduced-plus_left h b d

pub reduced-scale : (h : ℕ) (c : ℤ) (a : List ℤ) → reduced h (scale c (reduced h a)) ≡ reduced h (scale c a)
unfolding reduced scale
reduced-scale h c [] = refl
reduced-scale h c (x ∷ a) = cc (centred-times_right h c x, reduced-scale h c a)

pub reduced-scale_by : (h : ℕ) (c : ℤ) (a : List ℤ) → reduced h (scale (centred h c) a) ≡ reduced h (scale c a)
unfolding reduced scale
reduced-scale_by h c [] = refl
reduced-scale_by h c (x ∷ a) = cc (centred-times_left h c x, reduced-scale_by h c a)

pub scale_same : (h : ℕ) (c : ℤ) (a b : List ℤ) → reduced h a ≡ reduced h b → reduced h (scale c a) ≡ reduced h (scale c b)
scale_same h c a b e = sym (reduced-scale h c a) ∙ ap (λ t. reduced h (scale c t)) e ∙ reduced-scale h c b

last-reduced : (h : ℕ) (x : ℤ) (a : List ℤ) → last (centred h x) (reduced h a) ≡ centred h (last x a)
unfolding reduced last
last-reduced h x [] = refl
last-reduced h x (y ∷ a) = last-reduced h y a

reduced-behind : (h : ℕ) (x : ℤ) (a : List ℤ) → reduced h (behind x a) ≡ behind (centred h x) (reduced h a)
unfolding reduced behind
reduced-behind h x [] = refl
reduced-behind h x (y ∷ a) = cc (reduced-behind h y a)

pub reduced-shift : (h : ℕ) (a : List ℤ) → reduced h (shift (reduced h a)) ≡ reduced h (shift a)
unfolding reduced shift
reduced-shift h [] = refl
reduced-shift h (x ∷ a) =
    let l = last-reduced h x a in
    let m = centred-centred h (last x a) in
    let n = centred-plus_left h x (centred h (last x a)) ∙ centred-plus_right h x (last x a) in
    let p = reduced-behind h (centred h x +ℤ last (centred h x) (reduced h a)) (reduced h a) in
    let q = reduced-reduced h a in
    let r = reduced-behind h (x +ℤ last x a) a in
    cc

pub shift_same : (h : ℕ) (a b : List ℤ) → reduced h a ≡ reduced h b → reduced h (shift a) ≡ reduced h (shift b)
shift_same h a b e = sym (reduced-shift h a) ∙ ap (λ t. reduced h (shift t)) e ∙ reduced-shift h b

pub reduced-times_right : (h : ℕ) (a b : List ℤ) → reduced h (times a (reduced h b)) ≡ reduced h (times a b)
unfolding times
reduced-times_right h [] b = reduced-scale h (pos 0) b
reduced-times_right h (x ∷ a) b =
    let i = sym (reduced-times_right h a (shift (reduced h b))) ∙ ap (λ t. reduced h (times a t)) (reduced-shift h b) ∙ reduced-times_right h a (shift b) in
    reduced-plus h (scale x (reduced h b)) (scale x b) (times a (shift (reduced h b))) (times a (shift b)) (reduced-scale h x b) i

pub reduced-times_left : (h : ℕ) (a b : List ℤ) → reduced h (times (reduced h a) b) ≡ reduced h (times a b)
unfolding times reduced
reduced-times_left h [] b = refl
reduced-times_left h (x ∷ a) b =
    reduced-plus h (scale (centred h x) b) (scale x b) (times (reduced h a) (shift b)) (times a (shift b)) (reduced-scale_by h x b) (reduced-times_left h a (shift b))

pub times_same : (h : ℕ) (a b c d : List ℤ) → reduced h a ≡ reduced h b → reduced h c ≡ reduced h d → reduced h (times a c) ≡ reduced h (times b d)
times_same h a b c d e f =
    sym (reduced-times_left h a c) ∙ sym (reduced-times_right h (reduced h a) c) ∙ ap (λ t. reduced h (times t (reduced h c))) e
    ∙ ap (λ t. reduced h (times (reduced h b) t)) f ∙ reduced-times_right h (reduced h b) d ∙ reduced-times_left h b d

pub reduced-subtracted : (h : ℕ) (c : ℤ) (a b : List ℤ) → reduced h (plus a (scale (neg_ℤ (centred h c)) b)) ≡ reduced h (plus a (scale (neg_ℤ c) b))
reduced-subtracted h c a b =
    reduced-plus h a a (scale (neg_ℤ (centred h c)) b) (scale (neg_ℤ c) b) refl
    (sym (reduced-scale_by h (neg_ℤ (centred h c)) b) ∙ ap (λ t. reduced h (scale t b)) (centred-neg_ℤ h c) ∙ reduced-scale_by h (neg_ℤ c) b)

-- Elements by their coefficients.
use Rattle.std.proofs.Common.{◌≡◌, ℕ, zero, suc, ◌<◌, List, [], ◌∷◌, length, drop, ℤ, pos, ◌+ℤ◌, ◌*ℤ◌, refl, sym, ap, ◌∙◌, arith, All}
use Rattle.std.proofs.lemmas.Int.{ints}
use Rattle.std.proofs.lemmas.List.{ext_get_or, length-map}
use Rattle.std.proofs.lemmas.List.Elements.{All-from_get_or, All-take, All-drop}
use lib.Lanes.{chunk}
use Rattle.ntru_ring.specs.Ring.{plus, scale, last, behind, shift, zero_of, coefficient}
use Rattle.ntru_ring.specs.Reduction.{centred, reduced, IsWithin}
use Rattle.ntru_ring.specs.Small.{nearest, rounded}
use Rattle.ntru_ring.proofs.Numbers.Centred.{centred_keeps}
use Rattle.ntru_ring.proofs.Numbers.Ranges.{within_zero}

pub same_places : (a b : List ℤ) → length a ≡ length b → ((k : ℕ) → k < length a → coefficient a k ≡ coefficient b k) → a ≡ b
same_places a b e h = ext_get_or (pos 0) a b e h

pub within_places : (h : ℕ) (a : List ℤ) → ((k : ℕ) → k < length a → IsWithin h (coefficient a k)) → All (IsWithin h) a
within_places h a w = All-from_get_or (IsWithin h) a (pos 0) w

pub chunk_within : (h i n : ℕ) (a : List ℤ) → All (IsWithin h) a → All (IsWithin h) (chunk i n a)
chunk_within h i n a w = All-take (IsWithin h) n (drop i a) (All-drop (IsWithin h) i a w)

pub coefficient_within : (h : ℕ) (a : List ℤ) (k : ℕ) → All (IsWithin h) a → IsWithin h (coefficient a k)
coefficient_within h [] k w = within_zero h
coefficient_within h (x ∷ a) zero w = w 0 (pos 0) (omega arith)
coefficient_within h (x ∷ a) (suc k) w = coefficient_within h a k (λ j d l. w (suc j) d (omega arith))

pub coefficient-plus : (a b : List ℤ) (k : ℕ) → length a ≡ length b → coefficient (plus a b) k ≡ coefficient a k +ℤ coefficient b k
unfolding plus
coefficient-plus [] [] k e = refl
coefficient-plus [] (y ∷ b) k e = absurd (omega arith)
coefficient-plus (x ∷ a) [] k e = absurd (omega arith)
coefficient-plus (x ∷ a) (y ∷ b) zero e = refl
coefficient-plus (x ∷ a) (y ∷ b) (suc k) e = coefficient-plus a b k (omega arith)

pub coefficient-scale : (c : ℤ) (a : List ℤ) (k : ℕ) → coefficient (scale c a) k ≡ c *ℤ coefficient a k
unfolding scale
coefficient-scale c [] k = omega (arith, ints)
coefficient-scale c (x ∷ a) zero = refl
coefficient-scale c (x ∷ a) (suc k) = coefficient-scale c a k

pub coefficient-reduced : (h : ℕ) (a : List ℤ) (k : ℕ) → coefficient (reduced h a) k ≡ centred h (coefficient a k)
unfolding reduced
coefficient-reduced h [] k = sym (centred_keeps h (pos 0) (within_zero h))
coefficient-reduced h (x ∷ a) zero = refl
coefficient-reduced h (x ∷ a) (suc k) = coefficient-reduced h a k

pub coefficient-zero_of : (n k : ℕ) → coefficient (zero_of n) k ≡ pos 0
unfolding zero_of
coefficient-zero_of zero k = refl
coefficient-zero_of (suc n) zero = refl
coefficient-zero_of (suc n) (suc k) = coefficient-zero_of n k

last_is : (x : ℤ) (a : List ℤ) → last x a ≡ coefficient (x ∷ a) (length a)
unfolding last
last_is x [] = refl
last_is x (y ∷ a) = last_is y a

coefficient-behind : (x : ℤ) (a : List ℤ) (k : ℕ) → k < length a → coefficient (behind x a) k ≡ coefficient (x ∷ a) k
unfolding behind
coefficient-behind x [] k h = absurd (omega arith)
coefficient-behind x (y ∷ a) zero h = refl
coefficient-behind x (y ∷ a) (suc k) h = coefficient-behind y a k (omega arith)

-- the coefficients of x * a, for a of n + 2 coefficients
pub coefficient-shift_first : (a : List ℤ) (n : ℕ) → length a ≡ suc n → coefficient (shift a) 0 ≡ coefficient a n
unfolding shift
coefficient-shift_first [] n e = absurd (omega arith)
coefficient-shift_first (x ∷ a) n e = let m : length a ≡ n = omega arith in last_is x a ∙ ap (coefficient (x ∷ a)) m

pub coefficient-shift_second : (a : List ℤ) (n : ℕ) → length a ≡ suc (suc n) → coefficient (shift a) 1 ≡ coefficient a 0 +ℤ coefficient a (suc n)
unfolding shift
coefficient-shift_second [] n e = absurd (omega arith)
coefficient-shift_second (x ∷ a) n e =
    let m : length a ≡ suc n = omega arith in
    coefficient-behind (x +ℤ last x a) a 0 (omega arith) ∙ ap (λ t. x +ℤ t) (last_is x a ∙ ap (coefficient (x ∷ a)) m)

pub coefficient-shift_rest : (a : List ℤ) (k : ℕ) → suc (suc k) < length a → coefficient (shift a) (suc (suc k)) ≡ coefficient a (suc k)
unfolding shift
coefficient-shift_rest [] k h = absurd (omega arith)
coefficient-shift_rest (x ∷ a) k h = coefficient-behind (x +ℤ last x a) a (suc k) (omega arith)

pub coefficient-rounded : (a : List ℤ) (k : ℕ) → k < length a → coefficient (rounded a) k ≡ nearest (coefficient a k)
unfolding rounded
coefficient-rounded [] k l = absurd (omega arith)
coefficient-rounded (x ∷ a) zero l = refl
coefficient-rounded (x ∷ a) (suc k) l = coefficient-rounded a k (omega arith)

pub length-rounded : (a : List ℤ) → length (rounded a) ≡ length a
unfolding rounded
length-rounded a = length-map a nearest

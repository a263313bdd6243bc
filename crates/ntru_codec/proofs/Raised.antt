-- Coefficients as numbers, and multiples of 3.
use Rattle.std.proofs.Common.{◌≡◌, ℕ, ◌+◌, ◌-◌, ◌*◌, ◌/◌, ◌%◌, ◌<◌, List, length, map, get_or, ℤ, pos, negsuc, ◌+ℤ◌, ◌-ℤ◌, refl, ap, sym, ◌∙◌, subst, unsigned_abs, arith}
use Rattle.std.specs.List.{All}
use Rattle.std.proofs.lemmas.Int.{ints, int_rem_euclid_is}
use Rattle.std.proofs.lemmas.List.{length-map, get_or-map}
use Rattle.std.proofs.lemmas.List.Elements.{All-from_get_or}
use Rattle.ntru_ring.specs.Reduction.{centred, IsWithin}
use Rattle.ntru_ring.specs.Small.{nearest, rounded}
use Rattle.ntru_codec.specs.Elements.{raised, lowered, third, tripled, IsMultipleOf3}

-- a coefficient as a number
pub raised-is : (c : ℤ) → IsWithin 2295 c → pos (raised c) ≡ c +ℤ pos 2295
unfolding raised
raised-is (pos n) w = refl
raised-is (negsuc n) w =
    let e : negsuc n +ℤ pos 2295 ≡ pos (2294 - n) = omega (arith, ints, w.low) in
    ap (λ z. pos (unsigned_abs z)) e ∙ sym e

pub raised-below : (c : ℤ) → IsWithin 2295 c → raised c < 4591
raised-below c w = let e = raised-is c w in omega (arith, ints, w.low, w.high)

pub lowered-raised : (c : ℤ) → IsWithin 2295 c → lowered (raised c) ≡ c
unfolding lowered
lowered-raised c w = let e = raised-is c w in omega (arith, ints)

pub lowered-within : (v : ℕ) → v < 4591 → IsWithin 2295 (lowered v)
unfolding lowered
lowered-within v h = record { low = omega (arith, ints); high = omega (arith, ints) }

-- multiples of 3: the remainder modulo 3, by a natural number that differs by a multiple of 3
remainder-is : (z : ℤ) (k m : ℕ) → z +ℤ pos 1 +ℤ pos (k * 3) ≡ pos m → centred 1 z ≡ pos (m % 3) -ℤ pos 1
unfolding centred
remainder-is z k m e = ap (λ t. t -ℤ pos 1) (int_rem_euclid_is (z +ℤ pos 1) (pos 3) 3 k m (omega arith) refl e)

pub raised-multiple : (c : ℤ) → IsWithin 2295 c → IsMultipleOf3 c → 3 * (raised c / 3) ≡ raised c
raised-multiple c w h =
    let e = raised-is c w in
    let r = remainder-is c 765 (raised c + 1) (omega (arith, ints)) in
    let one : (raised c + 1) % 3 ≡ 1 = omega (arith, ints) in
    omega arith

pub tripled-third : (c : ℤ) → IsWithin 2295 c → IsMultipleOf3 c → tripled (third c) ≡ c
unfolding tripled third
tripled-third c w h = ap lowered (raised-multiple c w h) ∙ lowered-raised c w

pub third-below : (c : ℤ) → IsWithin 2295 c → third c < 1531
unfolding third
third-below c w = let b = raised-below c w in omega arith

pub tripled-multiple : (v : ℕ) → v < 1531 → IsMultipleOf3 (tripled v)
unfolding tripled lowered
tripled-multiple v h = remainder-is (pos (3 * v) -ℤ pos 2295) 765 (3 * v + 1) (omega (arith, ints)) ∙ (let e : (3 * v + 1) % 3 ≡ 1 = omega arith in rw e refl)

pub nearest-multiple : (c : ℤ) → IsWithin 2295 c → IsMultipleOf3 (nearest c)
unfolding nearest
nearest-multiple c w =
    let e = raised-is c w in
    let m = raised c + 1 in
    let r = remainder-is c 765 m (omega (arith, ints)) in
    let s = remainder-is (c -ℤ centred 1 c) 765 (m - m % 3 + 1) (omega (arith, ints)) in
    let one : (m - m % 3 + 1) % 3 ≡ 1 = omega arith in
    s ∙ (rw one refl)

pub rounded-multiples : (a : List ℤ) → All (IsWithin 2295) a → All IsMultipleOf3 (rounded a)
unfolding rounded
rounded-multiples a w =
    All-from_get_or IsMultipleOf3 (map nearest a) (pos 0) (λ i h.
    let here : i < length a = let long = length-map a nearest in omega arith in
    subst IsMultipleOf3 (sym (get_or-map nearest a i (pos 0) (pos 0) here)) (nearest-multiple (get_or a i (pos 0)) (w i (pos 0) here)))

pub tripled-within : (v : ℕ) → v < 1531 → IsWithin 2295 (tripled v)
unfolding tripled
tripled-within v h = lowered-within (3 * v) (omega arith)

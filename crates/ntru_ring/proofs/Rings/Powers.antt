-- The powers of x times an element, as rows of one array, and sums of them.
use Rattle.std.proofs.Common.{◌≡◌, ◌≢◌, inl, inr, ℕ, zero, suc, ◌+◌, ◌-◌, ◌<◌, ◌≤◌, List, [], ◌∷◌, ◌++◌, length, get_or, set, take, ℤ, pos, ◌+ℤ◌, ◌*ℤ◌, refl, sym, ap, ◌∙◌, arith, All, subst, length-append, get_or-set_same, get_or-set_other, length-set}
use Rattle.std.proofs.Math.IntN.{+ℤ_comm}
use Rattle.std.proofs.Math.ListN.{get_or-append}
use Rattle.std.proofs.Math.Seq.{get_or-append_seam}
use Rattle.std.proofs.lemmas.Bool.{cases_lt}
use Rattle.std.proofs.lemmas.List.{map-append, drop-set-lt}
use Rattle.std.proofs.lemmas.Simd.{length-chunk, get_or-chunk}
use lib.Lanes.{chunk}
use Rattle.ntru_ring.specs.Ring.{plus, scale, shift, zero_of, coefficient}
use Rattle.ntru_ring.specs.Reduction.{centred, reduced, IsWithin}
use Rattle.ntru_ring.specs.Powers.{rotated, power, total, IsRow}
use Rattle.ntru_ring.proofs.Numbers.Centred.{centred_keeps}
use Rattle.ntru_ring.proofs.Rings.Algebra.{length-plus, length-shift, length-zero_of, plus_assoc, plus_scale_zero, scale_one}
use Rattle.ntru_ring.proofs.Rings.Congruence.{length-reduced, reduced_within, reduced-plus}
use Rattle.ntru_ring.proofs.Rings.Places.{same_places, chunk_within, coefficient_within, coefficient-reduced, coefficient-shift_first, coefficient-shift_second, coefficient-shift_rest}

-- ---- the coefficient of x^0 after the others
plus_snoc : (a b : List ℤ) (x y : ℤ) → length a ≡ length b → plus (a ++ (x ∷ [])) (b ++ (y ∷ [])) ≡ plus a b ++ ((x +ℤ y) ∷ [])
unfolding plus
plus_snoc [] [] x y e = refl
plus_snoc [] (v ∷ b) x y e = absurd (omega arith)
plus_snoc (u ∷ a) [] x y e = absurd (omega arith)
plus_snoc (u ∷ a) (v ∷ b) x y e = ap (λ t. (u +ℤ v) ∷ t) (plus_snoc a b x y (omega arith))

pub rotated-plus : (a b : List ℤ) → length a ≡ length b → rotated (plus a b) ≡ plus (rotated a) (rotated b)
unfolding rotated plus
rotated-plus [] [] e = refl
rotated-plus [] (y ∷ b) e = absurd (omega arith)
rotated-plus (x ∷ a) [] e = absurd (omega arith)
rotated-plus (x ∷ a) (y ∷ b) e = sym (plus_snoc a b x y (omega arith))

pub rotated-scale : (c : ℤ) (a : List ℤ) → rotated (scale c a) ≡ scale c (rotated a)
unfolding rotated scale
rotated-scale c [] = refl
rotated-scale c (x ∷ a) = sym (map-append (λ y. c *ℤ y) a (x ∷ []))

pub rotated-reduced : (h : ℕ) (a : List ℤ) → rotated (reduced h a) ≡ reduced h (rotated a)
unfolding rotated reduced
rotated-reduced h [] = refl
rotated-reduced h (x ∷ a) = sym (map-append (centred h) a (x ∷ []))

pub length-rotated : (a : List ℤ) → length (rotated a) ≡ length a
unfolding rotated
length-rotated [] = refl
length-rotated (x ∷ a) = let e = length-append a (x ∷ []) in omega arith

pub coefficient-rotated : (a : List ℤ) (k : ℕ) → suc k < length a → coefficient (rotated a) k ≡ coefficient a (suc k)
unfolding rotated
coefficient-rotated [] k l = absurd (omega arith)
coefficient-rotated (x ∷ a) k l = get_or-append a (x ∷ []) (pos 0) k (omega arith)

pub coefficient-rotated_last : (a : List ℤ) (n : ℕ) → length a ≡ suc n → coefficient (rotated a) n ≡ coefficient a 0
unfolding rotated
coefficient-rotated_last [] n e = absurd (omega arith)
coefficient-rotated_last (x ∷ a) n e = let m : n ≡ length a = omega arith in ap (coefficient (a ++ (x ∷ []))) m ∙ get_or-append_seam a x [] (pos 0)

-- what begins as the coefficients after that of x^0, and ends with it
pub rotated_is : (row a : List ℤ) (n : ℕ) → length row ≡ suc n → length a ≡ suc n → ((k : ℕ) → k < n → coefficient row k ≡ coefficient a (suc k)) → coefficient row n ≡ coefficient a 0 → row ≡ rotated a
rotated_is row a n e f front last =
    same_places row (rotated a) (e ∙ sym (length-rotated a ∙ f))
    (λ k l. elim (cases_lt k n) [
      | inl h ↦ front k h ∙ sym (coefficient-rotated a k (omega arith))
      | inr h ↦ let s : k ≡ n = omega arith in ap (coefficient row) s ∙ last ∙ sym (coefficient-rotated_last a n f) ∙ ap (coefficient (rotated a)) (sym s)
    ])

-- an element is known by its rotated one
pub rotated_same : (a b : List ℤ) (n : ℕ) → length a ≡ suc n → length b ≡ suc n → rotated a ≡ rotated b → a ≡ b
rotated_same a b n e f r = same_places a b (e ∙ sym f) (λ k l. at k (omega arith))
  where
    at : (k : ℕ) → k < suc n → coefficient a k ≡ coefficient b k
    at zero l = sym (coefficient-rotated_last a n e) ∙ ap (λ t. coefficient t n) r ∙ coefficient-rotated_last b n f
    at (suc k) l = sym (coefficient-rotated a k (omega arith)) ∙ ap (λ t. coefficient t k) r ∙ coefficient-rotated b k (omega arith)

-- ---- the powers
pub length-power : (k : ℕ) (a : List ℤ) → length (power k a) ≡ length a
unfolding power
length-power zero a = refl
length-power (suc k) a = length-reduced 2295 (shift (power k a)) ∙ length-shift (power k a) ∙ length-power k a

pub power_within : (k : ℕ) (a : List ℤ) → All (IsWithin 2295) a → All (IsWithin 2295) (power k a)
unfolding power
power_within zero a w = w
power_within (suc k) a w = reduced_within 2295 (shift (power k a))

-- the row before another is x times it
module _ (z a : List ℤ) (at : ℕ) (v : ℤ) (e : length z ≡ 1521) (f : length a ≡ 761) (w : All (IsWithin 2295) a) (l : at + 1 ≤ 760) (r : chunk (at + 1) 761 z ≡ rotated a)
    (g : v ≡ centred 2295 (coefficient z (at + 760) +ℤ coefficient z (at + 761))) where
  there : (j : ℕ) → j < 760 → coefficient z (at + 1 + j) ≡ coefficient a (suc j)
  there j h = sym (get_or-chunk (at + 1) 761 z j (pos 0) (omega arith)) ∙ ap (λ t. coefficient t j) r ∙ coefficient-rotated a j (omega (arith, f))

  last_there : coefficient z (at + 1 + 760) ≡ coefficient a 0
  last_there = sym (get_or-chunk (at + 1) 761 z 760 (pos 0) (omega arith)) ∙ ap (λ t. coefficient t 760) r ∙ coefficient-rotated_last a 760 f

  kept : (k : ℕ) → coefficient a k ≡ centred 2295 (coefficient a k)
  kept k = sym (centred_keeps 2295 (coefficient a k) (coefficient_within 2295 a k w))

  new_length : length (set z at v) ≡ 1521
  new_length = length-set z at v ∙ e

  new_at : (k : ℕ) → k < 761 → coefficient (chunk at 761 (set z at v)) k ≡ coefficient (set z at v) (at + k)
  new_at k h = get_or-chunk at 761 (set z at v) k (pos 0) h

  front : (k : ℕ) → k < 760 → coefficient (chunk at 761 (set z at v)) k ≡ coefficient (reduced 2295 (shift a)) (suc k)
  front zero h =
      let s : at + 0 ≡ at = omega arith in
      let p : at + 760 ≡ at + 1 + 759 = omega arith in
      let q : at + 761 ≡ at + 1 + 760 = omega arith in
      new_at 0 (omega arith) ∙ ap (coefficient (set z at v)) s ∙ get_or-set_same z at v (pos 0) (omega (arith, e)) ∙ g
      ∙ ap (λ t. centred 2295 (t +ℤ coefficient z (at + 761))) (ap (coefficient z) p ∙ there 759 (omega arith))
      ∙ ap (λ t. centred 2295 (coefficient a 760 +ℤ t)) (ap (coefficient z) q ∙ last_there) ∙ ap (centred 2295) (+ℤ_comm (coefficient a 760) (coefficient a 0))
      ∙ sym (coefficient-reduced 2295 (shift a) 1 ∙ ap (centred 2295) (coefficient-shift_second a 759 f))
  front (suc k) h =
      let n : at + suc k ≢ at = omega arith in
      let s : at + suc k ≡ at + 1 + k = omega arith in
      new_at (suc k) (omega arith) ∙ get_or-set_other z at (at + suc k) v (pos 0) n ∙ ap (coefficient z) s ∙ there k (omega arith) ∙ kept (suc k)
      ∙ sym (coefficient-reduced 2295 (shift a) (suc (suc k)) ∙ ap (centred 2295) (coefficient-shift_rest a k (omega (arith, f))))

  last_new : coefficient (chunk at 761 (set z at v)) 760 ≡ coefficient (reduced 2295 (shift a)) 0
  last_new =
      let n : at + 760 ≢ at = omega arith in
      let s : at + 760 ≡ at + 1 + 759 = omega arith in
      new_at 760 (omega arith) ∙ get_or-set_other z at (at + 760) v (pos 0) n ∙ ap (coefficient z) s ∙ there 759 (omega arith) ∙ kept 760
      ∙ sym (coefficient-reduced 2295 (shift a) 0 ∙ ap (centred 2295) (coefficient-shift_first a 760 f))

  pub next_row : chunk at 761 (set z at v) ≡ rotated (reduced 2295 (shift a))
  next_row =
      rotated_is (chunk at 761 (set z at v)) (reduced 2295 (shift a)) 760 (length-chunk at 761 (set z at v) (omega (arith, new_length)))
      (length-reduced 2295 (shift a) ∙ length-shift a ∙ f) front last_new

pub power_none : (a : List ℤ) → power 0 a ≡ a
unfolding power
power_none a = refl

-- the rows of the powers up to one more, where they are those up to k
pub rows_more : (z a : List ℤ) (k : ℕ) (v : ℤ) → length z ≡ 1521 → length a ≡ 761 → All (IsWithin 2295) a → k < 760 → v ≡ centred 2295 (coefficient z (759 - k + 760) +ℤ coefficient z (759 - k + 761))
    → ((j : ℕ) → j ≤ k → chunk (760 - j) 761 z ≡ rotated (power j a)) → (j : ℕ) → j ≤ k + 1 → chunk (760 - j) 761 (set z (759 - k) v) ≡ rotated (power j a)
unfolding power
rows_more z a k v e f w l g h j m = elim (cases_lt j (k + 1)) [
  | inl p ↦ ap (take 761) (drop-set-lt (760 - j) z (759 - k) v (omega arith)) ∙ h j (omega arith)
  | inr p ↦
      let at = 759 - k in
      let s : at + 1 ≡ 760 - k = omega arith in
      let t : 760 - j ≡ at = omega arith in
      let u : suc k ≡ j = omega arith in
      ap (λ i. chunk i 761 (set z at v)) t
      ∙ next_row z (power k a) at v e (length-power k a ∙ f) (power_within k a w) (omega arith) (ap (λ i. chunk i 761 z) s ∙ h k (omega arith)) g
      ∙ ap (λ i. rotated (power i a)) u
]

-- ---- sums of rows
row_is : (z : List ℤ) (start : ℕ) → length z ≡ 1521 → All (IsWithin 2295) z → start ≤ 760 → IsRow (chunk start 761 z)
row_is z start e w l = record { length = length-chunk start 761 z (omega (arith, e)); within = chunk_within 2295 start 761 z w }

pub row_along : (row z : List ℤ) (start : ℕ) → row ≡ chunk start 761 z → length z ≡ 1521 → All (IsWithin 2295) z → start ≤ 760 → IsRow row
row_along row z start e f w l = subst IsRow (sym e) (row_is z start f w l)

pub total_none : (z : List ℤ) (starts : List ℕ) → total z starts 0 ≡ zero_of 761
unfolding total
total_none z starts = refl

pub total-set : (z : List ℤ) (starts : List ℕ) (i v n : ℕ) → n ≤ i → total z (set starts i v) n ≡ total z starts n
unfolding total
total-set z starts i v zero l = refl
total-set z starts i v (suc n) l =
    let ne : n ≢ i = omega arith in
    ap (λ t. plus t (chunk (get_or (set starts i v) n 0) 761 z)) (total-set z starts i v n (omega arith))
    ∙ ap (λ t. plus (total z starts n) (chunk t 761 z)) (get_or-set_other starts i n v 0 ne)

pub length-total : (z : List ℤ) (starts : List ℕ) (n : ℕ) → length z ≡ 1521 → ((k : ℕ) → get_or starts k 0 ≤ 760) → length (total z starts n) ≡ 761
unfolding total
length-total z starts zero e s = length-zero_of 761
length-total z starts (suc n) e s =
    let r = length-chunk (get_or starts n 0) 761 z (omega (arith, e, s n)) in
    length-plus (total z starts n) (chunk (get_or starts n 0) 761 z) (length-total z starts n e s ∙ sym r) ∙ r

-- a start that is added once or not at all
pub total_pushed : (z : List ℤ) (starts : List ℕ) (i v b : ℕ) → b ≤ 1 → v ≤ 760 → i < length starts → length z ≡ 1521 → ((k : ℕ) → get_or starts k 0 ≤ 760)
    → total z (set starts i v) (i + b) ≡ plus (total z starts i) (scale (pos b) (chunk v 761 z))
unfolding total
total_pushed z starts i v zero l m h e s =
    let p : i + 0 ≡ i = omega arith in
    ap (total z (set starts i v)) p ∙ total-set z starts i v i (omega arith)
    ∙ sym (plus_scale_zero (total z starts i) (chunk v 761 z) (length-total z starts i e s ∙ sym (length-chunk v 761 z (omega (arith, e)))))
total_pushed z starts i v (suc zero) l m h e s =
    let p : i + 1 ≡ suc i = omega arith in
    ap (total z (set starts i v)) p ∙ ap (λ t. plus t (chunk (get_or (set starts i v) i 0) 761 z)) (total-set z starts i v i (omega arith))
    ∙ ap (λ t. plus (total z starts i) (chunk t 761 z)) (get_or-set_same starts i v 0 h) ∙ ap (plus (total z starts i)) (sym (scale_one (chunk v 761 z)))
total_pushed z starts i v (suc (suc b)) l m h e s = absurd (omega arith)

pub total_more : (z : List ℤ) (starts : List ℕ) (k : ℕ) → total z starts (k + 1) ≡ plus (total z starts k) (chunk (get_or starts k 0) 761 z)
unfolding total
total_more z starts k = let e : k + 1 ≡ suc k = omega arith in ap (total z starts) e

pub total_four : (z : List ℤ) (starts : List ℕ) (k : ℕ)
    → total z starts (k + 4) ≡ plus (total z starts k) (plus (plus (chunk (get_or starts k 0) 761 z) (chunk (get_or starts (k + 1) 0) 761 z)) (plus (chunk (get_or starts (k + 2) 0) 761 z) (chunk (get_or starts (k + 3) 0) 761 z)))
total_four z starts k =
    let row = λ (i : ℕ). chunk (get_or starts i 0) 761 z in
    let a : k + 4 ≡ k + 3 + 1 = omega arith in
    let b : k + 3 ≡ k + 2 + 1 = omega arith in
    let c : k + 2 ≡ k + 1 + 1 = omega arith in
    ap (total z starts) a ∙ total_more z starts (k + 3) ∙ ap (λ t. plus t (row (k + 3))) (ap (total z starts) b ∙ total_more z starts (k + 2) ∙ ap (λ t. plus t (row (k + 2))) (ap (total z starts) c ∙ total_more z starts (k + 1) ∙ ap (λ t. plus t (row (k + 1))) (total_more z starts k)))
    ∙ plus_assoc (plus (plus (total z starts k) (row k)) (row (k + 1))) (row (k + 2)) (row (k + 3))
    ∙ ap (λ t. plus t (plus (row (k + 2)) (row (k + 3)))) (plus_assoc (total z starts k) (row k) (row (k + 1)))
    ∙ plus_assoc (total z starts k) (plus (row k) (row (k + 1))) (plus (row (k + 2)) (row (k + 3)))

-- the sums with one row more, and with four
pub total_next : (t t' row z : List ℤ) (starts : List ℕ) (k i : ℕ) → i ≡ get_or starts k 0 → row ≡ chunk i 761 z → reduced 2295 t' ≡ reduced 2295 (plus t row)
    → reduced 2295 t ≡ reduced 2295 (total z starts k) → reduced 2295 t' ≡ reduced 2295 (total z starts (k + 1))
total_next t t' row z starts k i d e f g =
    f ∙ reduced-plus 2295 t (total z starts k) row (chunk (get_or starts k 0) 761 z) g (ap (reduced 2295) (e ∙ ap (λ n. chunk n 761 z) d)) ∙ ap (reduced 2295) (sym (total_more z starts k))

pub total_next_four : (t t' r0 r1 r2 r3 z : List ℤ) (starts : List ℕ) (k i0 i1 i2 i3 : ℕ) → i0 ≡ get_or starts k 0 → i1 ≡ get_or starts (k + 1) 0 → i2 ≡ get_or starts (k + 2) 0 → i3 ≡ get_or starts (k + 3) 0
    → r0 ≡ chunk i0 761 z → r1 ≡ chunk i1 761 z → r2 ≡ chunk i2 761 z → r3 ≡ chunk i3 761 z → reduced 2295 t' ≡ reduced 2295 (plus t (plus (plus r0 r1) (plus r2 r3)))
    → reduced 2295 t ≡ reduced 2295 (total z starts k) → reduced 2295 t' ≡ reduced 2295 (total z starts (k + 4))
total_next_four t t' r0 r1 r2 r3 z starts k i0 i1 i2 i3 d0 d1 d2 d3 e0 e1 e2 e3 f g =
    let row = λ (i : ℕ). chunk (get_or starts i 0) 761 z in
    let s0 : r0 ≡ row k = e0 ∙ ap (λ n. chunk n 761 z) d0 in
    let s1 : r1 ≡ row (k + 1) = e1 ∙ ap (λ n. chunk n 761 z) d1 in
    let s2 : r2 ≡ row (k + 2) = e2 ∙ ap (λ n. chunk n 761 z) d2 in
    let s3 : r3 ≡ row (k + 3) = e3 ∙ ap (λ n. chunk n 761 z) d3 in
    let p : plus (plus r0 r1) (plus r2 r3) ≡ plus (plus (row k) (row (k + 1))) (plus (row (k + 2)) (row (k + 3))) = cc in
    f ∙ reduced-plus 2295 t (total z starts k) (plus (plus r0 r1) (plus r2 r3)) (plus (plus (row k) (row (k + 1))) (plus (row (k + 2)) (row (k + 3)))) g (ap (reduced 2295) p)
    ∙ ap (reduced 2295) (sym (total_four z starts k))

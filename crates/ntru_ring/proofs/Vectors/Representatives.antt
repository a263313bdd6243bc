-- The representatives of a vector's lanes, as the code computes them in bits.
use Rattle.std.proofs.Common.{◌≡◌, inl, inr, ◌⊎◌, ℕ, zero, suc, ◌+◌, ◌-◌, ◌*◌, ◌%◌, ◌<◌, true, false, List, [], ◌∷◌, length, map, replicate, cond, ℤ, pos, negsuc, ◌+ℤ◌, ◌-ℤ◌, ◌≤ℤ◌, to_z, of_z, refl, sym, ap, ◌∙◌, arith, All, lit<}
use Rattle.std.proofs.lemmas.Int.{ints, to_z-of_z, by_lt_z, int_wrap_fits, wrapping_add_onto, wrapping_sub_onto}
use Rattle.std.proofs.lemmas.List.{length-map}
use Rattle.std.proofs.lemmas.List.Elements.{All-head, All-tail}
use Rattle.std.proofs.Math.Facts.{Fits-of_z}
use Rattle.std.specs.Int.{int_wrap}
use lib.Lanes.{zip2, sel_l, top}
use lib.Signed.{lt_z, ◌<ℤ◌}
use mir.Syntax.{w16}
use mir.Val.{SFits}
use Rattle.ntru_ring.specs.Reduction.{centred, reduced, IsWithin, IsNear}
use Rattle.ntru_ring.proofs.Numbers.Centred.{centred_keeps, centred_same}
use Rattle.ntru_ring.proofs.Numbers.Ranges.{within_sum, within_fits}
use Rattle.ntru_ring.proofs.Vectors.VectorsQ.{near_within}

-- ---- one lane's representative
raised : ℕ → ℕ
raised a = (a + cond (top 15 (cond (lt_z (to_z w16 a) (to_z w16 63241)) 65535 0)) 4591 0) % 65536

lowered : ℕ → ℕ
lowered a = (a + (65536 - cond (top 15 (cond (lt_z (to_z w16 2295) (to_z w16 a)) 65535 0)) 4591 0)) % 65536

within_4591 : IsWithin 4591 (pos 4591)
within_4591 = record { low = omega (arith, ints); high = omega (arith, ints) }

word_4591 : SFits w16 (pos 4591)
word_4591 = within_fits w16 4591 (pos 4591) within_4591 (lit< tt)

-- 4591 is added m times
IsStep : ℤ → ℕ → Type 0
IsStep z m = ((m ≡ 1) × (z <ℤ negsuc 2294)) ⊎ ((m ≡ 0) × (negsuc 2294 ≤ℤ z))

raised_is : (a : ℕ) (z : ℤ) → a < 65536 → to_z w16 a ≡ z → IsWithin 6967 z → (m : ℕ) × (to_z w16 (raised a) ≡ z +ℤ pos (m * 4591)) × IsStep z m
unfolding raised IsStep
raised_is a z l e h = by_lt_z z (negsuc 2294)
    (λ low.
    let t : lt_z (to_z w16 a) (negsuc 2294) ≡ true = ap (λ x. lt_z x (negsuc 2294)) e ∙ grind (arith, ints) in (
      1,
      ap (λ b. to_z w16 ((a + cond (top 15 (cond b 65535 0)) 4591 0) % 65536)) t ∙ wrapping_add_onto w16 a (pos 4591) l word_4591 ∙ ap (λ x. int_wrap w16 (x +ℤ pos 4591)) e
          ∙ int_wrap_fits w16 (z +ℤ pos 4591) (within_fits w16 11558 (z +ℤ pos 4591) (within_sum 6967 4591 z (pos 4591) h within_4591) (lit< tt)),
      inl (refl, low),
    ))
    (λ high.
    let t : lt_z (to_z w16 a) (negsuc 2294) ≡ false = ap (λ x. lt_z x (negsuc 2294)) e ∙ grind (arith, ints) in
    let same : (a + 0) % 65536 ≡ a = omega arith in
    let none : z ≡ z +ℤ pos 0 = omega (arith, ints) in
    (0, ap (λ b. to_z w16 ((a + cond (top 15 (cond b 65535 0)) 4591 0) % 65536)) t ∙ ap (to_z w16) same ∙ e ∙ none, inr (refl, high)))

lowered_is : (a : ℕ) (z : ℤ) → a < 65536 → to_z w16 a ≡ z → IsWithin 6967 z → (m : ℕ) × (to_z w16 (lowered a) ≡ z -ℤ pos (m * 4591)) × (((m ≡ 1) × (pos 2295 <ℤ z)) ⊎ ((m ≡ 0) × (z ≤ℤ pos 2295)))
unfolding lowered
lowered_is a z l e h = by_lt_z (pos 2295) z
    (λ above.
    let t : lt_z (pos 2295) (to_z w16 a) ≡ true = ap (lt_z (pos 2295)) e ∙ grind (arith, ints) in
    let w : IsWithin 6967 (z -ℤ pos 4591) = record { low = omega (arith, ints, above); high = omega (arith, ints, h.high) } in (
      1,
      ap (λ b. to_z w16 ((a + (65536 - cond (top 15 (cond b 65535 0)) 4591 0)) % 65536)) t ∙ wrapping_sub_onto w16 a (pos 4591) l word_4591 ∙ ap (λ x. int_wrap w16 (x -ℤ pos 4591)) e
          ∙ int_wrap_fits w16 (z -ℤ pos 4591) (within_fits w16 6967 (z -ℤ pos 4591) w (lit< tt)),
      inl (refl, above),
    ))
    (λ below.
    let t : lt_z (pos 2295) (to_z w16 a) ≡ false = ap (lt_z (pos 2295)) e ∙ grind (arith, ints) in
    let same : (a + (65536 - 0)) % 65536 ≡ a = omega arith in
    let none : z ≡ z -ℤ pos 0 = omega (arith, ints) in
    (0, ap (λ b. to_z w16 ((a + (65536 - cond (top 15 (cond b 65535 0)) 4591 0)) % 65536)) t ∙ ap (to_z w16) same ∙ e ∙ none, inr (refl, below)))

raised_small : (a : ℕ) → raised a < 65536
unfolding raised
raised_small a = omega arith

-- the sum of the steps is the representative
steps_within : (z : ℤ) (i j k : ℕ) → IsNear z → IsStep z i → IsStep (z +ℤ pos (i * 4591)) j
    → ((k ≡ 1) × (pos 2295 <ℤ (z +ℤ pos (i * 4591) +ℤ pos (j * 4591)))) ⊎ ((k ≡ 0) × ((z +ℤ pos (i * 4591) +ℤ pos (j * 4591)) ≤ℤ pos 2295))
    → IsWithin 2295 (z +ℤ pos (i * 4591) +ℤ pos (j * 4591) -ℤ pos (k * 4591))
unfolding IsStep
steps_within z i j k n (inl a) (inl b) (inl c) = record { low = omega (arith, ints, a.0, a.1, b.0, b.1, c.0, c.1, n.low, n.high); high = omega (arith, ints, a.0, a.1, b.0, b.1, c.0, c.1, n.low, n.high) }
steps_within z i j k n (inl a) (inl b) (inr c) = record { low = omega (arith, ints, a.0, a.1, b.0, b.1, c.0, c.1, n.low, n.high); high = omega (arith, ints, a.0, a.1, b.0, b.1, c.0, c.1, n.low, n.high) }
steps_within z i j k n (inl a) (inr b) (inl c) = record { low = omega (arith, ints, a.0, a.1, b.0, b.1, c.0, c.1, n.low, n.high); high = omega (arith, ints, a.0, a.1, b.0, b.1, c.0, c.1, n.low, n.high) }
steps_within z i j k n (inl a) (inr b) (inr c) = record { low = omega (arith, ints, a.0, a.1, b.0, b.1, c.0, c.1, n.low, n.high); high = omega (arith, ints, a.0, a.1, b.0, b.1, c.0, c.1, n.low, n.high) }
steps_within z i j k n (inr a) (inl b) c = absurd (omega (arith, ints, a.0, a.1, b.0, b.1))
steps_within z i j k n (inr a) (inr b) (inl c) = record { low = omega (arith, ints, a.0, a.1, b.0, b.1, c.0, c.1, n.low, n.high); high = omega (arith, ints, a.0, a.1, b.0, b.1, c.0, c.1, n.low, n.high) }
steps_within z i j k n (inr a) (inr b) (inr c) = record { low = omega (arith, ints, a.0, a.1, b.0, b.1, c.0, c.1, n.low, n.high); high = omega (arith, ints, a.0, a.1, b.0, b.1, c.0, c.1, n.low, n.high) }

step_within : (z : ℤ) (i : ℕ) → IsWithin 6967 z → IsStep z i → IsWithin 6967 (z +ℤ pos (i * 4591))
unfolding IsStep
step_within z i w (inl a) = record { low = omega (arith, ints, a.0, a.1, w.low); high = omega (arith, ints, a.0, a.1) }
step_within z i w (inr a) = record { low = omega (arith, ints, a.0, w.low); high = omega (arith, ints, a.0, w.high) }

representative : (z : ℤ) → IsNear z → to_z w16 (lowered (raised (raised (of_z w16 z)))) ≡ centred 2295 z
representative z n =
    let w = near_within z n in
    let s = within_fits w16 6967 z w (lit< tt) in
    let f : of_z w16 z < 65536 = (Fits-of_z s).fits in
    let a = raised_is (of_z w16 z) z f (to_z-of_z w16 z s) w in
    let u = step_within z a.0 w a.2 in
    let b = raised_is (raised (of_z w16 z)) (z +ℤ pos (a.0 * 4591)) (raised_small (of_z w16 z)) a.1 u in
    let v = step_within (z +ℤ pos (a.0 * 4591)) b.0 u b.2 in
    let c = lowered_is (raised (raised (of_z w16 z))) (z +ℤ pos (a.0 * 4591) +ℤ pos (b.0 * 4591)) (raised_small (raised (of_z w16 z))) b.1 v in
    let r = z +ℤ pos (a.0 * 4591) +ℤ pos (b.0 * 4591) -ℤ pos (c.0 * 4591) in
    c.1 ∙ sym (centred_keeps 2295 r (steps_within z a.0 b.0 c.0 n a.2 b.2 c.2)) ∙ centred_same 2295 r z c.0 (a.0 + b.0) (added z a.0 b.0 c.0)
  where
    added : (z : ℤ) (i j k : ℕ) → (z +ℤ pos (i * 4591) +ℤ pos (j * 4591) -ℤ pos (k * 4591)) +ℤ pos (k * 4591) ≡ z +ℤ pos ((i + j) * 4591)
    added z i j k = omega (arith, ints)

-- ---- the vector, as the code computes it
abbrev pub raised_l : ℕ → List ℕ → List ℕ
raised_l n a = zip2 (λ x y. (x + y) % 65536) a (sel_l (map (top 15) (zip2 (λ x y. cond (lt_z (to_z w16 x) (to_z w16 y)) 65535 0) a (replicate n 63241))) (replicate n 4591) (replicate n 0))

abbrev pub lowered_l : ℕ → List ℕ → List ℕ
lowered_l n a = zip2 (λ x y. (x + (65536 - y)) % 65536) a (sel_l (map (top 15) (zip2 (λ x y. cond (lt_z (to_z w16 x) (to_z w16 y)) 65535 0) (replicate n 2295) a)) (replicate n 4591) (replicate n 0))

raised_l-is : (n : ℕ) (a : List ℕ) → length a ≡ n → raised_l n a ≡ map raised a
unfolding raised
raised_l-is zero [] e = refl
raised_l-is (suc n) (x ∷ a) e = ap (λ t. raised x ∷ t) (raised_l-is n a (omega arith))
raised_l-is zero (x ∷ a) e = absurd (omega arith)
raised_l-is (suc n) [] e = absurd (omega arith)

lowered_l-is : (n : ℕ) (a : List ℕ) → length a ≡ n → lowered_l n a ≡ map lowered a
unfolding lowered
lowered_l-is zero [] e = refl
lowered_l-is (suc n) (x ∷ a) e = ap (λ t. lowered x ∷ t) (lowered_l-is n a (omega arith))
lowered_l-is zero (x ∷ a) e = absurd (omega arith)
lowered_l-is (suc n) [] e = absurd (omega arith)

representatives : (z : List ℤ) → All IsNear z → map (to_z w16) (map lowered (map raised (map raised (map (of_z w16) z)))) ≡ reduced 2295 z
unfolding reduced
representatives [] w = refl
representatives (x ∷ z) w = cc (representative x (All-head IsNear x z w), representatives z (All-tail IsNear x z w))

pub centred_lanes_is : (n : ℕ) (z : List ℤ) → length z ≡ n → All IsNear z → map (to_z w16) (lowered_l n (raised_l n (raised_l n (map (of_z w16) z)))) ≡ reduced 2295 z
centred_lanes_is n z e w =
    let a = map (of_z w16) z in
    let l = length-map z (of_z w16) ∙ e in
    let b = raised_l-is n a l in
    let m = ap length b ∙ length-map a raised ∙ l in
    let c = raised_l-is n (raised_l n a) m in
    let k = ap length c ∙ length-map (raised_l n a) raised ∙ m in
    ap (map (to_z w16)) (lowered_l-is n (raised_l n (raised_l n a)) k ∙ ap (map lowered) (c ∙ ap (map raised) b)) ∙ representatives z w

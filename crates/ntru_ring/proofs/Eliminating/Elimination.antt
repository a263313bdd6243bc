-- Elimination over lists of integers modulo 2h + 1.
use Rattle.std.proofs.Common.{◌≡◌, inl, inr, ℕ, ◌+◌, ◌<◌, ◌≤◌, List, length, get_or, ℤ, pos, neg_ℤ, ◌+ℤ◌, ◌*ℤ◌, refl, sym, ap, ◌∙◌, arith, subst}
use Rattle.std.proofs.lemmas.Int.{ints}
use Rattle.std.proofs.lemmas.Bool.{cases_lt}
use Rattle.std.proofs.lemmas.List.{get_or_default}
use Rattle.ntru_ring.specs.Ring.{plus, scale, times, coefficient}
use Rattle.ntru_ring.specs.Reduction.{centred, reduced}
use Rattle.ntru_ring.specs.Elimination.{IsMultiple, IsCombined, Parts, IsEchelon, AreMultiples}
use Rattle.ntru_ring.proofs.Rings.Algebra.{plus_comm, plus_assoc, length-scale, times-plus, times-scale}
use Rattle.ntru_ring.proofs.Numbers.Centred.{centred-plus_left, centred_keeps}
use Rattle.ntru_ring.proofs.Rings.Congruence.{reduced-plus, scale_same, times_same, reduced-reduced, reduced-times_right}
use Rattle.ntru_ring.proofs.Rings.Places.{coefficient-plus, coefficient-scale, coefficient-reduced}
use Rattle.ntru_ring.proofs.Numbers.Ranges.{within_zero}

-- ---- one row added to a combination
swap_last : (a b c : List ℤ) → plus (plus a b) c ≡ plus (plus a c) b
swap_last a b c = plus_assoc a b c ∙ ap (plus a) (plus_comm b c) ∙ sym (plus_assoc a c b)

pub combined_added : (h : ℕ) (g t a b rowa rowb a' b' : List ℤ) (c : ℤ) → length b ≡ length rowb → IsMultiple h g rowa rowb
    → reduced h a' ≡ reduced h (plus a (scale c rowa)) → reduced h b' ≡ reduced h (plus b (scale c rowb)) → IsCombined h g t a b → IsCombined h g t a' b'
combined_added h g t a b rowa rowb a' b' c n m p q i =
    let p1 = reduced-plus h (times g b') (times g (plus b (scale c rowb))) t t (times_same h g g b' (plus b (scale c rowb)) refl q) refl in
    let p2 = times-plus g b (scale c rowb) (n ∙ sym (length-scale c rowb)) ∙ ap (plus (times g b)) (times-scale g c rowb) in
    let p3 = reduced-plus h (plus (times g b) t) a (scale c (times g rowb)) (scale c rowa) i (scale_same h c (times g rowb) rowa m) in
    p1 ∙ ap (λ u. reduced h (plus u t)) p2 ∙ ap (reduced h) (swap_last (times g b) (scale c (times g rowb)) t) ∙ p3 ∙ sym p

sum_at : (h : ℕ) (a row a' : List ℤ) (c : ℤ) (k : ℕ) → length a ≡ length row → reduced h a' ≡ reduced h (plus a (scale c row))
    → centred h (coefficient a' k) ≡ centred h (coefficient a k +ℤ c *ℤ coefficient row k)
sum_at h a row a' c k n p =
    sym (coefficient-reduced h a' k) ∙ ap (λ t. coefficient t k) p ∙ coefficient-reduced h (plus a (scale c row)) k
    ∙ ap (centred h) (coefficient-plus a (scale c row) k (n ∙ sym (length-scale c row)) ∙ ap (λ t. coefficient a k +ℤ t) (coefficient-scale c row k))

-- where the row is zero, nothing changes
kept_at : (h : ℕ) (a row a' : List ℤ) (c : ℤ) (k : ℕ) → length a ≡ length row → reduced h a' ≡ reduced h (plus a (scale c row)) → coefficient row k ≡ pos 0
    → centred h (coefficient a' k) ≡ centred h (coefficient a k)
kept_at h a row a' c k n p z =
    let s : coefficient a k +ℤ c *ℤ pos 0 ≡ coefficient a k = omega (arith, ints) in
    sum_at h a row a' c k n p ∙ ap (λ t. centred h (coefficient a k +ℤ c *ℤ t)) z ∙ ap (centred h) s

-- where the row is 1, the coefficient is cleared
cleared_at : (h : ℕ) (a row a' : List ℤ) (c : ℤ) (k : ℕ) → length a ≡ length row → reduced h a' ≡ reduced h (plus a (scale c row)) → coefficient row k ≡ pos 1
    → c ≡ neg_ℤ (centred h (coefficient a k)) → centred h (coefficient a' k) ≡ pos 0
cleared_at h a row a' c k n p z e =
    let x = coefficient a k in
    let y = centred h x in
    let s : y +ℤ neg_ℤ y *ℤ pos 1 ≡ pos 0 = omega (arith, ints) in
    sum_at h a row a' c k n p ∙ ap (λ t. centred h (x +ℤ c *ℤ t)) z ∙ ap (λ t. centred h (x +ℤ t *ℤ pos 1)) e
    ∙ sym (centred-plus_left h x (neg_ℤ y *ℤ pos 1)) ∙ ap (centred h) s ∙ centred_keeps h (pos 0) (within_zero h)

-- ---- a pair of elements while it is cleared by the first j of count rows
pub record IsClearing (X : Type 0) (parts : Parts X) (h : ℕ) (rows : List X) (count : ℕ) (a b sums_a sums_b : List ℤ) (j : ℕ) : Type 0 where
  pub combined : (g t : List ℤ) → AreMultiples X parts h g rows count → IsCombined h g t a b → IsCombined h g t sums_a sums_b
  pub cleared : (i : ℕ) (d : X) → i < j → centred h (coefficient sums_a (parts.pivot (get_or rows i d))) ≡ pos 0
  pub kept : (k : ℕ) → count ≤ k → centred h (coefficient sums_b k) ≡ centred h (coefficient b k)

pub IsClearing-none : (X : Type 0) (parts : Parts X) (h : ℕ) (rows : List X) (count : ℕ) (a b sums_a sums_b : List ℤ) → sums_a ≡ a → sums_b ≡ b → IsClearing X parts h rows count a b sums_a sums_b 0
IsClearing-none X parts h rows count a b sums_a sums_b e f = record {
  combined = λ g t m i. ap (λ u. reduced h (plus (times g u) t)) f ∙ i ∙ ap (reduced h) (sym e);
  cleared = λ i d l. absurd (omega arith);
  kept = λ k l. ap (λ u. centred h (coefficient u k)) f;
}

pub IsClearing-more : (X : Type 0) (parts : Parts X) (h n : ℕ) (rows : List X) (count : ℕ) (a b sums_a sums_b sums_a' sums_b' : List ℤ) (j : ℕ) (r : X) (c : ℤ)
    → IsEchelon X parts rows count → j < count → count ≤ length rows → r ≡ get_or rows j r
    → coefficient (parts.a r) (parts.pivot r) ≡ pos 1 → ((k : ℕ) → parts.top r ≤ k → coefficient (parts.b r) k ≡ pos 0)
    → length (parts.a r) ≡ n → length (parts.b r) ≡ n → length sums_a ≡ n → length sums_b ≡ n
    → c ≡ neg_ℤ (centred h (coefficient sums_a (parts.pivot r)))
    → reduced h sums_a' ≡ reduced h (plus sums_a (scale c (parts.a r))) → reduced h sums_b' ≡ reduced h (plus sums_b (scale c (parts.b r)))
    → IsClearing X parts h rows count a b sums_a sums_b j → IsClearing X parts h rows count a b sums_a' sums_b' (j + 1)
IsClearing-more X parts h n rows count a b sums_a sums_b sums_a' sums_b' j r c ech l m is one trailing na nb sa sb e p q inv =
    let row = λ (d : X). get_or_default rows j d r (omega arith) ∙ sym is in
    record {
      combined = λ g t mul i.
          combined_added h g t sums_a sums_b (parts.a r) (parts.b r) sums_a' sums_b' c (sb ∙ sym nb)
          (subst (λ (x : X). IsMultiple h g (parts.a x) (parts.b x)) (row r) (mul j r l)) p q (inv.combined g t mul i);
      cleared = λ i d k. elim (cases_lt i j) [
        | inl u ↦
            let z = ap (λ (x : X). coefficient (parts.a x) (parts.pivot (get_or rows i d))) (sym (row r)) ∙ ech.cleared i j r d u l in
            kept_at h sums_a (parts.a r) sums_a' c (parts.pivot (get_or rows i d)) (sa ∙ sym na) p z ∙ inv.cleared i d u
        | inr u ↦
            let s : i ≡ j = omega arith in
            ap (λ (t : ℕ). centred h (coefficient sums_a' (parts.pivot (get_or rows t d)))) s ∙ ap (λ (x : X). centred h (coefficient sums_a' (parts.pivot x))) (row d)
            ∙ cleared_at h sums_a (parts.a r) sums_a' c (parts.pivot r) (sa ∙ sym na) p one e
      ];
      kept = λ k u.
          let t = subst (λ (x : X). parts.top x ≤ j + 1) (row r) (ech.tops j r l) in
          kept_at h sums_b (parts.b r) sums_b' c k (sb ∙ sym nb) q (trailing k (omega arith)) ∙ inv.kept k u;
    }

-- ---- a scaled multiple
pub scaled_multiple : (h : ℕ) (g a b a' b' : List ℤ) (c : ℤ) → a' ≡ reduced h (scale c a) → b' ≡ reduced h (scale c b) → IsMultiple h g a b → IsMultiple h g a' b'
scaled_multiple h g a b a' b' c p q m =
    ap (λ t. reduced h (times g t)) q ∙ reduced-times_right h g (scale c b) ∙ ap (reduced h) (times-scale g c b) ∙ scale_same h c (times g b) a m
    ∙ sym (reduced-reduced h (scale c a)) ∙ ap (reduced h) (sym p)

pub scaled_at : (h : ℕ) (a a' : List ℤ) (c : ℤ) (k : ℕ) → a' ≡ reduced h (scale c a) → coefficient a' k ≡ centred h (c *ℤ coefficient a k)
scaled_at h a a' c k p = ap (λ t. coefficient t k) p ∙ coefficient-reduced h (scale c a) k ∙ ap (centred h) (coefficient-scale c a k)

pub scaled_zero : (h : ℕ) (a a' : List ℤ) (c : ℤ) (k : ℕ) → a' ≡ reduced h (scale c a) → coefficient a k ≡ pos 0 → coefficient a' k ≡ pos 0
scaled_zero h a a' c k p z =
    let s : c *ℤ pos 0 ≡ pos 0 = omega (arith, ints) in
    scaled_at h a a' c k p ∙ ap (λ t. centred h (c *ℤ t)) z ∙ ap (centred h) s ∙ centred_keeps h (pos 0) (within_zero h)

-- a combination whose coefficients are reduced
pub combined_settled : (h : ℕ) (g t a b a' b' : List ℤ) → a' ≡ reduced h a → b' ≡ reduced h b → IsCombined h g t a b → IsCombined h g t a' b'
combined_settled h g t a b a' b' p q i =
    ap (λ u. reduced h (plus (times g u) t)) q ∙ reduced-plus h (times g (reduced h b)) (times g b) t t (reduced-times_right h g b) refl ∙ i ∙ sym (ap (reduced h) p ∙ reduced-reduced h a)

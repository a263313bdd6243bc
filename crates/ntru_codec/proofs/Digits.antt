-- Digits of two bits, and the bytes of four of them.
use Rattle.std.proofs.Common.{◌≡◌, ℕ, ◌+◌, ◌*◌, ◌/◌, ◌%◌, ◌^◌, ◌<◌, ◌≤◌, inl, inr, zero, suc, Bool, true, false, ◌==◌, Some, None, find, ℤ, pos, negsuc, ◌+ℤ◌, ◌-ℤ◌, refl, ap, sym, ◌∙◌, subst, unsigned_abs, to_z, of_z, arith}
use Rattle.std.specs.List.{range_with_len}
use Rattle.std.proofs.lemmas.Bool.{or_parts, or_from, and_left, and_right, and_cases, eqb-false, ne_eqb, ltb-false, le-ltb, cases_Bool, cases_eq, cond-true, cond-false}
use Rattle.std.proofs.lemmas.Int.{ints, to_z-of_z}
use mir.Syntax.{w16}
use Rattle.ntru_ring.specs.Reduction.{IsWithin}
use Rattle.ntru_codec.specs.Small.{digit, has_three, is_bad}

pub power-four : (n : ℕ) → n < 4 → 2 ^ (2 * n) ≡ 4 ^ n
power-four zero h = refl
power-four (suc zero) h = refl
power-four (suc (suc zero)) h = refl
power-four (suc (suc (suc zero))) h = refl
power-four (suc (suc (suc (suc n)))) h = absurd (omega arith)

-- the digit of a coefficient, and the coefficient of a digit
pub digit-small : (c : ℤ) → IsWithin 1 c → digit c ≤ 2
unfolding digit
digit-small (pos n) w = omega (arith, ints, w.low, w.high)
digit-small (negsuc n) w = omega (arith, ints, w.low, w.high)

pub digit-back : (c : ℤ) → IsWithin 1 c → pos (digit c) -ℤ pos 1 ≡ c
unfolding digit
digit-back (pos n) w = omega (arith, ints, w.low, w.high)
digit-back (negsuc zero) w = refl
digit-back (negsuc (suc n)) w = absurd (omega (arith, ints, w.low, w.high))

pub digit-of : (n : ℕ) → digit (pos n -ℤ pos 1) ≡ n
unfolding digit
digit-of n = ap unsigned_abs (let e : pos n -ℤ pos 1 +ℤ pos 1 ≡ pos n = omega (arith, ints) in e)

pub within-digit : (n : ℕ) → n ≤ 2 → IsWithin 1 (pos n -ℤ pos 1)
within-digit n h = record { low = omega (arith, ints); high = omega (arith, ints) }

-- the four digits of a byte
pub byte-0 : (a b c d : ℕ) → a ≤ 2 → b ≤ 2 → c ≤ 2 → d ≤ 2 → (a + 4 * b + 16 * c + 64 * d) % 4 ≡ a
byte-0 a b c d p q r s = omega arith

pub byte-1 : (a b c d : ℕ) → a ≤ 2 → b ≤ 2 → c ≤ 2 → d ≤ 2 → (a + 4 * b + 16 * c + 64 * d) / 4 % 4 ≡ b
byte-1 a b c d p q r s = omega arith

pub byte-2 : (a b c d : ℕ) → a ≤ 2 → b ≤ 2 → c ≤ 2 → d ≤ 2 → (a + 4 * b + 16 * c + 64 * d) / 16 % 4 ≡ c
byte-2 a b c d p q r s = omega arith

pub byte-3 : (a b c d : ℕ) → a ≤ 2 → b ≤ 2 → c ≤ 2 → d ≤ 2 → (a + 4 * b + 16 * c + 64 * d) / 64 % 4 ≡ d
byte-3 a b c d p q r s = omega arith

-- what a byte that isn't bad is
pub record IsGood (k n : ℕ) : Type 0 where
  pub digits : (j : ℕ) → j < 4 → n / 4 ^ j % 4 ≤ 2
  pub last : k ≡ 190 → n ≤ 2

not-three : (m : ℕ) → (m % 4 == 3) ≡ false → m % 4 ≤ 2
not-three m h = let ne = eqb-false (m % 4) 3 h in omega arith

pub good-from : (k n : ℕ) → is_bad k n ≡ false → IsGood k n
unfolding is_bad has_three
good-from k n h =
    let parts = or_parts _ _ h in
    let p3 = or_parts _ _ parts.0 in
    let p2 = or_parts _ _ p3.0 in
    let p1 = or_parts _ _ p2.0 in
    let d0 : n % 4 ≤ 2 = not-three n p1.0 in
    let d1 : n / 4 % 4 ≤ 2 = not-three (n / 4) p1.1 in
    let d2 : n / 16 % 4 ≤ 2 = not-three (n / 16) p2.1 in
    let d3 : n / 64 % 4 ≤ 2 = not-three (n / 64) p3.1 in
    record { digits = four n d0 d1 d2 d3; last = λ e. elim (and_cases _ _ parts.1) [ inl f ↦ absurd (eqb-false k 190 f e) | inr f ↦ let small = ltb-false 3 n f in omega arith ] }
  where
    four : (n : ℕ) → n % 4 ≤ 2 → n / 4 % 4 ≤ 2 → n / 16 % 4 ≤ 2 → n / 64 % 4 ≤ 2 → (j : ℕ) → j < 4 → n / 4 ^ j % 4 ≤ 2
    four n d0 d1 d2 d3 zero h = omega arith
    four n d0 d1 d2 d3 (suc zero) h = d1
    four n d0 d1 d2 d3 (suc (suc zero)) h = d2
    four n d0 d1 d2 d3 (suc (suc (suc zero))) h = d3
    four n d0 d1 d2 d3 (suc (suc (suc (suc j)))) h = absurd (omega arith)

-- a byte of four digits isn't bad
pub good-byte : (k a b c d : ℕ) → a ≤ 2 → b ≤ 2 → c ≤ 2 → d ≤ 2 → (k ≡ 190 → b + c + d ≡ 0) → is_bad k (a + 4 * b + 16 * c + 64 * d) ≡ false
unfolding is_bad has_three
good-byte k a b c d p q r s last =
    let n = a + 4 * b + 16 * c + 64 * d in
    let e0 = byte-0 a b c d p q r s in
    let e1 = byte-1 a b c d p q r s in
    let e2 = byte-2 a b c d p q r s in
    let e3 = byte-3 a b c d p q r s in
    or_from _ _
    (or_from _ _ (or_from _ _ (or_from _ _ (ne_eqb (n % 4) 3 (λ e. omega arith)) (ne_eqb (n / 4 % 4) 3 (λ e. omega arith))) (ne_eqb (n / 16 % 4) 3 (λ e. omega arith))) (ne_eqb (n / 64 % 4) 3 (λ e. omega arith)))
    (elim (cases_eq k 190) [
      | inl e ↦ let none = last e in and_right _ _ (le-ltb 3 n (omega arith))
      | inr ne ↦ and_left _ _ (ne_eqb k 190 ne)
    ])

-- the first place that passes a test
pub find-none : (p : ℕ → Bool) (n a : ℕ) → ((j : ℕ) → a ≤ j → j < a + n → p j ≡ false) → find p (range_with_len a n) ≡ None
find-none p zero a h = refl
find-none p (suc n) a h = cond-false (p a) _ _ (h a (omega arith) (omega arith)) ∙ find-none p n (a + 1) (λ j l u. h j (omega arith) (omega arith))

pub find-some : (p : ℕ → Bool) (n a k : ℕ) → a ≤ k → k < a + n → p k ≡ true → ((j : ℕ) → a ≤ j → j < k → p j ≡ false) → find p (range_with_len a n) ≡ Some k
find-some p zero a k l u t h = absurd (omega arith)
find-some p (suc n) a k l u t h =
    elim (cases_eq a k) [
      | inl e ↦ rw e (cond-true (p k) _ _ t)
      | inr ne ↦ cond-false (p a) _ _ (h a (omega arith) (omega arith)) ∙ find-some p n (a + 1) k (omega arith) (omega arith) t (λ j l' u'. h j (omega arith) u')
    ]

pub none-passes : (p : ℕ → Bool) (n a : ℕ) → find p (range_with_len a n) ≡ None → (j : ℕ) → a ≤ j → j < a + n → p j ≡ false
none-passes p zero a e j l u = absurd (omega arith)
none-passes p (suc n) a e j l u =
    elim (cases_Bool (p a)) [
      | inl t ↦ absurd (let s : Some a ≡ None = sym (cond-true (p a) (Some a) _ t) ∙ e in cc)
      | inr f ↦ elim (cases_eq a j) [
        | inl same ↦ subst (λ (i : ℕ). p i ≡ false) same f
        | inr ne ↦ none-passes p n (a + 1) (sym (cond-false (p a) _ _ f) ∙ e) j (omega arith) (omega arith)
      ]
    ]

-- a coefficient is itself again after it was stored
pub stored : (h : ℕ) (z : ℤ) → IsWithin h z → h < 2 ^ 15 → to_z w16 (of_z w16 z) ≡ z
stored h z r l = to_z-of_z w16 z (omega (arith, ints, r.low, r.high))

pub digit-stored : (z : ℤ) (n : ℕ) → IsWithin 1 z → n ≡ digit (to_z w16 (of_z w16 z)) → n ≡ digit z
digit-stored z n w e = e ∙ ap digit (stored 1 z w (omega arith))

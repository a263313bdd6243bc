-- The encoding of small elements and its decoding undo each other.
use Rattle.std.proofs.Common.{◌≡◌, ℕ, ◌+◌, ◌*◌, ◌/◌, ◌%◌, ◌^◌, ◌<◌, ◌≤◌, inl, inr, zero, suc, true, false, Some, None, List, length, map, get_or, set, ℤ, pos, ◌-ℤ◌, refl, ap, sym, ◌∙◌, subst, to_z, of_z, arith}
use mir.Syntax.{w16}
use Rattle.std.specs.List.{All}
use Rattle.std.proofs.lemmas.Bool.{cases_lt, cases_eq}
use Rattle.std.proofs.lemmas.List.{get_or-map, get_or_past, length-map}
use Rattle.std.proofs.lemmas.List.FromFn.{get_or-map-range_with_len, length-map-range_with_len, fill_by_all}
use Rattle.std.proofs.lemmas.List.Elements.{All-from_get_or}
use Rattle.std.proofs.lemmas.List.Edits.{fill_by_more}
use Rattle.ntru_ring.specs.Reduction.{IsWithin}
use Rattle.ntru_codec.specs.Small.{digit, digit_at, small_byte, small_encoded, small_coefficient, small_decoded, is_bad, first_bad}
use Rattle.ntru_codec.proofs.Digits.{stored, digit-small, digit-back, digit-of, within-digit, byte-0, byte-1, byte-2, byte-3, IsGood, good-from, good-byte, find-none, find-some, none-passes}

pub digit_at-in : (a : List ℤ) (i : ℕ) → i < length a → digit_at a i ≡ digit (get_or a i (pos 0))
digit_at-in a i h = get_or-map digit a i (pos 0) 0 h

pub digit_at-past : (a : List ℤ) (i : ℕ) → length a ≤ i → digit_at a i ≡ 0
digit_at-past a i h = get_or_past (map digit a) i 0 (rw length-map h)

pub digit_at-small : (a : List ℤ) → All (IsWithin 1) a → (i : ℕ) → digit_at a i ≤ 2
digit_at-small a w i =
    elim (cases_lt i (length a)) [
      | inl h ↦ let d = digit-small (get_or a i (pos 0)) (w i (pos 0) h) in let e = digit_at-in a i h in omega arith
      | inr h ↦ let e = digit_at-past a i h in omega arith
    ]

pub small_byte-digit : (a : List ℤ) → All (IsWithin 1) a → (k j i : ℕ) → j < 4 → i ≡ 4 * k + j → small_byte a k / 4 ^ j % 4 ≡ digit_at a i
unfolding small_byte
small_byte-digit a w k zero i h e =
    let d = byte-0 (digit_at a (4 * k)) (digit_at a (4 * k + 1)) (digit_at a (4 * k + 2)) (digit_at a (4 * k + 3)) (digit_at-small a w (4 * k)) (digit_at-small a w (4 * k + 1)) (digit_at-small a w (4 * k + 2)) (digit_at-small a w (4 * k + 3)) in
    let same : digit_at a (4 * k) ≡ digit_at a i = ap (digit_at a) (omega arith) in
    omega arith
small_byte-digit a w k (suc zero) i h e =
    byte-1 (digit_at a (4 * k)) (digit_at a (4 * k + 1)) (digit_at a (4 * k + 2)) (digit_at a (4 * k + 3)) (digit_at-small a w (4 * k)) (digit_at-small a w (4 * k + 1)) (digit_at-small a w (4 * k + 2)) (digit_at-small a w (4 * k + 3))
    ∙ ap (digit_at a) (sym e)
small_byte-digit a w k (suc (suc zero)) i h e =
    byte-2 (digit_at a (4 * k)) (digit_at a (4 * k + 1)) (digit_at a (4 * k + 2)) (digit_at a (4 * k + 3)) (digit_at-small a w (4 * k)) (digit_at-small a w (4 * k + 1)) (digit_at-small a w (4 * k + 2)) (digit_at-small a w (4 * k + 3))
    ∙ ap (digit_at a) (sym e)
small_byte-digit a w k (suc (suc (suc zero))) i h e =
    byte-3 (digit_at a (4 * k)) (digit_at a (4 * k + 1)) (digit_at a (4 * k + 2)) (digit_at a (4 * k + 3)) (digit_at-small a w (4 * k)) (digit_at-small a w (4 * k + 1)) (digit_at-small a w (4 * k + 2)) (digit_at-small a w (4 * k + 3))
    ∙ ap (digit_at a) (sym e)
small_byte-digit a w k (suc (suc (suc (suc j)))) i h e = absurd (omega arith)

pub small_encoded-at : (a : List ℤ) (k : ℕ) → k < 191 → get_or (small_encoded a) k 0 ≡ small_byte a k
unfolding small_encoded
small_encoded-at a k h = get_or-map-range_with_len (small_byte a) 0 191 k k 0 h (omega arith)

pub small_decoded-at : (bytes : List ℕ) (i : ℕ) (d : ℤ) → i < 761 → get_or (small_decoded bytes) i d ≡ small_coefficient bytes i
unfolding small_decoded
small_decoded-at bytes i d h = get_or-map-range_with_len (small_coefficient bytes) 0 761 i i d h (omega arith)

pub length-small_encoded : (a : List ℤ) → length (small_encoded a) ≡ 191
unfolding small_encoded
length-small_encoded a = length-map-range_with_len (small_byte a) 0 191

pub length-small_decoded : (bytes : List ℕ) → length (small_decoded bytes) ≡ 761
unfolding small_decoded
length-small_decoded bytes = length-map-range_with_len (small_coefficient bytes) 0 761

pub small_coefficient-encoded : (a : List ℤ) → length a ≡ 761 → All (IsWithin 1) a → (i : ℕ) → i < 761 → small_coefficient (small_encoded a) i ≡ get_or a i (pos 0)
unfolding small_coefficient
small_coefficient-encoded a long w i h =
    let byte : get_or (small_encoded a) (i / 4) 0 ≡ small_byte a (i / 4) = small_encoded-at a (i / 4) (omega arith) in
    let place = small_byte-digit a w (i / 4) (i % 4) i (omega arith) (omega arith) in
    let is : digit_at a i ≡ digit (get_or a i (pos 0)) = digit_at-in a i (omega arith) in
    ap (λ b. pos (b / 4 ^ (i % 4) % 4) -ℤ pos 1) byte ∙ ap (λ n. pos n -ℤ pos 1) (place ∙ is) ∙ digit-back (get_or a i (pos 0)) (w i (pos 0) (omega arith))

-- decoding gives back what was encoded
pub small_decoded-encoded : (a : List ℤ) → length a ≡ 761 → All (IsWithin 1) a → small_decoded (small_encoded a) ≡ a
unfolding small_decoded
small_decoded-encoded a long w =
    sym (fill_by_all (small_coefficient (small_encoded a)) a 761 (pos 0) long (λ i h. sym (small_coefficient-encoded a long w i h)))

-- an element's bytes aren't bad
pub encoded-good : (a : List ℤ) → length a ≡ 761 → All (IsWithin 1) a → first_bad (small_encoded a) ≡ None
unfolding first_bad small_byte
encoded-good a long w =
    find-none (λ k. is_bad k (get_or (small_encoded a) k 0)) 191 0 (λ k l u.
    let past1 = digit_at-past a 761 (omega arith) in
    let past2 = digit_at-past a 762 (omega arith) in
    let past3 = digit_at-past a 763 (omega arith) in
    ap (is_bad k) (small_encoded-at a k u) ∙ good-byte k (digit_at a (4 * k)) (digit_at a (4 * k + 1)) (digit_at a (4 * k + 2)) (digit_at a (4 * k + 3))
    (digit_at-small a w (4 * k)) (digit_at-small a w (4 * k + 1)) (digit_at-small a w (4 * k + 2)) (digit_at-small a w (4 * k + 3)) (λ e. rw e (omega arith)))

-- where no byte is bad
pub goods : (bytes : List ℕ) → first_bad bytes ≡ None → (k : ℕ) → k < 191 → IsGood k (get_or bytes k 0)
unfolding first_bad
goods bytes e k h = good-from k (get_or bytes k 0) (none-passes (λ k. is_bad k (get_or bytes k 0)) 191 0 e k (omega arith) (omega arith))

pub decoded-digit : (bytes : List ℕ) (k j i : ℕ) → i < 761 → j < 4 → i ≡ 4 * k + j → digit_at (small_decoded bytes) i ≡ get_or bytes k 0 / 4 ^ j % 4
unfolding small_coefficient
decoded-digit bytes k j i h small e =
    let quotient : i / 4 ≡ k = omega arith in
    let rest : i % 4 ≡ j = omega arith in
    digit_at-in (small_decoded bytes) i (rw length-small_decoded h) ∙ ap digit (small_decoded-at bytes i (pos 0) h) ∙ digit-of _ ∙ (rw (quotient, rest) refl)

pub small_byte-decoded : (bytes : List ℕ) → ((i : ℕ) → get_or bytes i 0 < 256) → first_bad bytes ≡ None → (k : ℕ) → k < 191 → small_byte (small_decoded bytes) k ≡ get_or bytes k 0
unfolding small_byte
small_byte-decoded bytes fits e k h =
    let n = get_or bytes k 0 in
    let a = small_decoded bytes in
    let d0 : digit_at a (4 * k) ≡ n / 4 ^ 0 % 4 = decoded-digit bytes k 0 (4 * k) (omega arith) (omega arith) (omega arith) in
    let below = fits k in
    let long = length-small_decoded bytes in
    elim (cases_eq k 190) [
      | inl last ↦
          let small = (goods bytes e k h).last last in
          let d1 : digit_at a (4 * k + 1) ≡ 0 = digit_at-past a (4 * k + 1) (omega arith) in
          let d2 : digit_at a (4 * k + 2) ≡ 0 = digit_at-past a (4 * k + 2) (omega arith) in
          let d3 : digit_at a (4 * k + 3) ≡ 0 = digit_at-past a (4 * k + 3) (omega arith) in
          omega arith
      | inr ne ↦
          let d1 : digit_at a (4 * k + 1) ≡ n / 4 ^ 1 % 4 = decoded-digit bytes k 1 (4 * k + 1) (omega arith) (omega arith) (omega arith) in
          let d2 : digit_at a (4 * k + 2) ≡ n / 4 ^ 2 % 4 = decoded-digit bytes k 2 (4 * k + 2) (omega arith) (omega arith) (omega arith) in
          let d3 : digit_at a (4 * k + 3) ≡ n / 4 ^ 3 % 4 = decoded-digit bytes k 3 (4 * k + 3) (omega arith) (omega arith) (omega arith) in
          omega arith
    ]

-- encoding gives back what was decoded
pub small_encoded-decoded : (bytes : List ℕ) → length bytes ≡ 191 → ((i : ℕ) → get_or bytes i 0 < 256) → first_bad bytes ≡ None → small_encoded (small_decoded bytes) ≡ bytes
unfolding small_encoded
small_encoded-decoded bytes long fits e =
    sym (fill_by_all (small_byte (small_decoded bytes)) bytes 191 0 long (λ k h. sym (small_byte-decoded bytes fits e k h)))

-- what is decoded is small
pub small_decoded-within : (bytes : List ℕ) → first_bad bytes ≡ None → All (IsWithin 1) (small_decoded bytes)
unfolding small_coefficient
small_decoded-within bytes e =
    All-from_get_or (IsWithin 1) (small_decoded bytes) (pos 0) (λ i h.
    let here : i < 761 = let long = length-small_decoded bytes in omega arith in
    subst (IsWithin 1) (sym (small_decoded-at bytes i (pos 0) here)) (within-digit _ ((goods bytes e (i / 4) (omega arith)).digits (i % 4) (omega arith))))

pub first_bad-some : (bytes : List ℕ) (k : ℕ) → k < 191 → is_bad k (get_or bytes k 0) ≡ true → ((j : ℕ) → j < k → is_bad j (get_or bytes j 0) ≡ false) → first_bad bytes ≡ Some k
unfolding first_bad
first_bad-some bytes k h t before = find-some (λ k. is_bad k (get_or bytes k 0)) 191 0 k (omega arith) (omega arith) t (λ j l u. before j u)

pub first_bad-none : (bytes : List ℕ) → ((j : ℕ) → j < 191 → is_bad j (get_or bytes j 0) ≡ false) → first_bad bytes ≡ None
unfolding first_bad
first_bad-none bytes h = find-none (λ k. is_bad k (get_or bytes k 0)) 191 0 (λ j l u. h j (omega arith))

-- a byte written after those that are written
pub bytes-more : (a : List ℤ) (bytes : List ℕ) (k n : ℕ) → k < length bytes → n ≡ small_byte a k → ((j : ℕ) → j < k → get_or bytes j 0 ≡ small_byte a j) → (j : ℕ) → j < k + 1 → get_or (set bytes k n) j 0 ≡ small_byte a j
bytes-more a bytes k n h e before = subst (λ (m : ℕ). (j : ℕ) → j < k + 1 → get_or (set bytes k m) j 0 ≡ small_byte a j) (sym e) (fill_by_more (small_byte a) bytes k 0 h before)

-- a byte of digits
pub byte-is : (a : List ℤ) (k w x y z : ℕ) → 4 * k + 3 < length a → w ≡ digit (get_or a (4 * k) (pos 0)) → x ≡ digit (get_or a (4 * k + 1) (pos 0)) → y ≡ digit (get_or a (4 * k + 2) (pos 0)) → z ≡ digit (get_or a (4 * k + 3) (pos 0)) →
    w + 4 * x + 16 * y + 64 * z ≡ small_byte a k
unfolding small_byte
byte-is a k w x y z h e f g i =
    let d0 = digit_at-in a (4 * k) (omega arith) in
    let d1 = digit_at-in a (4 * k + 1) (omega arith) in
    let d2 = digit_at-in a (4 * k + 2) (omega arith) in
    let d3 = digit_at-in a (4 * k + 3) (omega arith) in
    omega arith

-- the last byte, of one digit
pub last-byte-is : (a : List ℤ) (w : ℕ) → length a ≡ 761 → w ≡ digit (get_or a 760 (pos 0)) → w ≡ small_byte a 190
unfolding small_byte
last-byte-is a w long e =
    let d0 = digit_at-in a 760 (omega arith) in
    let d1 = digit_at-past a 761 (omega arith) in
    let d2 = digit_at-past a 762 (omega arith) in
    let d3 = digit_at-past a 763 (omega arith) in
    omega arith

pub small_encoded-all : (a : List ℤ) (bytes : List ℕ) → length bytes ≡ 191 → ((j : ℕ) → j < 191 → get_or bytes j 0 ≡ small_byte a j) → bytes ≡ small_encoded a
unfolding small_encoded
small_encoded-all a bytes long h = fill_by_all (small_byte a) bytes 191 0 long h

-- a coefficient written after those that are written
pub coefficients-more : (bytes : List ℕ) (a : List ℤ) (i : ℕ) (c : ℤ) → i < length a → c ≡ small_coefficient bytes i → ((j : ℕ) → j < i → get_or a j (pos 0) ≡ small_coefficient bytes j) → (j : ℕ) → j < i + 1 → get_or (set a i c) j (pos 0) ≡ small_coefficient bytes j
coefficients-more bytes a i c h e before = subst (λ (m : ℤ). (j : ℕ) → j < i + 1 → get_or (set a i m) j (pos 0) ≡ small_coefficient bytes j) (sym e) (fill_by_more (small_coefficient bytes) a i (pos 0) h before)

pub small_decoded-all : (bytes : List ℕ) (a : List ℤ) → length a ≡ 761 → ((j : ℕ) → j < 761 → get_or a j (pos 0) ≡ small_coefficient bytes j) → a ≡ small_decoded bytes
unfolding small_decoded
small_decoded-all bytes a long h = fill_by_all (small_coefficient bytes) a 761 (pos 0) long h

pub coefficient-is : (bytes : List ℕ) (i n : ℕ) (z : ℤ) → IsWithin 1 z → n ≡ get_or bytes (i / 4) 0 / 4 ^ (i % 4) % 4 → z ≡ pos n -ℤ pos 1 → to_z w16 (of_z w16 z) ≡ small_coefficient bytes i
unfolding small_coefficient
coefficient-is bytes i n z w e f = stored 1 z w (omega arith) ∙ f ∙ ap (λ m. pos m -ℤ pos 1) e

-- bytes, and 0 after them
pub bytes-fit : (bytes : List ℕ) → All (λ b. b < 256) bytes → (i : ℕ) → get_or bytes i 0 < 256
bytes-fit bytes h i = elim (cases_lt i (length bytes)) [ inl here ↦ h i 0 here | inr past ↦ let e = get_or_past bytes i 0 past in omega arith ]

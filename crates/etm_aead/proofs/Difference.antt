-- The or of the xors of some bytes is 0 exactly where the bytes are the same.
use Rattle.std.proofs.Common.{◌≡◌, ℕ, ◌+◌, ◌%◌, ◌<◌, max, List, get_or, bit_xor, sym, ap, ◌∙◌, arith}
use Rattle.std.specs.Prelude.{bit_or}
use Rattle.std.specs.Int.{bit_at}
use Rattle.std.proofs.lemmas.Nat.Bits.{same_from_bits, bit_at_or, bit_at_xor, bit_at-lt, bit_at-zero}

-- a bit added to itself
bit_twice : (a : ℕ) → a < 2 → (a + a) % 2 ≡ 0
bit_twice a h = omega arith

-- the xor of a number with itself
xor-same : (x : ℕ) → bit_xor x x ≡ 0
xor-same x =
    same_from_bits _ _ (λ i. bit_at_xor x x i ∙ bit_twice (bit_at x i) (bit_at-lt x i) ∙ sym (bit_at-zero i))

-- the bytes of two equal lists at one place
pub xor-equal : (a b : List ℕ) (i : ℕ) → a ≡ b → bit_xor (get_or a i 0) (get_or b i 0) ≡ 0
xor-equal a b i equal = ap (λ c. bit_xor (get_or c i 0) (get_or b i 0)) equal ∙ xor-same (get_or b i 0)

-- two bits whose sum is even
bits_equal : (a b : ℕ) → a < 2 → b < 2 → (a + b) % 2 ≡ 0 → a ≡ b
bits_equal a b ha hb h = omega arith

-- two numbers whose xor is 0
pub same_from_xor : (x y : ℕ) → bit_xor x y ≡ 0 → x ≡ y
same_from_xor x y h =
    same_from_bits _ _ (λ i.
    bits_equal (bit_at x i) (bit_at y i) (bit_at-lt x i) (bit_at-lt y i)
    (sym (bit_at_xor x y i) ∙ ap (λ n. bit_at n i) h ∙ bit_at-zero i))

-- the larger of two bits
max_zero : (a b : ℕ) → max a b ≡ 0 → (a ≡ 0) × (b ≡ 0)
max_zero a b h = (omega arith, omega arith)

-- an or is 0 only where both numbers are
pub or_zero : (x y : ℕ) → bit_or x y ≡ 0 → (x ≡ 0) × (y ≡ 0)
or_zero x y h =
    let bits : (i : ℕ) → (bit_at x i ≡ 0) × (bit_at y i ≡ 0) =
    λ i. max_zero (bit_at x i) (bit_at y i) (sym (bit_at_or x y i) ∙ ap (λ n. bit_at n i) h ∙ bit_at-zero i) in
    (same_from_bits _ _ (λ i. (bits i).0 ∙ sym (bit_at-zero i)), same_from_bits _ _ (λ i. (bits i).1 ∙ sym (bit_at-zero i)))

-- Encryption keeps the length of a text, and undoes itself.
use Rattle.std.proofs.Common.{◌≡◌, ℕ, ◌+◌, ◌/◌, ◌%◌, ◌<◌, List, [], ◌∷◌, length, bit_xor, refl, ap, ap₂, ◌∙◌, arith}
use Rattle.std.proofs.lemmas.Nat.Bits.{same_from_bits, bit_at_xor, bit_at-lt}
use Rattle.std.specs.Int.{bit_at}
use Rattle.dr_chacha20.specs.Stream.{xor_of, key_stream, encrypted}
use Rattle.dr_chacha20.proofs.Xor.{length-xor_of}

-- a bit added twice
twice : (a b : ℕ) → a < 2 → ((a + b) % 2 + b) % 2 ≡ a
twice a b h = omega arith

xor-xor : (x y : ℕ) → bit_xor (bit_xor x y) y ≡ x
xor-xor x y =
    same_from_bits _ _ (λ i. bit_at_xor (bit_xor x y) y i ∙ ap (λ b. (b + bit_at y i) % 2) (bit_at_xor x y i) ∙ twice (bit_at x i) (bit_at y i) (bit_at-lt x i))

xor_of-xor_of : (text stream : List ℕ) → xor_of (xor_of text stream) stream ≡ text
unfolding xor_of
xor_of-xor_of [] stream = refl
xor_of-xor_of (x ∷ text) [] = refl
xor_of-xor_of (x ∷ text) (y ∷ stream) = ap₂ (λ z r. z ∷ r) (xor-xor x y) (xor_of-xor_of text stream)

pub length-encrypted : (key : List ℕ) (counter : ℕ) (nonce text : List ℕ) → length (encrypted key counter nonce text) ≡ length text
unfolding encrypted
length-encrypted key counter nonce text = length-xor_of text _

pub encrypted-encrypted : (key : List ℕ) (counter : ℕ) (nonce text : List ℕ)
    → encrypted key counter nonce (encrypted key counter nonce text) ≡ text
unfolding encrypted
encrypted-encrypted key counter nonce text =
    let stream = λ (n : ℕ). key_stream key counter nonce ((n + 63) / 64) in
    ap (λ n. xor_of (xor_of text (stream (length text))) (stream n)) (length-xor_of text (stream (length text)))
    ∙ xor_of-xor_of text (stream (length text))

-- Numbers below limits, and what is left of them when bytes have gone out.
use Rattle.std.proofs.Common.{◌≡◌, ℕ, ◌+◌, ◌*◌, ◌/◌, ◌^◌, ◌<◌, ◌≤◌, zero, suc, refl, ap, sym, ◌∙◌, subst, inl, inr, arith}
use Rattle.std.proofs.lemmas.Nat.{mul-lt, mul-le}
use Rattle.std.proofs.lemmas.Bool.{cases_lt, lt-ltb, le-ltb}
use Rattle.std.proofs.Math.Nat.{mul-le-mul_left, mul_comm, div-div-eq-div-mul, pow-suc}
use Rattle.ntru_codec.specs.Numbers.{limit_after, bytes_out, IsLimit}

-- a pair's number is below the product of its limits
pub pair-below : (r0 r1 m0 m1 : ℕ) → r0 < m0 → r1 < m1 → r0 + m0 * r1 < m0 * m1
pair-below r0 r1 m0 m1 h0 h1 =
    let room : m0 * (r1 + 1) ≤ m0 * m1 = mul-le-mul_left m0 (omega arith) in
    omega arith

-- a product of two numbers of 16 bits
pub pair-fits : (m0 r1 : ℕ) → m0 < 2 ^ 16 → r1 < 2 ^ 16 → m0 * r1 ≤ 65535 * 65535
pair-fits m0 r1 h0 h1 = mul-le m0 r1 65535 65535 (omega arith) (omega arith)

pub ruleset numbers = (pair-below, pair-fits)

-- one byte less
pub shrunk_below : (r m : ℕ) → r < m → r / 256 < (m + 255) / 256
shrunk_below r m h = omega arith

-- what is left is below the limit that is left
pub left_below : (n r m : ℕ) → r < m → r / 256 ^ n < limit_after n m
unfolding limit_after
left_below zero r m h = omega arith
left_below (suc n) r m h =
    let parts : r / 256 ^ suc n ≡ r / 256 / 256 ^ n = ap (λ k. r / k) (pow-suc 256 n ∙ mul_comm (256 ^ n) 256) ∙ sym (div-div-eq-div-mul r 256 (256 ^ n)) in
    rw parts (left_below n (r / 256) ((m + 255) / 256) (shrunk_below r m h))

-- what is left of a pair's number is below 16384
pub left_small : (n r m limit left : ℕ) → r < m → n ≡ bytes_out 16384 m → limit ≡ limit_after (bytes_out 16384 m) m → limit < 16384 → left ≡ r / 256 ^ n → left < 16384
left_small n r m limit left h bytes-is limit-is small left-is =
    let below : r / 256 ^ n < limit_after n m = left_below n r m h in
    let same : limit ≡ limit_after n m = limit-is ∙ ap (λ k. limit_after k m) (sym bytes-is) in
    omega arith

-- how many bytes go out, by cases
pub bytes_out-none : (stop m : ℕ) → m < stop → bytes_out stop m ≡ 0
unfolding bytes_out
bytes_out-none stop m h = rw (lt-ltb m stop h) refl

pub bytes_out-one : (stop m : ℕ) → stop ≤ m → (m + 255) / 256 < stop → bytes_out stop m ≡ 1
unfolding bytes_out limit_after
bytes_out-one stop m h k = rw (le-ltb m stop h, lt-ltb ((m + 255) / 256) stop k) refl

pub bytes_out-two : (stop m : ℕ) → stop ≤ m → stop ≤ (m + 255) / 256 → bytes_out stop m ≡ 2
unfolding bytes_out limit_after
bytes_out-two stop m h k = rw (le-ltb m stop h, le-ltb ((m + 255) / 256) stop k) refl

-- a fact for the three cases
pub bytes_out-cases : (P : ℕ → Type 0) (stop m : ℕ) → (m < stop → P 0) → (stop ≤ m → (m + 255) / 256 < stop → P 1) → (stop ≤ m → stop ≤ (m + 255) / 256 → P 2) → P (bytes_out stop m)
bytes_out-cases P stop m none one two =
    elim (cases_lt m stop) [
      | inl h ↦ subst P (sym (bytes_out-none stop m h)) (none h)
      | inr h ↦ elim (cases_lt ((m + 255) / 256) stop) [
        | inl k ↦ subst P (sym (bytes_out-one stop m h k)) (one h k)
        | inr k ↦ subst P (sym (bytes_out-two stop m h k)) (two h k)
      ]
    ]

-- two bytes are enough: what is left of a product of two limits is a limit again
pub left-limit : (m : ℕ) → 0 < m → m < 2 ^ 28 → IsLimit (limit_after (bytes_out 16384 m) m)
unfolding limit_after
left-limit m h k = bytes_out-cases (λ n. IsLimit (limit_after n m)) 16384 m
    (λ a. record { positive = h; small = a })
    (λ a b. record { positive = omega arith; small = b })
    (λ a b. record { positive = omega arith; small = omega arith })

pub pair-limit : (m0 m1 : ℕ) → IsLimit m0 → IsLimit m1 → IsLimit (limit_after (bytes_out 16384 (m0 * m1)) (m0 * m1))
pair-limit m0 m1 h k =
    let high : m0 * m1 ≤ 16383 * 16383 = mul-le m0 m1 16383 16383 (omega arith) (omega arith) in
    let low : 0 < m0 * m1 = mul-lt 0 0 m0 m1 h.positive k.positive in
    left-limit (m0 * m1) low (omega arith)

-- two bytes are enough: nothing is left of a single entry
pub last-limit : (m : ℕ) → 0 < m → m < 16384 → limit_after (bytes_out 2 m) m ≡ 1
unfolding limit_after
last-limit m h k = bytes_out-cases (λ n. limit_after n m ≡ 1) 2 m
    (λ a. omega arith)
    (λ a b. omega arith)
    (λ a b. omega arith)

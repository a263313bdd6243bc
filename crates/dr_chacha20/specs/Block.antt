-- The ChaCha20 block function (RFC 8439, 2.1 to 2.3). A word is a number below 2 ^ 32, a byte one
-- below 256, and a state is a list of 16 words, read as four rows of four.
use Rattle.std.specs.Prelude.{ℕ, zero, suc, ◌+◌, ◌*◌, ◌%◌, ◌^◌, List, [], ◌∷◌, bit_xor, slice_index}
use Rattle.std.specs.Int.{w32, rotate_left, to_le_bytes}
use Rattle.std.specs.List.{flat_map}
use Rattle.std.specs.Simd.Lanes.{zip2}
use Rattle.byteorder.specs.Endian.{little_from}

-- the sum of two words, with the carry dropped (2.1)
abbrev pub add32 : ℕ → ℕ → ℕ
add32 x y = (x + y) % 2 ^ 32

-- x ^= y; x <<<= k (2.1)
abbrev pub xor_rotate : ℕ → ℕ → ℕ → ℕ
xor_rotate x y k = rotate_left w32 (bit_xor x y) k

-- the quarter round (2.1)
unfoldable pub quarter_round : ℕ → ℕ → ℕ → ℕ → ℕ × ℕ × ℕ × ℕ
quarter_round a b c d =
    let a1 = add32 a b in
    let d1 = xor_rotate d a1 16 in
    let c1 = add32 c d1 in
    let b1 = xor_rotate b c1 12 in
    let a2 = add32 a1 b1 in
    let d2 = xor_rotate d1 a2 8 in
    let c2 = add32 c1 d2 in
    let b2 = xor_rotate b1 c2 7 in
    (a2, b2, c2, d2)

-- the quarter round of four words of a state, by their places (2.2)
abbrev pub quarter_round_at : List ℕ → ℕ → ℕ → ℕ → ℕ → ℕ × ℕ × ℕ × ℕ
quarter_round_at x i j k l =
    quarter_round (slice_index x i) (slice_index x j) (slice_index x k) (slice_index x l)

-- the quarter rounds of the four columns (2.3)
unfoldable pub column_round : List ℕ → List ℕ
column_round x =
    let p = quarter_round_at x 0 4 8 12 in
    let q = quarter_round_at x 1 5 9 13 in
    let r = quarter_round_at x 2 6 10 14 in
    let s = quarter_round_at x 3 7 11 15 in
    p.0 ∷ q.0 ∷ r.0 ∷ s.0
    ∷ p.1 ∷ q.1 ∷ r.1 ∷ s.1
    ∷ p.2 ∷ q.2 ∷ r.2 ∷ s.2
    ∷ p.3 ∷ q.3 ∷ r.3 ∷ s.3 ∷ []

-- the quarter rounds of the four diagonals (2.3)
unfoldable pub diagonal_round : List ℕ → List ℕ
diagonal_round x =
    let p = quarter_round_at x 0 5 10 15 in
    let q = quarter_round_at x 1 6 11 12 in
    let r = quarter_round_at x 2 7 8 13 in
    let s = quarter_round_at x 3 4 9 14 in
    p.0 ∷ q.0 ∷ r.0 ∷ s.0
    ∷ s.1 ∷ p.1 ∷ q.1 ∷ r.1
    ∷ r.2 ∷ s.2 ∷ p.2 ∷ q.2
    ∷ q.3 ∷ r.3 ∷ s.3 ∷ p.3 ∷ []

-- the state after n double rounds, each a column round and then a diagonal round (2.3)
unfoldable pub double_rounds : ℕ → List ℕ → List ℕ
double_rounds zero x = x
double_rounds (suc n) x = diagonal_round (column_round (double_rounds n x))

-- word i of some bytes, four bytes to a word, the lowest first (2.3)
abbrev pub word_at : List ℕ → ℕ → ℕ
word_at bytes i = little_from (4 * i) 4 bytes

-- the four constants, the eight words of the key, the counter and the three words of the nonce (2.3)
unfoldable pub initial_state : List ℕ → ℕ → List ℕ → List ℕ
initial_state key counter nonce =
    0x61707865 ∷ 0x3320646e ∷ 0x79622d32 ∷ 0x6b206574
    ∷ word_at key 0 ∷ word_at key 1 ∷ word_at key 2 ∷ word_at key 3
    ∷ word_at key 4 ∷ word_at key 5 ∷ word_at key 6 ∷ word_at key 7
    ∷ counter ∷ word_at nonce 0 ∷ word_at nonce 1 ∷ word_at nonce 2 ∷ []

-- the words of a block that begins with the state x: 20 rounds, and x added word by word (2.3)
unfoldable pub block_words : List ℕ → List ℕ
block_words x = zip2 add32 (double_rounds 10 x) x

-- words as bytes, the lowest byte of each first (2.3)
unfoldable pub bytes_of : List ℕ → List ℕ
bytes_of words = flat_map (to_le_bytes w32) words

-- the 64 bytes of a block (2.3)
unfoldable pub block_of : List ℕ → ℕ → List ℕ → List ℕ
block_of key counter nonce = bytes_of (block_words (initial_state key counter nonce))

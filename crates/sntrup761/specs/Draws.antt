-- What a seed of 32 bytes is expanded to: words of the ChaCha20 key stream (RFC 8439, 2.4) under the seed, and the elements
-- that they give.
use Rattle.std.specs.Prelude.{ℕ, ◌*◌, List, ◌++◌, map, take, drop, replicate, codes, ℤ}
use Rattle.std.specs.Int.{w32, to_le_bytes, from_le_bytes}
use Rattle.std.specs.List.{range_with_len}
use Rattle.dr_chacha20.specs.Stream.{encrypted}
use Rattle.sntrup_core.specs.Sampling.{small_element, short_element}

-- the first n bytes of the key stream of a nonce: what n zero bytes are encrypted to
unfoldable pub stream_of : List ℕ → List ℕ → ℕ → List ℕ
stream_of seed nonce n = encrypted seed 0 nonce (replicate n 0)

-- the nonce of a try: its number in four bytes, the lowest first, and a label of eight
unfoldable pub nonce_of : ℕ → List ℕ → List ℕ
nonce_of number label = to_le_bytes w32 number ++ label

-- word k of some bytes, the lowest byte first
abbrev pub word_at : List ℕ → ℕ → ℕ
word_at bytes k = from_le_bytes w32 (take 4 (drop (4 * k) bytes))

-- the 761 words of a try
unfoldable pub words_of : List ℕ → List ℕ → List ℕ
words_of seed nonce = map (word_at (stream_of seed nonce 3044)) (range_with_len 0 761)

-- g of a try
unfoldable pub drawn_g : List ℕ → ℕ → List ℤ
drawn_g seed number = small_element (words_of seed (nonce_of number (codes "draw-g00")))

-- f of a try
unfoldable pub drawn_f : List ℕ → ℕ → List ℤ
drawn_f seed number = short_element (words_of seed (nonce_of number (codes "draw-f00")))

-- rho, which takes the place of what is encapsulated where a ciphertext is refused
unfoldable pub drawn_rho : List ℕ → List ℕ
drawn_rho seed = stream_of seed (nonce_of 0 (codes "draw-rho")) 191

-- the element that is encapsulated
unfoldable pub drawn_r : List ℕ → List ℤ
drawn_r seed = short_element (words_of seed (nonce_of 0 (codes "draw-enc")))

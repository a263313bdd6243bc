-- The ChaCha20 key stream and the encryption with it (RFC 8439, 2.4).
use Rattle.std.specs.Prelude.{ℕ, zero, suc, ◌+◌, ◌/◌, List, [], ◌∷◌, ◌++◌, bit_xor, length}
use Rattle.dr_chacha20.specs.Block.{block_of}

-- the n blocks from a counter on, one after another (2.4)
unfoldable pub key_stream : List ℕ → ℕ → List ℕ → ℕ → List ℕ
key_stream key counter nonce zero = []
key_stream key counter nonce (suc n) =
    key_stream key counter nonce n ++ block_of key (counter + n) nonce

-- a text with a stream xored into its beginning, byte by byte; what the stream doesn't reach stays (2.4)
unfoldable pub xor_of : List ℕ → List ℕ → List ℕ
xor_of [] stream = []
xor_of (x ∷ text) [] = x ∷ text
xor_of (x ∷ text) (y ∷ stream) = bit_xor x y ∷ xor_of text stream

-- the same from a place of the text on, as for the block that begins there (2.4)
unfoldable pub xor_at : ℕ → List ℕ → List ℕ → List ℕ
xor_at zero text stream = xor_of text stream
xor_at (suc at) [] stream = []
xor_at (suc at) (x ∷ text) stream = x ∷ xor_at at text stream

-- the text xored with as many blocks of the key stream as it begins (2.4)
unfoldable pub encrypted : List ℕ → ℕ → List ℕ → List ℕ → List ℕ
encrypted key counter nonce text =
    xor_of text (key_stream key counter nonce ((length text + 63) / 64))

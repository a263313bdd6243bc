-- Sealing one message under a message key of 32 bytes, by encryption and then a MAC of the ciphertext.
-- ChaCha20 is that of RFC 8439, HMAC with SHA-256 that of RFC 2104, Expand that of RFC 5869.
use Rattle.std.specs.Prelude.{ℕ, List, ◌++◌, length, take, drop, codes}
use Rattle.std.specs.Int.{w64, to_le_bytes}
use Rattle.dr_chacha20.specs.Stream.{encrypted}
use Rattle.hmac_hkdf.specs.Hmac.{hmac_of}
use Rattle.hmac_hkdf.specs.Hkdf.{expand_of}

-- a cipher key of 32 bytes, a tag key of 32 and a nonce of 12, one after another: the message key,
-- expanded under the label of this use (RFC 5869, 2.3)
unfoldable pub message_keys : List ℕ → List ℕ
message_keys key = expand_of key (codes "dr seal") 76

abbrev pub cipher_key_of : List ℕ → List ℕ
cipher_key_of key = take 32 (message_keys key)

abbrev pub tag_key_of : List ℕ → List ℕ
tag_key_of key = take 32 (drop 32 (message_keys key))

abbrev pub nonce_of : List ℕ → List ℕ
nonce_of key = take 12 (drop 64 (message_keys key))

-- the text xored with the key stream from the block 1 on (RFC 8439, 2.4)
unfoldable pub ciphertext_of : List ℕ → List ℕ → List ℕ
ciphertext_of key text = encrypted (cipher_key_of key) 1 (nonce_of key) text

-- the HMAC of what goes along in the clear, the ciphertext, and the length of each in 8 bytes, the
-- lowest first (RFC 2104, 2; the order and the lengths as in RFC 8439, 2.8)
unfoldable pub tag_of : List ℕ → List ℕ → List ℕ → List ℕ
tag_of key ad ciphertext =
    hmac_of (tag_key_of key)
    (ad ++ ciphertext ++ to_le_bytes w64 (length ad) ++ to_le_bytes w64 (length ciphertext))

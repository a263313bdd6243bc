-- HMAC with SHA-256 (RFC 2104) as functions on lists of bytes. B, the length of a block of SHA-256, is
-- 64. Section numbers are the RFC's.
use Rattle.std.specs.Prelude.{ℕ, ◌-◌, List, [], ◌++◌, length, map, replicate, bit_xor, nat_lt, if◌then◌else◌}
use Rattle.sha2.specs.Sha256.{sha256}
use Rattle.sha2.specs.Hashers.{Holds256}
use Rattle.hmac_hkdf.specs.declared.mac.Mac.{Mac}
use Rattle.hmac_hkdf.specs.declared.keyed.KeyedMac.{KeyedMac}

-- a key longer than B bytes is hashed first (2)
abbrev pub short_key : List ℕ → List ℕ
short_key key = if nat_lt 64 (length key) then sha256 key else key

-- zeros at the end of the key make it B bytes (2, step 1)
abbrev pub block_key : List ℕ → List ℕ
block_key key = short_key key ++ replicate (64 - length (short_key key)) 0

-- the key's block, each byte xored with a pad byte: ipad is the byte 0x36 repeated B times, opad the
-- byte 0x5c (2, steps 2 and 5)
unfoldable pub padded : ℕ → List ℕ → List ℕ
padded pad key = map (λ b. bit_xor b pad) (block_key key)

-- H(K XOR opad, H(K XOR ipad, text)) (2)
unfoldable pub hmac_of : List ℕ → List ℕ → List ℕ
hmac_of key m = sha256 (padded 0x5c key ++ sha256 (padded 0x36 key ++ m))

-- ---- a message taken in piece by piece

-- the running mac has the key, and the message so far: its inner hasher holds the key under ipad and the
-- message, its outer hasher the key under opad
unfoldable pub MacHolds : Mac → List ℕ → List ℕ → Type 0
MacHolds mac key message =
    Holds256 mac.inner (padded 0x36 key ++ message) × Holds256 mac.outer (padded 0x5c key)

-- the key was taken in, and no message yet
abbrev pub IsKeyed : KeyedMac → List ℕ → Type 0
IsKeyed keyed key = MacHolds keyed.mac key []

-- What HMAC and HKDF make are bytes: numbers below 256.
use Rattle.std.proofs.Common.{ℕ, zero, suc, ◌<◌, List, arith}
use Rattle.std.specs.List.{All}
use Rattle.std.specs.Int.{bytes_high_first, byte_at, to_be_bytes, w32}
use Rattle.std.specs.Prelude.{slice_index}
use Rattle.std.proofs.lemmas.List.Elements.{All-nil, All-cons, All-append}
use Rattle.sha2.specs.Sha256.{digest_bytes, sha256}
use Rattle.hmac_hkdf.specs.Hmac.{hmac_of}
use Rattle.hmac_hkdf.specs.Hkdf.{expand_block, expand_blocks}

-- a number is a byte
abbrev pub IsByte : ℕ → Type 0
IsByte b = b < 256

byte_at-below : (i n : ℕ) → byte_at i n < 256
byte_at-below zero n = omega arith
byte_at-below (suc i) n = omega arith

bytes_high_first-below : (k n : ℕ) → All IsByte (bytes_high_first k n)
bytes_high_first-below zero n = All-nil IsByte
bytes_high_first-below (suc k) n = All-cons IsByte (byte_at k n) (bytes_high_first k n) (byte_at-below k n) (bytes_high_first-below k n)

digest_bytes-below : (h : List ℕ) (n : ℕ) → All IsByte (digest_bytes h n)
unfolding digest_bytes
digest_bytes-below h zero = All-nil IsByte
digest_bytes-below h (suc n) =
    All-append IsByte (digest_bytes h n) (to_be_bytes w32 (slice_index h n)) (digest_bytes-below h n) (bytes_high_first-below 4 (slice_index h n))

sha256-below : (m : List ℕ) → All IsByte (sha256 m)
unfolding sha256
sha256-below m = digest_bytes-below _ 8

-- an HMAC is made of bytes
pub hmac_of-below : (key m : List ℕ) → All IsByte (hmac_of key m)
unfolding hmac_of
hmac_of-below key m = sha256-below _

expand_blocks-below : (prk info : List ℕ) (n : ℕ) → All IsByte (expand_blocks prk info n)
unfolding expand_blocks expand_block
expand_blocks-below prk info zero = All-nil IsByte
expand_blocks-below prk info (suc n) =
    All-append IsByte (expand_blocks prk info n) (expand_block prk info (suc n)) (expand_blocks-below prk info n) (hmac_of-below prk _)

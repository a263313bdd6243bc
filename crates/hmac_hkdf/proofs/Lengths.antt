-- How many bytes HMAC and HKDF make.
use Rattle.std.proofs.Common.{◌≡◌, ℕ, zero, suc, ◌*◌, List, length, refl, arith, length-append}
use Rattle.std.specs.Int.{div_ceil}
use Rattle.std.proofs.lemmas.List.{length-take-le}
use Rattle.sha2.proofs.Facts256.{length-sha256}
use Rattle.hmac_hkdf.specs.Hmac.{hmac_of}
use Rattle.hmac_hkdf.specs.Hkdf.{extract_of, expand_block, expand_blocks, expand_of}

-- an HMAC has 32 bytes
pub length-hmac_of : (key m : List ℕ) → length (hmac_of key m) ≡ 32
unfolding hmac_of
length-hmac_of key m = length-sha256 _

-- a pseudorandom key has 32 bytes
pub length-extract_of : (salt ikm : List ℕ) → length (extract_of salt ikm) ≡ 32
unfolding extract_of
length-extract_of salt ikm = length-hmac_of salt ikm

-- T(i + 1) has 32 bytes
pub length-expand_block : (prk info : List ℕ) (i : ℕ) → length (expand_block prk info (suc i)) ≡ 32
unfolding expand_block
length-expand_block prk info i = length-hmac_of prk _

-- n blocks have 32 bytes each
pub length-expand_blocks : (prk info : List ℕ) (n : ℕ) → length (expand_blocks prk info n) ≡ 32 * n
unfolding expand_blocks
length-expand_blocks prk info zero = refl
length-expand_blocks prk info (suc n) =
    omega (arith, length-append (expand_blocks prk info n) (expand_block prk info (suc n)), length-expand_blocks prk info n, length-expand_block prk info n)

-- as many bytes as were asked for
pub length-expand_of : (prk info : List ℕ) (n : ℕ) → length (expand_of prk info n) ≡ n
unfolding expand_of
length-expand_of prk info n =
    length-take-le n _ (omega (arith, length-expand_blocks prk info (div_ceil n 32)))

-- how long the results are, by one name for a caller's `using`
pub ruleset lengths = (length-hmac_of, length-extract_of, length-expand_of)

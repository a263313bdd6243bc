-- HKDF with SHA-256 (RFC 5869) as functions on lists of bytes. HashLen is 32. Section numbers are the
-- RFC's.
use Rattle.std.specs.Prelude.{ℕ, zero, suc, List, [], ◌∷◌, ◌++◌, take}
use Rattle.std.specs.Int.{div_ceil}
use Rattle.hmac_hkdf.specs.Hmac.{hmac_of}

-- PRK = HMAC-Hash(salt, IKM) (2.2)
unfoldable pub extract_of : List ℕ → List ℕ → List ℕ
extract_of salt ikm = hmac_of salt ikm

-- T(0) is empty, and T(i + 1) = HMAC-Hash(PRK, T(i) | info | the byte i + 1) (2.3)
unfoldable pub expand_block : List ℕ → List ℕ → ℕ → List ℕ
expand_block prk info zero = []
expand_block prk info (suc i) = hmac_of prk (expand_block prk info i ++ info ++ suc i ∷ [])

-- T(1) | T(2) | .. | T(n) (2.3)
unfoldable pub expand_blocks : List ℕ → List ℕ → ℕ → List ℕ
expand_blocks prk info zero = []
expand_blocks prk info (suc n) = expand_blocks prk info n ++ expand_block prk info (suc n)

-- OKM: the first len bytes of T(1) | T(2) | .. | T(N), with N = ceil(len / HashLen) (2.3)
unfoldable pub expand_of : List ℕ → List ℕ → ℕ → List ℕ
expand_of prk info len = take len (expand_blocks prk info (div_ceil len 32))

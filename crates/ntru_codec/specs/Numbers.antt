-- Numbers and their bytes, the lowest first, and the limits that they are below (NTRU Prime, round 3 specification,
-- the subroutines Encode and Decode).
use Rattle.std.specs.Prelude.{ℕ, zero, suc, ◌+◌, ◌*◌, ◌/◌, ◌%◌, ◌<◌, List, [], ◌∷◌, nat_lt, if◌then◌else◌}

-- the number with these bytes
unfoldable pub number_of : List ℕ → ℕ
number_of [] = 0
number_of (b ∷ bytes) = b + 256 * number_of bytes

-- the n lowest bytes of r
unfoldable pub low_bytes : ℕ → ℕ → List ℕ
low_bytes zero r = []
low_bytes (suc n) r = (r % 256) ∷ low_bytes n (r / 256)

-- a number below m is below this when n bytes have gone out of it
unfoldable pub limit_after : ℕ → ℕ → ℕ
limit_after zero m = m
limit_after (suc n) m = limit_after n ((m + 255) / 256)

-- how many bytes go out of a number below m while its limit is at least `stop`: none of the limits here takes more than two
unfoldable pub bytes_out : ℕ → ℕ → ℕ
bytes_out stop m = if nat_lt m stop then 0 else (if nat_lt (limit_after 1 m) stop then 1 else 2)

-- what a limit may be
pub record IsLimit (m : ℕ) : Type 0 where
  pub positive : 0 < m
  pub small : m < 16384

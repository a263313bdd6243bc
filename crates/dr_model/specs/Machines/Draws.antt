-- The draws of a script, from which the seeds of turns come.
use Rattle.std.specs.Int.{to_le_bytes, w32}
use Rattle.std.specs.Prelude.{List, None, Option, Some, codes, ℕ, ◌++◌, ◌+◌}
use Rattle.hmac_hkdf.specs.Hmac.{hmac_of}

-- The draws of a script: how many were made, and the seed that the next one is, if it was given.
pub record Draws : Type 0 where
  pub made : ℕ
  pub given : Option (List ℕ)

-- a draw without a given seed, by its number from 0 (of this project: no standard's)
unfoldable pub drawn : List ℕ → ℕ → List ℕ
drawn key number = hmac_of key (codes "duet draw" ++ to_le_bytes w32 number)

abbrev pub given_or : List ℕ → Option (List ℕ) → List ℕ
given_or seed None = seed
given_or seed (Some given) = given

abbrev pub next_seed : List ℕ → Draws → List ℕ
next_seed key draws = given_or (drawn key draws.made) draws.given

-- the draws after one more
abbrev pub after_draw : Draws → Draws
after_draw draws = record { made = draws.made + 1; given = None }

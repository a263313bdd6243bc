-- The seeds that a source of draws tells of.
use Rattle.std.specs.Prelude.{ℕ, zero, suc, List, [], ◌∷◌, Option, option_map}

-- the seeds to come without end, by their number from 0
abbrev pub Seeds : Type 0
Seeds = ℕ → List ℕ

-- a seed, and the others after it
abbrev pub seed_before : List ℕ → Seeds → Seeds
seed_before seed others zero = seed
seed_before seed others (suc k) = others k

-- these seeds in turn, and the others after them
abbrev pub seeds_before : List (List ℕ) → Seeds → Seeds
seeds_before [] others = others
seeds_before (seed ∷ seeds) others = seed_before seed (seeds_before seeds others)

-- what was to come while these seeds stood before it, where that is told
abbrev pub drawn : List (List ℕ) → Option Seeds → Option Seeds
drawn seeds told = option_map (seeds_before seeds) told

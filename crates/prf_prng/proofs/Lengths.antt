-- How many bytes the root makes.
use Rattle.std.proofs.Common.{◌≡◌, ℕ, List, length, arith, length-drop}
use Rattle.std.proofs.lemmas.List.{length-take-le}
use Rattle.hmac_hkdf.proofs.Lengths.{length-expand_of}
use Rattle.prf_prng.specs.Root.{raised, next_root, root_key}

-- the next state and the key have 64 bytes together
pub length-raised : (state input : List ℕ) → length (raised state input) ≡ 64
unfolding raised
length-raised state input = length-expand_of _ _ 64

-- a next state has 32 bytes
pub length-next_root : (state input : List ℕ) → length (next_root state input) ≡ 32
length-next_root state input = length-take-le 32 _ (omega (arith, length-raised state input))

-- a key has 32 bytes
pub length-root_key : (state input : List ℕ) → length (root_key state input) ≡ 32
length-root_key state input =
    length-take-le 32 _ (omega (arith, length-drop 32 (raised state input), length-raised state input))

-- how long the results are, by one name for a caller's `using`
pub ruleset lengths = (length-next_root, length-root_key)

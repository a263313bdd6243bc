-- A key as one block, and the block under a pad byte.
use Rattle.std.proofs.Common.{◌≡◌, ℕ, ◌+◌, ◌-◌, ◌<◌, ◌≤◌, List, [], ◌∷◌, ◌++◌, length, take, drop, map, replicate, get_or, refl, sym, ap, ◌∙◌, slice_set}
use Rattle.std.proofs.lemmas.Bool.{cond_above}
use Rattle.std.proofs.lemmas.List.{drop-replicate, take_more, take_more_set, take_all, map-append}
use Rattle.sha2.specs.Sha256.{sha256}
use Rattle.hmac_hkdf.specs.Hmac.{block_key}

-- a key that fits in a block, and zeros in the block's other bytes
pub block_key_short : (key : List ℕ) → length key ≤ 64 → key ++ drop (length key) (replicate 64 0) ≡ block_key key
block_key_short key fits =
    ap (λ (zeros : List ℕ). key ++ zeros) (drop-replicate (length key) 64 0)
    ∙ ap (λ (k : List ℕ). k ++ replicate (64 - length k) 0) (cond_above 64 (length key) (sha256 key) key key fits refl)

-- one more byte of a block under a pad
pub map_more : (f : ℕ → ℕ) (out block : List ℕ) (i : ℕ) → take i out ≡ map f (take i block) → i < length out → i < length block
    → take (i + 1) (slice_set out i (f (get_or block i 0))) ≡ map f (take (i + 1) block)
map_more f out block i so_far fits has =
    cc (take_more_set out i (f (get_or block i 0)) fits, ap (map f) (take_more block i 0 has), map-append f (take i block) (get_or block i 0 ∷ []))

-- a whole block under a pad
pub map_all : (f : ℕ → ℕ) (out block : List ℕ) (i : ℕ) → take i out ≡ map f (take i block) → length out ≤ i → length block ≤ i → out ≡ map f block
map_all f out block i so_far fits has = sym (take_all i out fits) ∙ so_far ∙ ap (map f) (take_all i block has)

-- Bytes that a write puts over others, or tears.
use Rattle.std.specs.Prelude.{◌≡◌, ◌⊎◌, ℕ, ◌+◌, ◌<◌, ◌≤◌, List, ◌++◌, length, take, drop, slice_index, Option, Some, None}

-- these in place of what stands from that place on
abbrev pub overwritten : {X : Type 0} → List X → ℕ → List X → List X
overwritten old at bytes = take at old ++ bytes ++ drop (at + length bytes) old

abbrev pub overwritten_told : Option (List ℕ) → ℕ → List ℕ → Option (List ℕ)
overwritten_told None at bytes = None
overwritten_told (Some old) at bytes = Some (overwritten old at bytes)

-- zeros from that place on, which may lie past the end
abbrev pub EndsBy : ℕ → List ℕ → Type 0
EndsBy end s = (i : ℕ) → end ≤ i → slice_index s i ≡ 0

-- any bytes in a range of n, the same outside
pub record Torn (at n : ℕ) (old new : List ℕ) : Type 0 where
  pub size : length new ≡ length old
  pub outside : (i : ℕ) → (i < at) ⊎ (at + n ≤ i) → slice_index new i ≡ slice_index old i

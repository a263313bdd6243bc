-- Bytes put at a place of a buffer.
use Rattle.std.specs.Prelude.{◌≡◌, ℕ, ◌+◌, List, ◌++◌, length, take, drop}

-- The buffer new is old with these bytes at a place, and next is the place after them.
pub record Puts (old new : List ℕ) (at : ℕ) (bytes : List ℕ) (next : ℕ) : Type 0 where
  pub next_is : next ≡ at + length bytes
  -- what stands before, then the bytes
  pub front : take next new ≡ take at old ++ bytes
  -- what stands after
  pub rest : drop next new ≡ drop next old

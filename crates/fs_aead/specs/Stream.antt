-- A stream of message keys, as what stands of it.
use Rattle.std.specs.Prelude.{ℕ, List}

-- the chain key that gives the next message key, and how many keys the stream gave or passed before
pub record Stream : Type 0 where
  pub chain : List ℕ
  pub count : ℕ

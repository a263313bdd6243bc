-- Where a name stands among rows, and which of them is the lowest absent one.
use Rattle.std.specs.Prelude.{Bool, List, None, Option, Some, false, get_or, is_some, length, true, ℕ, ◌<◌, ◌≡◌}
use Rattle.std.specs.Str.{bytes_eq}
use Rattle.book_model.specs.Rows.{Row, Rows}

-- it is present under this name
abbrev pub is_named : {C : Type 0} → List ℕ → Option (Row C) → Bool
is_named name None = false
is_named name (Some row) = bytes_eq row.name name

-- the first row of this name
pub record IsPlaceOf {C : Type 0} (name : List ℕ) (rows : Rows C) (at : ℕ) : Type 0 where
  pub named : is_named name (get_or rows at None) ≡ true
  pub first : (q : ℕ) → q < at → is_named name (get_or rows q None) ≡ false

-- no row has this name
abbrev pub HasNone : {C : Type 0} → List ℕ → Rows C → Type 0
HasNone name rows = (q : ℕ) → is_named name (get_or rows q None) ≡ false

-- the lowest absent row
pub record IsFree {C : Type 0} (rows : Rows C) (at : ℕ) : Type 0 where
  pub inside : at < length rows
  pub absent : is_some (get_or rows at None) ≡ false
  pub first : (q : ℕ) → q < at → is_some (get_or rows q None) ≡ true

-- Where code stands in a text, and what it read there.
use Rattle.std.specs.Prelude.{◌≡◌, ℕ, List, Result, Ok, Err}
use Rattle.grammar.specs.Reader.{Reader}

-- an offset, and the bytes from there on
pub record Standing : Type 0 where
  pub at : ℕ
  pub rest : List ℕ

-- Code read as a reader says: the value, seen by a view, and where it stands then; or the offset of the fault.
abbrev pub Reads : {X A : Type 0} → (X → A) → Reader A → Standing → Standing → Result X ℕ → Type 0
Reads view read old new (Ok x) = read old.at old.rest ≡ Ok (record { value = view x; at = new.at; rest = new.rest })
Reads view read old new (Err at) = read old.at old.rest ≡ Err at

-- the same of code that keeps no value of what it passes
abbrev pub Skims : {X A : Type 0} → Reader A → Standing → Standing → Result X ℕ → Type 0
Skims {A = A} read old new (Ok x) =
    (a : A) × (read old.at old.rest ≡ Ok (record { value = a; at = new.at; rest = new.rest }))
Skims read old new (Err at) = read old.at old.rest ≡ Err at

-- The rows of a book: each has a name and what is kept under it, or is absent.
use Rattle.std.specs.Prelude.{ℕ, Bool, true, false, List, [], ◌∷◌, Option, Some, None, if◌then◌else◌}
use Rattle.std.specs.Str.{bytes_eq}

pub record Row (C : Type 0) : Type 0 where
  pub name : List ℕ
  pub kept : C

abbrev pub Rows : Type 0 → Type 0
Rows C = List (Option (Row C))

-- What is kept under a name, or nothing where no row has it.
abbrev pub under : {C : Type 0} → List ℕ → Rows C → Option C
under name [] = None
under name (None ∷ rows) = under name rows
under name (Some row ∷ rows) = if bytes_eq row.name name then Some row.kept else under name rows

-- The row that has the name keeps this from now on; all others stay.
abbrev pub keeping : {C : Type 0} → List ℕ → C → Rows C → Rows C
keeping name c [] = []
keeping name c (None ∷ rows) = None ∷ keeping name c rows
keeping name c (Some row ∷ rows) =
    (if bytes_eq row.name name then Some (record { name = row.name; kept = c }) else Some row)
    ∷ keeping name c rows

-- The row that has the name is absent from now on; all others stay.
abbrev pub without : {C : Type 0} → List ℕ → Rows C → Rows C
without name [] = []
without name (None ∷ rows) = None ∷ without name rows
without name (Some row ∷ rows) =
    (if bytes_eq row.name name then None else Some row) ∷ without name rows

-- The lowest absent row has this name and keeps this from now on; all others stay.
abbrev pub begun : {C : Type 0} → List ℕ → C → Rows C → Rows C
begun name c [] = []
begun name c (None ∷ rows) = Some (record { name = name; kept = c }) ∷ rows
begun name c (Some row ∷ rows) = Some row ∷ begun name c rows

-- No row is absent.
abbrev pub is_full : {C : Type 0} → Rows C → Bool
is_full [] = true
is_full (None ∷ rows) = false
is_full (Some row ∷ rows) = is_full rows

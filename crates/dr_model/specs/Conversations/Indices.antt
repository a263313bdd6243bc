-- Indices of an epoch: which arrived, and which are missing.
use Rattle.std.specs.List.{list_any}
use Rattle.std.specs.Prelude.{Bool, List, [], if◌then◌else◌, max, suc, zero, ℕ, ◌++◌, ◌==◌, ◌∷◌}

-- an index stands among those that arrived
abbrev pub is_among : List ℕ → ℕ → Bool
is_among arrived index = list_any (λ k. k == index) arrived

-- the greatest index that arrived, or 0
unfoldable pub reach : List ℕ → ℕ
reach [] = 0
reach (index ∷ rest) = max index (reach rest)

-- the indices from 1 to a last one that haven't arrived
unfoldable pub missing_to : List ℕ → ℕ → List ℕ
missing_to arrived zero = []
missing_to arrived (suc last) = missing_to arrived last ++ (if is_among arrived (suc last) then [] else suc last ∷ [])

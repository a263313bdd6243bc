-- The rows over R/3.
use Rattle.std.specs.Prelude.{ℕ, List, ℤ}
use Rattle.ntru_ring.specs.declared.rows_three.Row3.{Row3}
use Rattle.ntru_ring.specs.Elements.{element}
use Rattle.ntru_ring.specs.Elimination.{Parts, IsEchelon, AreMultiples}

-- the parts of a row
abbrev pub parts_3 : Parts Row3
parts_3 = record { a = λ r. element r.a; b = λ r. element r.b; pivot = λ r. r.pivot; top = λ r. r.top }

-- each of the first n rows is zero at the pivots of those before it
abbrev pub IsEchelon3 : List Row3 → ℕ → Type 0
IsEchelon3 rows n = IsEchelon Row3 parts_3 rows n

-- each of the first n rows is a multiple of g
abbrev pub AreMultiples3 : List ℤ → List Row3 → ℕ → Type 0
AreMultiples3 g rows n = AreMultiples Row3 parts_3 1 g rows n

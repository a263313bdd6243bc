-- The rows over R/q.
use Rattle.std.specs.Prelude.{ℕ, List, ℤ}
use Rattle.ntru_ring.specs.declared.rows_q.RowQ.{RowQ}
use Rattle.ntru_ring.specs.Elimination.{Parts, IsEchelon, AreMultiples}

-- the parts of a row
abbrev pub parts_q : Parts RowQ
parts_q = record { a = λ r. r.a.coefficients; b = λ r. r.b.coefficients; pivot = λ r. r.pivot; top = λ r. r.top }

-- each of the first n rows is zero at the pivots of those before it
abbrev pub IsEchelonQ : List RowQ → ℕ → Type 0
IsEchelonQ rows n = IsEchelon RowQ parts_q rows n

-- each of the first n rows is a multiple of g
abbrev pub AreMultiplesQ : List ℤ → List RowQ → ℕ → Type 0
AreMultiplesQ g rows n = AreMultiples RowQ parts_q 2295 g rows n

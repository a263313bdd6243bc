-- The inverse of g by linear elimination: rows a = g * b, each of them cleared at the pivots of the rows before it.
use Rattle.std.specs.Prelude.{◌≡◌, ℕ, ◌+◌, ◌<◌, ◌≤◌, List, slice_index_or, ℤ, pos}
use Rattle.ntru_ring.specs.Ring.{plus, times, coefficient}
use Rattle.ntru_ring.specs.Reduction.{reduced}

-- a = g * b modulo 2h + 1
abbrev pub IsMultiple : ℕ → List ℤ → List ℤ → List ℤ → Type 0
IsMultiple h g a b = reduced h (times g b) ≡ reduced h a

-- a = g * b + t modulo 2h + 1
abbrev pub IsCombined : ℕ → List ℤ → List ℤ → List ℤ → List ℤ → Type 0
IsCombined h g t a b = reduced h (plus (times g b) t) ≡ reduced h a

-- the parts of a row: a, b, the place of a's first coefficient, and how many coefficients of b come before its zeros
pub record Parts (X : Type 0) : Type 1 where
  pub a : X → List ℤ
  pub b : X → List ℤ
  pub pivot : X → ℕ
  pub top : X → ℕ

-- each of the first n rows is zero at the pivots of those before it, and b of row j has degree at most j
pub record IsEchelon (X : Type 0) (parts : Parts X) (rows : List X) (n : ℕ) : Type 0 where
  pub cleared : (i j : ℕ) (d e : X) → i < j → j < n → coefficient (parts.a (slice_index_or rows j d)) (parts.pivot (slice_index_or rows i e)) ≡ pos 0
  pub tops : (j : ℕ) (d : X) → j < n → parts.top (slice_index_or rows j d) ≤ j + 1

-- each of the first n rows is a multiple of g
abbrev pub AreMultiples : (X : Type 0) → Parts X → ℕ → List ℤ → List X → ℕ → Type 0
AreMultiples X parts h g rows n = (j : ℕ) (d : X) → j < n → IsMultiple h g (parts.a (slice_index_or rows j d)) (parts.b (slice_index_or rows j d))

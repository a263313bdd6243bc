-- A state as four rows, each of them a vector of four words (RFC 8439, 2.3).
use Rattle.std.specs.Prelude.{ℕ, List, [], ◌∷◌, ◌++◌, slice_index}
use Rattle.dr_chacha20.specs.declared.rows.Rows.{Rows}

-- the four words of a row
abbrev pub row_of : List ℕ → List ℕ
row_of row = slice_index row 0 ∷ slice_index row 1 ∷ slice_index row 2 ∷ slice_index row 3 ∷ []

-- the 16 words of a state
abbrev pub words_of : Rows → List ℕ
words_of x = row_of x.a ++ row_of x.b ++ row_of x.c ++ row_of x.d

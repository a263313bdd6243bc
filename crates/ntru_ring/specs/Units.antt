-- Inverses modulo 4591.
use Rattle.std.specs.Prelude.{ℕ, ◌*◌, ◌%◌}

-- the square of y modulo 4591
abbrev pub square_modulo : ℕ → ℕ
square_modulo y = y * y % 4591

-- x times the square of y modulo 4591
abbrev pub square_and_modulo : ℕ → ℕ → ℕ
square_and_modulo x y = square_modulo y * x % 4591

-- x to the power 4589 modulo 4591, by the exponent's binary digits 1000111101101: the inverse of x, unless x is zero
unfoldable pub inverse_modulo : ℕ → ℕ
inverse_modulo x =
    let x8 = square_modulo (square_modulo (square_modulo x)) in
    let x143 = square_and_modulo x (square_and_modulo x (square_and_modulo x (square_and_modulo x x8))) in
    let x1147 = square_and_modulo x (square_and_modulo x (square_modulo x143)) in
    square_and_modulo x (square_modulo x1147)

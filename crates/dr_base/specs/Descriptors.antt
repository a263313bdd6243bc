-- The descriptors that no standard stream has.
use Rattle.std.specs.Prelude.{ℤ, pos, ◌≤ℤ◌}

-- neither 0, 1 nor 2, which standard input, output and errors have
abbrev pub IsOwn : ℤ → Type 0
IsOwn descriptor = pos 3 ≤ℤ descriptor

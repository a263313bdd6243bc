-- What a script is read by and made of: the parts of a text, and numbers that follow one another.
use Rattle.std.specs.Prelude.{ℕ, ◌+◌, ◌*◌, ◌%◌, ◌^◌, ◌==◌, List, [], ◌∷◌, length, take, drop, nat_eq, position, Option, Some, None, option_map, if◌then◌else◌}
use Rattle.std.specs.List.{starts_with}

-- a byte before the first line
abbrev pub with_byte : ℕ → List (List ℕ) → List (List ℕ)
with_byte byte [] = (byte ∷ []) ∷ []
with_byte byte (line ∷ lines) = (byte ∷ line) ∷ lines

-- the lines of a text: each ends with a line feed, which the last may lack
unfoldable pub lines_of : List ℕ → List (List ℕ)
lines_of [] = []
lines_of (byte ∷ rest) = if byte == 10 then [] ∷ lines_of rest else with_byte byte (lines_of rest)

-- what follows a prefix
unfoldable pub after_prefix : List ℕ → List ℕ → Option (List ℕ)
after_prefix prefix line = if starts_with nat_eq line prefix then Some (drop (length prefix) line) else None

-- the text before the first byte of this kind, and the text after it
unfoldable pub halves_of : ℕ → List ℕ → Option (List ℕ × List ℕ)
halves_of mark text = option_map (λ at. (take at text, drop (at + 1) text)) (position (λ byte. byte == mark) text)

-- the number after a number
unfoldable pub next_number : ℕ → ℕ
next_number x = (6364136223846793005 * x + 1442695040888963407) % 2 ^ 64

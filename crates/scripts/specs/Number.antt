-- Numbers as scripts write them: decimal digits without a sign or a leading zero.
use Rattle.std.specs.Prelude.{ℕ, ◌^◌, ◌==◌, ◌&&◌, Bool, true, false, not, nat_lt, List, [], ◌∷◌, Option, Some, None, if◌then◌else◌}
use Rattle.std.specs.Char.{is_ascii_digit}
use Rattle.std.specs.List.{list_all}
use Rattle.std.specs.Str.Parse.{digits_value}

-- at least one digit, and no zero before another
abbrev pub is_unpadded : List ℕ → Bool
is_unpadded [] = false
is_unpadded (c ∷ []) = true
is_unpadded (c ∷ d ∷ ds) = not (c == 48)

-- the text of a number below 2^32
abbrev pub is_number_text : List ℕ → Bool
is_number_text text = is_unpadded text && (list_all is_ascii_digit text && nat_lt (digits_value 10 text) (2 ^ 32))

-- the number that a text says
unfoldable pub script_number_read : List ℕ → Option ℕ
script_number_read text = if is_number_text text then Some (digits_value 10 text) else None

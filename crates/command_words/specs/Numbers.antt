-- Numbers as std's `parse` reads them at a `u64`: decimal digits after at most one plus, leading zeros among them.
use Rattle.std.specs.Prelude.{◌^◌, ◌&&◌, ℕ, Bool, nat_lt, List, length, Option, Some, None, if◌then◌else◌}
use Rattle.std.specs.Char.{is_digit}
use Rattle.std.specs.List.{list_all}
use Rattle.std.specs.Str.Parse.{digits_value, without_leading_plus}

-- one digit or more, of a number that a u64 holds
abbrev pub is_number : List ℕ → Bool
is_number digits = nat_lt 0 (length digits) && (list_all (λ c. is_digit c 10) digits && nat_lt (digits_value 10 digits) (2 ^ 64))

-- the number that a text says
unfoldable pub number_read : List ℕ → Option ℕ
number_read text =
    if is_number (without_leading_plus text) then Some (digits_value 10 (without_leading_plus text)) else None

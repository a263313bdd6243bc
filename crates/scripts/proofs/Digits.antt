-- Digits read from the left.
use Rattle.std.proofs.Common.{◌≡◌, ℕ, ◌+◌, ◌-◌, ◌*◌, ◌^◌, ◌<◌, min, List, length, take, get_or, arith, true, ◌∙◌}
use Rattle.std.specs.Char.{digit_value, is_ascii_digit}
use Rattle.std.specs.Int.{IsInRange}
use Rattle.std.specs.Str.Parse.{digits_value}
use Rattle.std.specs.List.{list_all}
use Rattle.std.proofs.lemmas.Bool.Decides.{nat_tests}
use Rattle.std.proofs.lemmas.List.Folds.{list_all_more}
use Rattle.std.proofs.lemmas.Int.Digits.{digits_value_more}
use Rattle.std.proofs.lemmas.Str.{digit_value_digit}
use Rattle.std.proofs.lemmas.Bool.{and_from}

-- a number that stops at the end of a u64, with one digit more
capped : (v value next digit c : ℕ) → value ≡ min v (2 ^ 64 - 1) → next ≡ v * 10 + digit → digit + 48 ≡ c
    → min (min (value * 10) (2 ^ 64 - 1) + (c - 48)) (2 ^ 64 - 1) ≡ min next (2 ^ 64 - 1)
capped v value next digit c e f g = omega arith

in_range : (c : ℕ) → is_ascii_digit c ≡ true → IsInRange 48 57 c
in_range c h = grind (arith, nat_tests)

-- the number so far, with one digit more
pub value_more : (text : List ℕ) (i value : ℕ) → i < length text → is_ascii_digit (get_or text i 0) ≡ true
    → value ≡ min (digits_value 10 (take i text)) (2 ^ 64 - 1)
    → min (min (value * 10) (2 ^ 64 - 1) + (get_or text i 0 - 48)) (2 ^ 64 - 1) ≡ min (digits_value 10 (take (i + 1) text)) (2 ^ 64 - 1)
value_more text i value h d e =
    capped (digits_value 10 (take i text)) value (digits_value 10 (take (i + 1) text)) (digit_value (get_or text i 0)) (get_or text i 0) e
    (digits_value_more 10 text i h) (digit_value_digit (get_or text i 0) (in_range (get_or text i 0) d))

-- the digits so far, with one more
pub all_more : (text : List ℕ) (i : ℕ) → i < length text → list_all is_ascii_digit (take i text) ≡ true
    → is_ascii_digit (get_or text i 0) ≡ true → list_all is_ascii_digit (take (i + 1) text) ≡ true
all_more text i h a d =
    list_all_more is_ascii_digit text i 0 h ∙ and_from (list_all is_ascii_digit (take i text)) (is_ascii_digit (get_or text i 0)) a d

-- Numbers as std's `parse` reads them, by tests.
use Rattle.std.proofs.Common.{◌≡◌, ℕ, ◌<◌, ◌^◌, Bool, true, false, cond, refl, ap, List, [], ◌∷◌, length, lt-ltb, ltb-true, Some, None}
use Rattle.std.specs.Char.{digit_value, is_digit}
use Rattle.std.specs.List.{list_all}
use Rattle.std.specs.Str.Parse.{AllDigits, IsNumeral, digits_value, without_leading_plus}
use Rattle.std.proofs.lemmas.Bool.{and_parts}
use Rattle.command_words.specs.Numbers.{is_number, number_read}

digits_tested : (ds : List ℕ) → AllDigits 10 ds → list_all (λ c. is_digit c 10) ds ≡ true
digits_tested [] h = refl
digits_tested (d ∷ ds) h = rw (lt-ltb (digit_value d) 10 h.0) (digits_tested ds h.1)

digits_from : (ds : List ℕ) → list_all (λ c. is_digit c 10) ds ≡ true → AllDigits 10 ds
digits_from [] e = tt
digits_from (d ∷ ds) e =
    let parts = and_parts _ _ e in
    (ltb-true _ _ parts.0, digits_from ds parts.1)

abbrev pub IsShort : List ℕ → Type 0
IsShort ds = IsNumeral 10 ds × (digits_value 10 ds < 2 ^ 64)

tested : (ds : List ℕ) → IsShort ds → is_number ds ≡ true
tested ds h = rw (lt-ltb 0 (length ds) h.0.0, digits_tested ds h.0.1, lt-ltb (digits_value 10 ds) (2 ^ 64) h.1) refl

told : (ds : List ℕ) → is_number ds ≡ true → IsShort ds
told ds e =
    let outer = and_parts _ _ e in
    let inner = and_parts _ _ outer.1 in
    ((ltb-true _ _ outer.0, digits_from ds inner.0), ltb-true _ _ inner.1)

pub number_is : (text : List ℕ) (n : ℕ) → IsShort (without_leading_plus text) → n ≡ digits_value 10 (without_leading_plus text) → Some n ≡ number_read text
unfolding number_read
number_is text n h is = rw (tested (without_leading_plus text) h) (ap (λ m. Some m) is)

pub number_none : (text : List ℕ) → (IsShort (without_leading_plus text) → ⊥) → None ≡ number_read text
unfolding number_read
number_none text h = go (is_number (without_leading_plus text)) refl
  where
    go : (b : Bool) → is_number (without_leading_plus text) ≡ b → None ≡ cond b (Some (digits_value 10 (without_leading_plus text))) None
    go true e = absurd (h (told (without_leading_plus text) e))
    go false e = refl

-- What numbers, positions and bytes of a printed line are read as.
use Rattle.std.proofs.Common.{◌≡◌, ℕ, zero, suc, ◌+◌, ◌*◌, ◌/◌, ◌^◌, ◌<◌, ◌≤◌, Bool, true, false, List, [], ◌∷◌, ◌++◌, length, take, drop, get_or, Some, None, refl, ◌∙◌, ap, ap₂, arith, add-one, append_assoc}
use Rattle.std.specs.Prelude.{⊤, ◌==◌, ◌&&◌, nat_le, nat_lt, codes, decimal, option_map, if◌then◌else◌}
use Rattle.std.specs.Char.{digit_value, is_ascii_digit}
use Rattle.std.specs.List.{list_all, position_from}
use Rattle.std.specs.Option.{option_and_then}
use Rattle.std.specs.Result.{result_ok}
use Rattle.std.specs.Str.Parse.{AllDigits, digits_value}
use Rattle.std.proofs.lemmas.Bool.Decides.{nat_tests}
use Rattle.std.proofs.lemmas.Iterator.Adapters.{position_from-zero}
use Rattle.std.proofs.lemmas.Fmt.{decimal_digit, decimal_is_IsNumeral, decimal_nonempty, first_decimal}
use Rattle.std.proofs.Math.Seq.{take-append_seam}
use Rattle.std.proofs.lemmas.Bool.{cond-true, cond-false, and_from, and_left}
use Rattle.hex.specs.Hex.{IsBytes, decode_sized, encode_lower, lower_digits}
use Rattle.hex.proofs.HexLemmas.{decode_sized-encode_lower, length-encode_with}
use Rattle.dr_base.specs.declared.position.Position.{Position}
use Rattle.session_model.specs.declared.answer.Amount.{Amount}
use Rattle.session_model.specs.declared.answer.Amount.TheVariants.{All, Exactly}
use Rattle.scripts.specs.declared.hexed.TheConstants.{DIGIT_LIMIT, HEX_LIMIT}
use Rattle.scripts.specs.Number.{is_number_text, is_unpadded, script_number_read}
use Rattle.scripts.specs.Printed.{IsAmount, IsNumbered, amount_text}
use Rattle.answer_lines.specs.Answers.{position_text}
use Rattle.scripts.specs.Words.{amount_words, halves_of, hex_read, is_text, numbers_read, position_read}

-- ---- numbers

pub digit_from : (c : ℕ) → digit_value c < 10 → 48 ≤ c
digit_from c h = grind (arith, nat_tests)

pub digit_to : (c : ℕ) → digit_value c < 10 → c ≤ 57
digit_to c h = grind (arith, nat_tests)

is_digit : (c : ℕ) → digit_value c < 10 → is_ascii_digit c ≡ true
is_digit c h = let from = digit_from c h in let to = digit_to c h in grind (arith, nat_tests)

all_digits : (ds : List ℕ) → AllDigits 10 ds → list_all is_ascii_digit ds ≡ true
all_digits [] h = refl
all_digits (c ∷ cs) h = and_from (is_ascii_digit c) (list_all is_ascii_digit cs) (is_digit c h.0) (all_digits cs h.1)

unpadded : (ds : List ℕ) → 0 < length ds → 48 < get_or ds 0 0 → is_unpadded ds ≡ true
unpadded [] some first = absurd (omega arith)
unpadded (c ∷ []) some first = refl
unpadded (c ∷ d ∷ ds) some first = grind (arith, nat_tests)

-- a number's digits are unpadded: only 0 begins with a zero
decimal_unpadded : (n : ℕ) → n < 2 ^ 32 → is_unpadded (decimal n) ≡ true
decimal_unpadded zero h = ap is_unpadded (decimal_digit zero (omega arith))
decimal_unpadded (suc n) h = unpadded (decimal (suc n)) (decimal_nonempty (suc n) (omega arith)) (first_decimal (suc n) (omega arith) (omega arith))

guarded : {A : Type 0} (b : Bool) (x : A) → b ≡ true → (if b then Some x else None) ≡ Some x
guarded true x h = refl
guarded false x h = cc h

pub number_back : (n : ℕ) → n < 2 ^ 32 → script_number_read (decimal n) ≡ Some n
unfolding script_number_read
number_back n h =
    let numeral = decimal_is_IsNumeral n (omega arith) in
    let below : nat_lt (digits_value 10 (decimal n)) (2 ^ 32) ≡ true = let value = numeral.1 in grind (arith, nat_tests) in
    guarded (is_number_text (decimal n)) (digits_value 10 (decimal n))
    (and_from (is_unpadded (decimal n)) (list_all is_ascii_digit (decimal n) && nat_lt (digits_value 10 (decimal n)) (2 ^ 32)) (decimal_unpadded n h)
    (and_from (list_all is_ascii_digit (decimal n)) (nat_lt (digits_value 10 (decimal n)) (2 ^ 32)) (all_digits (decimal n) numeral.0.1) below))
    ∙ ap Some numeral.1

-- ---- halves

-- no byte is a mark
abbrev pub Without : ℕ → List ℕ → Type 0
Without mark [] = ⊤
Without mark (c ∷ cs) = ((c == mark) ≡ false) × Without mark cs

-- no digit is a mark that comes before the digits
not_mark : (c mark : ℕ) → mark < 48 → digit_value c < 10 → (c == mark) ≡ false
not_mark c mark low h = let from = digit_from c h in grind (arith, nat_tests)

pub digits_without : (ds : List ℕ) (mark : ℕ) → mark < 48 → AllDigits 10 ds → Without mark ds
digits_without [] mark low h = tt
digits_without (c ∷ cs) mark low h = (not_mark c mark low h.0, digits_without cs mark low h.1)

pub both_without : (xs ys : List ℕ) (mark : ℕ) → Without mark xs → Without mark ys → Without mark (xs ++ ys)
both_without [] ys mark h k = k
both_without (c ∷ cs) ys mark h k = (h.0, both_without cs ys mark h.1 k)

-- bytes, then a mark: it stands after them
mark_after : (ds rest : List ℕ) (mark i : ℕ) → Without mark ds
    → position_from (λ byte. byte == mark) i (ds ++ mark ∷ rest) ≡ Some (i + length ds)
mark_after [] rest mark i h = cond-true (mark == mark) (Some i) _ (grind (arith, nat_tests)) ∙ ap Some (omega arith)
mark_after (c ∷ cs) rest mark i h = cond-false (c == mark) (Some i) _ h.0 ∙ mark_after cs rest mark (i + 1) h.1 ∙ ap Some (omega arith)

drop_past : (ds rest : List ℕ) (mark : ℕ) → drop (suc (length ds)) (ds ++ mark ∷ rest) ≡ rest
drop_past [] rest mark = refl
drop_past (c ∷ cs) rest mark = drop_past cs rest mark

drop_after : (ds rest : List ℕ) (mark : ℕ) → drop (length ds + 1) (ds ++ mark ∷ rest) ≡ rest
drop_after ds rest mark = ap (λ n. drop n (ds ++ mark ∷ rest)) (add-one (length ds)) ∙ drop_past ds rest mark

none_before : (n : ℕ) → 0 + n ≡ n
none_before n = omega arith

pub halves_back : (ds rest : List ℕ) (mark : ℕ) → Without mark ds → halves_of mark (ds ++ mark ∷ rest) ≡ Some (ds, rest)
unfolding halves_of
halves_back ds rest mark h =
    let text : List ℕ = ds ++ mark ∷ rest in
    ap (option_map (λ at. (take at text, drop (at + 1) text))) (position_from-zero (λ byte. byte == mark) text ∙ mark_after ds rest mark 0 h ∙ ap Some (none_before (length ds)))
    ∙ ap₂ (λ (a b : List ℕ). Some (a, b)) (take-append_seam ds (mark ∷ rest)) (drop_after ds rest mark)

-- a space is one byte
pub spaced : (text bit : List ℕ) → text ++ codes " " ++ bit ≡ text ++ 32 ∷ bit
spaced text bit = append_assoc text (codes " ") bit

pub digits_of : (n : ℕ) → n < 2 ^ 32 → AllDigits 10 (decimal n)
digits_of n h = (decimal_is_IsNumeral n (omega arith)).0.1

-- ---- what stands in a line

-- the halves of a position's text
both_back : (p : Position) → IsNumbered p → numbers_read (decimal p.epoch, decimal p.index) ≡ Some p
both_back p h =
    let at : ℕ → ℕ → Position = λ epoch index. record { epoch = epoch; index = index } in
    ap (option_and_then (λ epoch. option_map (at epoch) (script_number_read (decimal p.index)))) (number_back p.epoch h.0)
    ∙ ap (option_map (at p.epoch)) (number_back p.index h.1)

-- a point is one byte
one_byte : (index : List ℕ) → codes "." ++ index ≡ 46 ∷ index
one_byte index = refl

pub point : (epoch index : List ℕ) → epoch ++ codes "." ++ index ≡ epoch ++ 46 ∷ index
point epoch index = append_assoc epoch (codes ".") index ∙ ap (λ xs. epoch ++ xs) (one_byte index)

pub position_back : (p : Position) → IsNumbered p → position_read (position_text p) ≡ Some p
unfolding position_read position_text
position_back p h =
    ap position_read (point (decimal p.epoch) (decimal p.index)) ∙ ap (option_and_then numbers_read) (halves_back (decimal p.epoch) (decimal p.index) 46 (digits_without (decimal p.epoch) 46 (omega arith) (digits_of p.epoch h.0))) ∙ both_back p h

-- digits aren't `all`
not_all : (ds : List ℕ) → AllDigits 10 ds → is_text (codes "all") ds ≡ false
not_all [] h = refl
not_all (c ∷ cs) h = and_left (c == 97) _ (let to = digit_to c h.0 in grind (arith, nat_tests))

pub amount_back : (amount : Amount) → IsAmount amount → amount_words (amount_text amount) ≡ Some amount
unfolding amount_words amount_text
amount_back All h = refl
amount_back (Exactly n) h = cond-false (is_text (codes "all") (decimal n)) _ _ (not_all (decimal n) (digits_of n h)) ∙ ap (option_map Exactly) (number_back n h)

pub encoded_len : (bytes : List ℕ) → length (encode_lower bytes) ≡ 2 * length bytes
encoded_len bytes = length-encode_with lower_digits bytes

pub hex_back : (bytes : List ℕ) → length bytes ≤ HEX_LIMIT → IsBytes bytes → hex_read (encode_lower bytes) ≡ Some bytes
unfolding hex_read
hex_back bytes short are =
    let long = encoded_len bytes in
    let half : length (encode_lower bytes) / 2 ≡ length bytes = omega (arith, long) in
    cond-true (nat_le (length (encode_lower bytes)) DIGIT_LIMIT) _ None (grind (arith, nat_tests))
    ∙ ap (λ n. result_ok (decode_sized (encode_lower bytes) n)) half
    ∙ ap result_ok (decode_sized-encode_lower bytes (length bytes) refl are)

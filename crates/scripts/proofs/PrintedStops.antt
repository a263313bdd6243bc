-- What the printed line of a stop is read as.
use Rattle.std.proofs.Common.{◌≡◌, ℕ, ◌/◌, ◌%◌, ◌^◌, ◌<◌, Bool, true, false, List, [], ◌∷◌, ◌++◌, Some, None, refl, sym, ◌∙◌, ap, arith}
use Rattle.std.specs.Prelude.{◌==◌, ◌&&◌, codes, decimal, option_map, slice_index}
use Rattle.std.specs.Option.{option_and_then, option_or}
use Rattle.std.specs.Result.{result_ok}
use Rattle.std.proofs.lemmas.Bool.{cond-true, cond-false, eqb-true}
use Rattle.hex.specs.Hex.{encode_lower, encode_with, hex_digit_value, lower_digits}
use Rattle.hex.proofs.HexLemmas.{IsDigits-lower_digits, decode_sized-encode_lower}
use Rattle.dr_base.specs.declared.position.Side.{Side}
use Rattle.dr_disk.specs.declared.call.Mode.{Mode}
use Rattle.dr_disk.specs.declared.call.Mode.TheVariants.{Fill, New, Old}
use Rattle.dr_model.specs.Machines.Events.{SideCall}
use Rattle.answer_lines.specs.Answers.{drop_word}
use Rattle.scripts.specs.Deeds.{joins, stops, syncs}
use Rattle.scripts.specs.Longs.{drop_long_words, join_words, part_words}
use Rattle.scripts.specs.Printed.{IsMode, IsSayable, line_text, mode_text, call_text, stop_text}
use Rattle.scripts.specs.Words.{after_prefix, bytes_words, call_words, called_words, crash_read, deed_words, drop_words, fail_words, flip_words, halves_of, if_stops, is_text, line_read, look_words, may_stop, mode_read, open_words, say_words, side_words, stop_read, stop_words, sync_words, take_words}
use Rattle.scripts.proofs.PrintedLines.{called_back, deed_back}
use Rattle.scripts.proofs.PrintedParts.{Without, digits_of, digits_without, halves_back, number_back, spaced}

-- ---- how a disk crashes

-- no digit is a space
not_space : (c d : ℕ) (b : Bool) → (c == 32) ≡ b → hex_digit_value c ≡ Some d → (c == 32) ≡ false
not_space c d false is digit = is
not_space c d true is digit =
    let space : c ≡ 32 = eqb-true c 32 is in
    absurd (let e : None ≡ Some d = sym (ap hex_digit_value space) ∙ digit in cc)

digit_spaceless : (d : ℕ) → d < 16 → (slice_index lower_digits d == 32) ≡ false
digit_spaceless d below =
    not_space (slice_index lower_digits d) d _ refl (IsDigits-lower_digits d below)

mode_spaceless : (mode : Mode) → IsMode mode → Without 32 (mode_text mode)
unfolding mode_text encode_with
mode_spaceless Old h = (refl, (refl, (refl, tt)))
mode_spaceless New h = (refl, (refl, (refl, tt)))
mode_spaceless (Fill byte) h =
    let below : byte < 256 = h 0 in (
      digit_spaceless (byte / 16) (omega (arith, below)),
      (digit_spaceless (byte % 16) (omega arith), tt),
    )

neither : (a b : Bool) → (a && (b && false)) ≡ false
neither true true = refl
neither true false = refl
neither false b = refl

-- two digits are no text of three bytes
not_three : (c d x y z : ℕ) → is_text (x ∷ y ∷ z ∷ []) (c ∷ d ∷ []) ≡ false
not_three c d x y z = neither (c == x) (d == y)

not_word : (byte x y z : ℕ) → is_text (x ∷ y ∷ z ∷ []) (encode_lower (byte ∷ [])) ≡ false
unfolding encode_with
not_word byte x y z =
    not_three (slice_index lower_digits (byte / 16)) (slice_index lower_digits (byte % 16)) x y z

mode_back : (mode : Mode) → IsMode mode → mode_read (mode_text mode) ≡ Some mode
unfolding mode_read mode_text
mode_back Old h = refl
mode_back New h = refl
mode_back (Fill byte) h =
    let digits = encode_lower (byte ∷ []) in
    cond-false (is_text (codes "old") digits) _ _ (not_word byte 111 108 100)
    ∙ cond-false (is_text (codes "new") digits) _ _ (not_word byte 110 101 119)
    ∙ ap (λ r. option_map (λ bytes. Fill (slice_index bytes 0)) (result_ok r))
    (decode_sized-encode_lower (byte ∷ []) 1 refl h)

-- ---- a stop

pub call_back : (call : SideCall) (words : List ℕ) → may_stop call ≡ true → called_words words ≡ Some call
    → call_words words ≡ Some call
unfolding call_words
call_back call words may h = ap (option_and_then if_stops) h ∙ cond-true (may_stop call) (Some call) None may

-- after the number of calls
crash_back : (side : Side) (n : ℕ) (mode : Mode) (one : SideCall) (words : List ℕ) → IsMode mode
    → call_words words ≡ Some one
    → option_and_then (crash_read side n) (halves_of 32 (mode_text mode ++ codes " " ++ words))
    ≡ Some (stops n mode side one)
crash_back side n mode one words h call =
    ap (λ xs. option_and_then (crash_read side n) (halves_of 32 xs)) (spaced (mode_text mode) words)
    ∙ ap (option_and_then (crash_read side n))
    (halves_back (mode_text mode) words 32 (mode_spaceless mode h))
    ∙ ap (option_and_then (λ m. option_map (stops n m side) (call_words words))) (mode_back mode h)
    ∙ ap (option_map (stops n mode side)) call

counted_back : (side : Side) (n : ℕ) (mode : Mode) (one : SideCall) (words : List ℕ) → n < 2 ^ 32
    → IsMode mode
    → call_words words ≡ Some one
    → option_and_then (stop_read side)
    (halves_of 32 (decimal n ++ codes " " ++ (mode_text mode ++ codes " " ++ words)))
    ≡ Some (stops n mode side one)
counted_back side n mode one words small h call =
    let rest : List ℕ = mode_text mode ++ codes " " ++ words in
    ap (λ xs. option_and_then (stop_read side) (halves_of 32 xs)) (spaced (decimal n) rest)
    ∙ ap (option_and_then (stop_read side))
    (halves_back (decimal n) rest 32
    (digits_without (decimal n) 32 (omega arith) (digits_of n small)))
    ∙ ap (option_and_then (λ m. option_and_then (crash_read side m) (halves_of 32 rest)))
    (number_back n small)
    ∙ crash_back side n mode one words h call

stop_back : (side : Side) (n : ℕ) (mode : Mode) (one : SideCall) (words : List ℕ) → n < 2 ^ 32
    → IsMode mode
    → call_words words ≡ Some one
    → stop_words side (stop_text n mode words) ≡ Some (stops n mode side one)
unfolding stop_words stop_text after_prefix
stop_back side n mode one words small h call = counted_back side n mode one words small h call

-- no event begins so
no_event : (side : Side) (n : ℕ) (mode : Mode) (words : List ℕ) → side_words side (stop_text n mode words) ≡ None
unfolding stop_text after_prefix side_words called_words drop_words drop_word say_words part_words drop_long_words take_words flip_words bytes_words look_words
no_event side n mode words = refl

pub stop_line_back : (n : ℕ) (mode : Mode) (side : Side) (call : SideCall) → IsSayable (stops n mode side call)
    → line_read (line_text (stops n mode side call)) ≡ Some (stops n mode side call)
unfolding line_text deed_words
stop_line_back n mode side call h =
    let words = stop_text n mode (call_text call) in
    let said = call_back call (call_text call) h.2 (called_back call h.3) in
    deed_back side words (no_event side n mode (call_text call))
    ∙ ap (λ o. option_or o (option_or (fail_words side words) (option_or (open_words side words)
    (option_or (option_map (syncs side) (sync_words words)) (option_map (joins side) (join_words words))))))
    (stop_back side n mode call (call_text call) h.0 h.1 said)

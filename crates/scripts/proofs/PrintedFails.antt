-- What the printed lines of a failure and of an opening are read as.
use Rattle.std.proofs.Common.{◌≡◌, ℕ, ◌≤◌, List, ◌++◌, Option, Some, None, refl, ◌∙◌, ap, arith}
use Rattle.std.specs.Prelude.{codes, decimal, nat_le, option_map}
use Rattle.std.specs.Option.{option_and_then, option_or}
use Rattle.std.proofs.lemmas.Bool.{cond-true}
use Rattle.std.proofs.lemmas.Bool.Decides.{nat_tests}
use Rattle.dr_base.specs.declared.position.Side.{Side}
use Rattle.dr_model.specs.Machines.Events.{SideCall}
use Rattle.answer_lines.specs.Answers.{drop_word}
use Rattle.scripts.specs.Deeds.{Deed, fails, joins, reopens, syncs}
use Rattle.scripts.specs.Longs.{drop_long_words, join_words, part_words}
use Rattle.scripts.specs.Printed.{CountsFromOne, IsSayable, call_text, fail_text, line_text}
use Rattle.scripts.specs.Words.{after_prefix, bytes_words, call_words, called_words, deed_words, drop_words, fail_read, fail_words, flip_words, halves_of, if_counted, line_read, look_words, open_words, say_words, side_words, stop_words, sync_words, take_words}
use Rattle.scripts.proofs.PrintedLines.{called_back, deed_back}
use Rattle.scripts.proofs.PrintedParts.{digits_of, digits_without, halves_back, number_back, spaced}
use Rattle.scripts.proofs.PrintedStops.{call_back}

pub some_counted : (n : ℕ) → 1 ≤ n → if_counted n ≡ Some n
some_counted n some = cond-true (nat_le 1 n) (Some n) None (grind (arith, nat_tests))

-- ---- a failure

-- after the word
counted_back : (side : Side) (n : ℕ) (one : SideCall) (words : List ℕ) → CountsFromOne n
    → call_words words ≡ Some one
    → option_and_then (fail_read side) (halves_of 32 (decimal n ++ codes " " ++ words)) ≡ Some (fails n side one)
counted_back side n one words h call =
    ap (λ xs. option_and_then (fail_read side) (halves_of 32 xs)) (spaced (decimal n) words)
    ∙ ap (option_and_then (fail_read side))
    (halves_back (decimal n) words 32 (digits_without (decimal n) 32 (omega arith) (digits_of n h.1)))
    ∙ ap (λ o. option_and_then (λ m. option_map (fails m side) (call_words words)) (option_and_then if_counted o))
    (number_back n h.1)
    ∙ ap (option_and_then (λ m. option_map (fails m side) (call_words words))) (some_counted n h.0)
    ∙ ap (option_map (fails n side)) call

fail_back : (side : Side) (n : ℕ) (one : SideCall) (words : List ℕ) → CountsFromOne n
    → call_words words ≡ Some one
    → fail_words side (fail_text n words) ≡ Some (fails n side one)
unfolding fail_words fail_text after_prefix
fail_back side n one words h call = counted_back side n one words h call

-- no event begins so
no_event : (side : Side) (n : ℕ) (words : List ℕ) → side_words side (fail_text n words) ≡ None
unfolding fail_text after_prefix side_words called_words drop_words drop_word say_words part_words drop_long_words take_words flip_words bytes_words look_words
no_event side n words = refl

-- and no stop
no_stop : (side : Side) (n : ℕ) (words : List ℕ) → stop_words side (fail_text n words) ≡ None
unfolding fail_text after_prefix stop_words
no_stop side n words = refl

pub fail_line_back : (n : ℕ) (side : Side) (call : SideCall) → IsSayable (fails n side call)
    → line_read (line_text (fails n side call)) ≡ Some (fails n side call)
unfolding line_text deed_words
fail_line_back n side call h =
    let words = fail_text n (call_text call) in
    let said = call_back call (call_text call) h.1 (called_back call h.2) in
    let more : Option Deed → Option Deed = λ o. option_or o (option_or (open_words side words)
    (option_or (option_map (syncs side) (sync_words words)) (option_map (joins side) (join_words words)))) in
    deed_back side words (no_event side n (call_text call))
    ∙ ap (λ o. option_or o (more (fail_words side words))) (no_stop side n (call_text call))
    ∙ ap more (fail_back side n call (call_text call) h.0 said)

-- ---- an opening

-- no event begins so
opens_no_event : (side : Side) → side_words side (codes "open") ≡ None
unfolding after_prefix side_words called_words drop_words drop_word say_words part_words drop_long_words take_words flip_words bytes_words look_words
opens_no_event side = refl

pub open_line_back : (side : Side) → line_read (line_text (reopens side)) ≡ Some (reopens side)
unfolding line_text after_prefix deed_words stop_words fail_words open_words
open_line_back side = deed_back side (codes "open") (opens_no_event side)

-- What any printed line is read as.
use Rattle.std.proofs.Common.{◌≡◌, ℕ, ◌^◌, ◌<◌, Option, Some, None, refl, ◌∙◌, ap}
use Rattle.std.specs.Prelude.{option_map}
use Rattle.std.specs.Option.{option_and_then, option_or}
use Rattle.dr_base.specs.declared.position.Side.{Side}
use Rattle.answer_lines.specs.Answers.{drop_word}
use Rattle.scripts.specs.Deeds.{Deed, acts, fails, joins, reopens, stops, syncs}
use Rattle.scripts.specs.Longs.{drop_long_words, join_words, part_words}
use Rattle.scripts.specs.Printed.{IsReply, IsSayable, event_text, join_text, line_text, sync_text}
use Rattle.scripts.specs.Words.{after_prefix, bytes_words, called_words, deed_words, drop_words, fail_words, flip_words, if_counted, line_read, look_words, lose_words, open_words, say_words, side_words, sided, stop_words, sync_words, take_words}
use Rattle.scripts.proofs.PrintedFails.{fail_line_back, open_line_back, some_counted}
use Rattle.scripts.proofs.PrintedLines.{deed_back, event_back}
use Rattle.scripts.proofs.PrintedParts.{number_back}
use Rattle.scripts.proofs.PrintedStops.{stop_line_back}

-- ---- a sync

-- no event begins so
no_event : (side : Side) (lost : Option ℕ) → side_words side (sync_text lost) ≡ None
unfolding sync_text after_prefix side_words called_words drop_words drop_word say_words part_words drop_long_words take_words flip_words bytes_words look_words
no_event side None = refl
no_event side (Some lost) = refl

-- and no stop, no failure and no opening
sync_alone : (side : Side) (lost : Option ℕ)
    → deed_words side (sync_text lost) ≡ option_or (option_map (syncs side) (sync_words (sync_text lost))) None
unfolding deed_words sync_text after_prefix stop_words fail_words open_words join_words
sync_alone side None = refl
sync_alone side (Some lost) = refl

words_synced : (lost : Option ℕ) → IsReply lost → sync_words (sync_text lost) ≡ Some lost
unfolding sync_words sync_text lose_words after_prefix
words_synced None h = refl
words_synced (Some lost) h = ap (λ o. option_map Some (option_and_then if_counted o)) (number_back lost h.1) ∙ ap (option_map Some) (some_counted lost h.0)

-- ---- a long text

-- no event begins so
joins_no_event : (side : Side) (id : ℕ) → side_words side (join_text id) ≡ None
unfolding join_text after_prefix side_words called_words drop_words drop_word say_words part_words drop_long_words take_words flip_words bytes_words look_words
joins_no_event side id = refl

-- and nothing else
join_alone : (side : Side) (id : ℕ) → deed_words side (join_text id) ≡ option_map (joins side) (join_words (join_text id))
unfolding deed_words join_text after_prefix stop_words fail_words open_words sync_words lose_words
join_alone side id = refl

words_joined : (id : ℕ) → id < 2 ^ 32 → join_words (join_text id) ≡ Some id
unfolding join_words join_text after_prefix
words_joined id h = number_back id h

-- ---- any line

pub line_back : (deed : Deed) → IsSayable deed → line_read (line_text deed) ≡ Some deed
unfolding line_read line_text
line_back (acts event) h =
    ap (λ o. option_or (option_map acts o) (sided deed_words (event_text event))) (event_back event h)
line_back (stops n mode side call) h = stop_line_back n mode side call h
line_back (fails n side call) h = fail_line_back n side call h
line_back (reopens side) h = open_line_back side
line_back (syncs side lost) h =
    deed_back side (sync_text lost) (no_event side lost)
    ∙ sync_alone side lost
    ∙ ap (λ o. option_or (option_map (syncs side) o) None) (words_synced lost h)
line_back (joins side id) h =
    deed_back side (join_text id) (joins_no_event side id)
    ∙ join_alone side id
    ∙ ap (option_map (joins side)) (words_joined id h)

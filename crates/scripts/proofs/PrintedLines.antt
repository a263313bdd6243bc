-- What the printed line of an event is read as.
use Rattle.std.proofs.Common.{◌≡◌, ℕ, ◌^◌, ◌<◌, List, [], ◌∷◌, ◌++◌, length, Some, None, refl, sym, ◌∙◌, ap, arith, subst}
use Rattle.std.specs.Prelude.{nat_eq, ◌==◌, codes, decimal, option_map}
use Rattle.std.specs.List.{starts_with}
use Rattle.std.specs.Option.{option_and_then, option_or}
use Rattle.std.specs.Result.{result_ok}
use Rattle.std.specs.Str.Parse.{AllDigits}
use Rattle.std.proofs.lemmas.Bool.Decides.{nat_tests}
use Rattle.std.proofs.lemmas.Fmt.{decimal_nonempty}
use Rattle.std.proofs.lemmas.Bool.{cond-false, and_left}
use Rattle.hex.proofs.HexLemmas.{decode_sized-encode_lower}
use Rattle.dr_base.specs.declared.position.Position.{Position}
use Rattle.dr_base.specs.declared.position.Side.{Side}
use Rattle.dr_base.specs.declared.position.Side.TheVariants.{First, Second}
use Rattle.session_model.specs.declared.answer.Items.TheVariants.{Packets, Texts}
use Rattle.dr_model.specs.Machines.Events.{Event, PacketSource, SideCall, cuts, does, drops, drops_long, of_bytes, of_flip, of_number, of_position, says, seeds, shows_awaiting, shows_inbox, shows_state, takes}
use Rattle.scripts.specs.Number.{script_number_read}
use Rattle.scripts.specs.Longs.{drop_long_words, part_words}
use Rattle.scripts.specs.Printed.{IsNumbered, IsSayableCall, IsSayableEvent, IsSayableSource, call_text, event_text, source_text}
use Rattle.answer_lines.specs.Answers.{drop_word, position_text}
use Rattle.scripts.specs.Sides.{side_text}
use Rattle.scripts.specs.Deeds.{acts}
use Rattle.scripts.specs.Words.{after_prefix, bytes_words, called_words, deed_words, drop_words, flip_read, flip_words, halves_of, line_read, look_words, packet_read, plain_read, position_read, say_words, seed_read, side_named, side_words, sided, source_words, take_words}
use Rattle.scripts.proofs.PrintedLongs.{content_back}
use Rattle.scripts.proofs.PrintedParts.{Without, amount_back, digit_from, both_without, digits_of, digits_without, halves_back, hex_back, number_back, point, position_back, spaced}

-- ---- what a side does

-- a position doesn't begin with a hash
no_hash : (ds rest : List ℕ) → 0 < length ds → AllDigits 10 ds → after_prefix (codes "#") (ds ++ rest) ≡ None
unfolding after_prefix
no_hash [] rest some h = absurd (omega arith)
no_hash (c ∷ cs) rest some h = cond-false (starts_with nat_eq (c ∷ (cs ++ rest)) (codes "#")) _ None (and_left (35 == c) _ (let from = digit_from c h.0 in grind (arith, nat_tests)))

position_hashless : (p : Position) → IsNumbered p → after_prefix (codes "#") (position_text p) ≡ None
unfolding position_text
position_hashless p h =
    ap (after_prefix (codes "#")) (point (decimal p.epoch) (decimal p.index))
    ∙ no_hash (decimal p.epoch) (46 ∷ decimal p.index) (decimal_nonempty p.epoch (let fits = h.0 in omega arith)) (digits_of p.epoch h.0)

packet_back : (p : Position) → IsNumbered p → packet_read (position_text p) ≡ Some (of_position p)
packet_back p h =
    ap (λ o. option_or (option_map of_number (option_and_then script_number_read o))
    (option_map of_position (position_read (position_text p)))) (position_hashless p h)
    ∙ ap (option_map of_position) (position_back p h)

-- a position holds no space
spaceless : (p : Position) → IsNumbered p → Without 32 (decimal p.epoch ++ 46 ∷ decimal p.index)
spaceless p h =
    both_without (decimal p.epoch) (46 ∷ decimal p.index) 32 (digits_without (decimal p.epoch) 32 (omega arith) (digits_of p.epoch h.0))
    (refl, digits_without (decimal p.index) 32 (omega arith) (digits_of p.index h.1))

position_spaceless : (p : Position) → IsNumbered p → Without 32 (position_text p)
unfolding position_text
position_spaceless p h = subst (Without 32) (sym (point (decimal p.epoch) (decimal p.index))) (spaceless p h)

flip_back : (p : Position) (bit : ℕ) → IsNumbered p → bit < 2 ^ 32
    → option_and_then flip_read (halves_of 32 (position_text p ++ codes " " ++ decimal bit)) ≡ Some (of_flip p bit)
flip_back p bit h k =
    ap (λ xs. option_and_then flip_read (halves_of 32 xs)) (spaced (position_text p) (decimal bit))
    ∙ ap (option_and_then flip_read) (halves_back (position_text p) (decimal bit) 32 (position_spaceless p h))
    ∙ ap (option_and_then (λ q. option_map (of_flip q) (script_number_read (decimal bit)))) (position_back p h)
    ∙ ap (option_map (of_flip p)) (number_back bit k)

source_back : (source : PacketSource) → IsSayableSource source → source_words (source_text source) ≡ Some source
unfolding after_prefix source_text take_words flip_words bytes_words
source_back (of_position p) h = ap (λ o. option_or o None) (packet_back p h)
source_back (of_number nth) h =
    let other = option_map of_position (position_read (35 ∷ decimal nth)) in
    ap (λ o. option_or (option_or (option_map of_number o) other) None) (number_back nth h)
source_back (of_flip p bit) h = ap (λ o. option_or o None) (flip_back p bit h.0 h.1)
source_back (of_bytes bytes) h = ap (option_map of_bytes) (hex_back bytes h.0 h.1)

-- no other word begins so
takes_alone : (source : PacketSource)
    → called_words (source_text source) ≡ option_or (option_map takes (source_words (source_text source))) None
unfolding after_prefix source_text called_words drop_words drop_word say_words part_words drop_long_words
takes_alone (of_position p) = refl
takes_alone (of_number nth) = refl
takes_alone (of_flip p bit) = refl
takes_alone (of_bytes bytes) = refl

pub called_back : (call : SideCall) → IsSayableCall call → called_words (call_text call) ≡ Some call
unfolding after_prefix call_text drop_word drop_words called_words say_words part_words drop_long_words take_words flip_words bytes_words
called_back (says content) h = content_back content h
called_back (takes source) h = takes_alone source ∙ ap (λ o. option_or (option_map takes o) None) (source_back source h)
called_back (drops Packets amount) h = ap (λ o. option_or (option_map (drops Packets) o) None) (amount_back amount h)
called_back (drops Texts amount) h = ap (λ o. option_or (option_map (drops Texts) o) None) (amount_back amount h)
called_back (drops_long id) h = ap (option_map drops_long) (number_back id h)

-- ---- lines

-- a side is read back
named_back : (side : Side) (words : List ℕ) → side_named (side_text side ++ words) ≡ Some (side, words)
unfolding side_named side_text after_prefix
named_back First words = refl
named_back Second words = refl

-- it begins no seed
seedless : (side : Side) (words : List ℕ) → seed_read (side_text side ++ words) ≡ None
unfolding seed_read side_text after_prefix
seedless First words = refl
seedless Second words = refl

-- what a side does, after its name
plain_back : (side : Side) (words : List ℕ) → plain_read (side_text side ++ words) ≡ side_words side words
unfolding plain_read
plain_back side words =
    ap (λ o. option_or o (sided side_words (side_text side ++ words))) (seedless side words)
    ∙ ap (option_and_then (λ (named : Side × List ℕ). side_words named.0 named.1)) (named_back side words)

of_side : (side : Side) (words : List ℕ) (event : Event) → side_words side words ≡ Some event
    → plain_read (side_text side ++ words) ≡ Some event
of_side side words event h = plain_back side words ∙ h

-- and where that is no event
pub deed_back : (side : Side) (words : List ℕ) → side_words side words ≡ None → line_read (side_text side ++ words) ≡ deed_words side words
unfolding line_read
deed_back side words none =
    ap (λ o. option_or (option_map acts o) (sided deed_words (side_text side ++ words))) (plain_back side words ∙ none)
    ∙ ap (option_and_then (λ (named : Side × List ℕ). deed_words named.0 named.1)) (named_back side words)

call_side_back : (side : Side) (call : SideCall) → IsSayableCall call → side_words side (call_text call) ≡ Some (does side call)
unfolding side_words
call_side_back side call h =
    ap (λ o. option_or (option_map (does side) o) (look_words side (call_text call))) (called_back call h)

inbox_back : (side : Side) → side_words side (codes "inbox") ≡ Some (shows_inbox side)
unfolding after_prefix side_words called_words drop_words drop_word say_words part_words drop_long_words take_words flip_words bytes_words look_words
inbox_back side = refl

awaiting_back : (side : Side) → side_words side (codes "awaiting") ≡ Some (shows_awaiting side)
unfolding after_prefix side_words called_words drop_words drop_word say_words part_words drop_long_words take_words flip_words bytes_words look_words
awaiting_back side = refl

state_back : (side : Side) → side_words side (codes "state") ≡ Some (shows_state side)
unfolding after_prefix side_words called_words drop_words drop_word say_words part_words drop_long_words take_words flip_words bytes_words look_words
state_back side = refl

pub event_back : (event : Event) → IsSayableEvent event → plain_read (event_text event) ≡ Some event
unfolding event_text plain_read seed_read side_named after_prefix
event_back (seeds seed) h =
    ap (λ o. option_or (option_map seeds o) None)
    (ap result_ok (decode_sized-encode_lower seed 32 h.0 h.1))
event_back (does side call) h = of_side side _ _ (call_side_back side call h)
event_back (shows_inbox side) h = of_side side _ _ (inbox_back side)
event_back (shows_awaiting side) h = of_side side _ _ (awaiting_back side)
event_back (shows_state side) h = of_side side _ _ (state_back side)
event_back (cuts took event) h = absurd h

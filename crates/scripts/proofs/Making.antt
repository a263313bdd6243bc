-- A script that is made, round by round.
use Rattle.std.proofs.Common.{◌≡◌, ◌∙◌, ℕ, zero, suc, ◌+◌, ◌%◌, ◌*◌, ◌^◌, ◌<◌, ◌≤◌, ◌==◌, Bool, true, false, cond, inl, refl, sym, ap, arith, append_assoc, append-nil, List, [], ◌∷◌, ◌++◌, length, codes, decimal}
use Rattle.std.specs.Prelude.{⊤, nat_lt}
use Rattle.std.proofs.lemmas.Bool.Decides.{nat_tests}
use Rattle.std.proofs.lemmas.Fmt.{decimal_digit}
use Rattle.std.proofs.lemmas.List.{length-append}
use Rattle.dr_base.specs.declared.position.Side.{Side}
use Rattle.dr_base.specs.declared.position.Side.TheVariants.{First, Second}
use Rattle.session_model.specs.Contents.{text_content}
use Rattle.session_model.specs.declared.answer.Amount.TheVariants.{All, Exactly}
use Rattle.session_model.specs.declared.answer.Items.TheVariants.{Packets, Texts}
use Rattle.dr_model.specs.Machines.Events.{does, drops, of_number, says, takes}
use Rattle.answer_lines.specs.Answers.{drop_word}
use Rattle.scripts.specs.Deeds.{Deed, acts}
use Rattle.scripts.specs.Make.{Round, advanced, choice, drawn, deeds_from, made_deeds, opening, round_of, said_to, saying, side_drawn, taking, turn_deeds}
use Rattle.scripts.specs.Printed.{amount_text, call_text, event_text, line_text, script_text, source_text}
use Rattle.scripts.specs.Sides.{side_text}
use Rattle.scripts.specs.Script.{AreCounted, deeds_in}
use Rattle.scripts.specs.declared.make.rounds.Making.{Making}
use Rattle.scripts.specs.declared.make.rounds.Turn.{Turn}
use Rattle.scripts.specs.declared.make.rounds.Turn.TheVariants.{Says, Takes, Rests}
use Rattle.scripts.proofs.PrintedParts.{Without, both_without, digits_of, digits_without}
use Rattle.scripts.proofs.ScriptLines.{AreLines, lines_both, text_counted, without_tested}

-- ---- the lines of a round

-- a text and a number
numbered : (text : List ℕ) (n : ℕ) → n < 2 ^ 32 → Without 10 text → Without 10 (text ++ decimal n)
numbered text n h w = both_without text (decimal n) 10 w (digits_without (decimal n) 10 (omega arith) (digits_of n h))

said_line : (side : Side) (round : ℕ) → round < 2 ^ 32 → Without 10 (line_text (acts (does side (says (text_content (codes "m" ++ decimal round))))))
unfolding line_text event_text call_text source_text side_text
said_line First round h = numbered (codes "first say m") round h (without_tested 10 (codes "first say m") refl)
said_line Second round h = numbered (codes "second say m") round h (without_tested 10 (codes "second say m") refl)

sent_line : (side : Side) → Without 10 (line_text (acts (does side (drops Packets (Exactly 1)))))
unfolding line_text event_text call_text side_text amount_text drop_word
sent_line First = numbered (codes "first sent ") 1 (omega arith) (without_tested 10 (codes "first sent ") refl)
sent_line Second = numbered (codes "second sent ") 1 (omega arith) (without_tested 10 (codes "second sent ") refl)

taken_line : (side : Side) (nth : ℕ) → nth < 2 ^ 32 → Without 10 (line_text (acts (does side (takes (of_number nth)))))
unfolding line_text event_text call_text source_text side_text
taken_line First nth h = numbered (codes "first take #") nth h (without_tested 10 (codes "first take #") refl)
taken_line Second nth h = numbered (codes "second take #") nth h (without_tested 10 (codes "second take #") refl)

done_line : (side : Side) → Without 10 (line_text (acts (does side (drops Texts All))))
unfolding line_text event_text call_text side_text amount_text drop_word
done_line First = without_tested 10 (codes "first done all") refl
done_line Second = without_tested 10 (codes "second done all") refl

-- what is taken is at most this
abbrev pub IsWithin : ℕ → Turn → Type 0
IsWithin most (Says side) = ⊤
IsWithin most (Takes side nth) = nth ≤ most
IsWithin most Rests = ⊤

turn_lines : (round most : ℕ) (turn : Turn) → round < 2 ^ 32 → most < 2 ^ 32 → IsWithin most turn → AreLines (turn_deeds round turn)
unfolding turn_deeds
turn_lines round most (Says side) h few within = (record { sayable = inl refl; one = said_line side round h }, (record { sayable = omega arith; one = sent_line side }, tt))
turn_lines round most (Takes side nth) h few within =
    let fits : nth < 2 ^ 32 = omega arith in
    (record { sayable = fits; one = taken_line side nth fits }, (record { sayable = tt; one = done_line side }, tt))
turn_lines round most Rests h few within = tt

-- ---- the lines as they are put together

pub said_is : (side : Side) (round : ℕ)
    → ((((side_text side ++ codes "say m") ++ decimal round) ++ codes "\n") ++ side_text side) ++ codes "sent 1\n" ≡ script_text (turn_deeds round (Says side))
unfolding turn_deeds line_text event_text call_text side_text amount_text drop_word
said_is First round =
    append_assoc ((codes "first say m" ++ decimal round) ++ codes "\n") (codes "first ") (codes "sent 1\n")
    ∙ ap (λ d. ((codes "first say m" ++ decimal round) ++ codes "\n") ++ (((codes "first sent " ++ d) ++ codes "\n") ++ [])) (sym (decimal_digit 1 (omega arith)))
said_is Second round =
    append_assoc ((codes "second say m" ++ decimal round) ++ codes "\n") (codes "second ") (codes "sent 1\n")
    ∙ ap (λ d. ((codes "second say m" ++ decimal round) ++ codes "\n") ++ (((codes "second sent " ++ d) ++ codes "\n") ++ [])) (sym (decimal_digit 1 (omega arith)))

pub taken_is : (side : Side) (round nth : ℕ)
    → ((((side_text side ++ codes "take #") ++ decimal nth) ++ codes "\n") ++ side_text side) ++ codes "done all\n" ≡ script_text (turn_deeds round (Takes side nth))
unfolding turn_deeds line_text event_text call_text source_text side_text amount_text drop_word
taken_is First round nth = append_assoc ((codes "first take #" ++ decimal nth) ++ codes "\n") (codes "first ") (codes "done all\n")
taken_is Second round nth = append_assoc ((codes "second take #" ++ decimal nth) ++ codes "\n") (codes "second ") (codes "done all\n")

-- a side's word and number, and its next line
pub two_lines : (l0 l1 l2 l3 l4 l5 l6 m n s word feed last : List ℕ) (k number : ℕ) → l0 ≡ [] → m ≡ s → n ≡ s → k ≡ number → l1 ≡ l0 ++ m
    → l2 ≡ l1 ++ word → l3 ≡ l2 ++ decimal k
    → l4 ≡ l3 ++ feed → l5 ≡ l4 ++ n → l6 ≡ l5 ++ last → l6 ≡ ((((s ++ word) ++ decimal number) ++ feed) ++ s) ++ last
two_lines l0 l1 l2 l3 l4 l5 l6 m n s word feed last k number none first second is a b c d e f = rw (f, e, d, c, b, a, none, first, second, is) refl

-- ---- what a round leaves

pub record Keeps (most : ℕ) (round : Round) : Type 0 where
  pub first : round.next.first ≤ most + 1
  pub second : round.next.second ≤ most + 1
  pub within : IsWithin most round.turn

saying_keeps : (most : ℕ) (side : Side) (m : Making) → m.first ≤ most → m.second ≤ most → Keeps most (saying side m)
saying_keeps most First m f s = record { first = omega arith; second = omega arith; within = tt }
saying_keeps most Second m f s = record { first = omega arith; second = omega arith; within = tt }

some_left : (draw said most : ℕ) → (said == 0) ≡ false → said ≤ most → 1 + draw % said ≤ most
some_left draw said most some few =
    let positive : 0 < said = grind (arith, nat_tests) in
    omega arith

taking_keeps : (most : ℕ) (side : Side) (m : Making) → m.first ≤ most → m.second ≤ most → Keeps most (taking side m)
unfolding taking advanced
taking_keeps most side m f s = go (said_to side m == 0) refl
  where
    few : (side : Side) → said_to side m ≤ most
    few First = s
    few Second = f

    go : (b : Bool) → (said_to side m == 0) ≡ b
        → Keeps most (cond b (record { turn = Rests; next = m }) (record { turn = Takes side (1 + drawn m % said_to side m); next = advanced m }))
    go true is = record { first = omega arith; second = omega arith; within = tt }
    go false is = record { first = omega arith; second = omega arith; within = some_left (drawn m) (said_to side m) most is (few side) }

keeps : (most : ℕ) (m : Making) → m.first ≤ most → m.second ≤ most → Keeps most (round_of m)
unfolding round_of advanced
keeps most m f s = go (nat_lt (choice (drawn m)) 2)
  where
    go : (b : Bool) → Keeps most (cond b (saying (side_drawn (drawn m)) (advanced m)) (taking (side_drawn (drawn m)) (advanced m)))
    go true = saying_keeps most (side_drawn (drawn m)) (advanced m) f s
    go false = taking_keeps most (side_drawn (drawn m)) (advanced m) f s

-- ---- a run

-- Some rounds were made, and some are left: their deeds stand as lines.
pub record IsMaking (rounds number round : ℕ) (made : Making) (text : List ℕ) (count : ℕ) : Type 0 where
  pub deeds : List Deed
  pub left : ℕ
  pub rest : round + left ≡ rounds
  pub all : made_deeds rounds number ≡ deeds ++ deeds_from made (round + 1) left
  pub text_is : text ≡ script_text deeds
  pub count_is : count ≡ length deeds
  pub few : count ≤ 2 * round
  pub lines : AreLines deeds
  pub first : made.first ≤ round
  pub second : made.second ≤ round

-- before the first
pub makes_first : (rounds number : ℕ) (made : Making) (text : List ℕ) → made ≡ opening number → text ≡ []
    → IsMaking rounds number 0 made text 0
unfolding made_deeds
makes_first rounds number made text is none = record {
  deeds = [];
  left = rounds;
  rest = omega arith;
  all = ap (λ m. deeds_from m 1 rounds) (sym is);
  text_is = none;
  count_is = refl;
  few = omega arith;
  lines = tt;
  first = omega (arith, ap (λ (m : Making). m.first) is);
  second = omega (arith, ap (λ (m : Making). m.second) is);
}

-- lines after lines
texts_joined : (xs ys : List Deed) → script_text xs ++ script_text ys ≡ script_text (xs ++ ys)
texts_joined [] ys = refl
texts_joined (x ∷ xs) ys = append_assoc (line_text x ++ codes "\n") (script_text xs) (script_text ys) ∙ ap (λ t. (line_text x ++ codes "\n") ++ t) (texts_joined xs ys)

-- one round more
pub makes_on : (rounds number round : ℕ) (made after : Making) (turn : Turn) (text more : List ℕ) (count added : ℕ)
    → IsMaking rounds number round made text count
    → round < rounds → rounds < 2 ^ 32 → turn ≡ (round_of made).turn → after ≡ (round_of made).next → more ≡ text ++ script_text (turn_deeds (round + 1) turn)
    → added ≡ length (turn_deeds (round + 1) turn) → added ≤ 2 → IsMaking rounds number (round + 1) after more (count + added)
unfolding deeds_from
makes_on rounds number round made after turn text more count added p below fits turned next put counts two = go p.left p.rest p.all
  where
    deeds : List Deed
    deeds = p.deeds ++ turn_deeds (round + 1) turn

    kept : Keeps round (round_of made)
    kept = keeps round made p.first p.second

    go : (left : ℕ) → round + left ≡ rounds → made_deeds rounds number ≡ p.deeds ++ deeds_from made (round + 1) left
        → IsMaking rounds number (round + 1) after more (count + added)
    go zero rest all = absurd (omega arith)
    go (suc left) rest all = record {
      deeds = deeds;
      left = left;
      rest = omega (arith, rest);
      all = rw (turned, next) (all ∙ sym (append_assoc p.deeds (turn_deeds (round + 1) (round_of made).turn) (deeds_from (round_of made).next (round + 1 + 1) left)));
      text_is = put ∙ ap (λ t. t ++ script_text (turn_deeds (round + 1) turn)) p.text_is ∙ texts_joined p.deeds (turn_deeds (round + 1) turn);
      count_is = omega (arith, counts, p.count_is, length-append p.deeds (turn_deeds (round + 1) turn));
      few = omega (arith, p.few);
      lines = lines_both p.deeds (turn_deeds (round + 1) turn) p.lines (rw turned (turn_lines (round + 1) round (round_of made).turn (omega arith) (omega arith) kept.within));
      first = rw next kept.first;
      second = rw next kept.second;
    }

-- all rounds are made
pub makes_all : (rounds number round : ℕ) (made : Making) (text : List ℕ) (count : ℕ) → IsMaking rounds number round made text count
    → rounds ≤ round
    → AreCounted text count × (deeds_in text ≡ made_deeds rounds number)
unfolding deeds_from
makes_all rounds number round made text count p past = go p.left p.rest p.all
  where
    go : (left : ℕ) → round + left ≡ rounds → made_deeds rounds number ≡ p.deeds ++ deeds_from made (round + 1) left
        → AreCounted text count × (deeds_in text ≡ made_deeds rounds number)
    go (suc left) rest all = absurd (omega arith)
    go zero rest all =
        let counted = text_counted p.deeds count p.lines p.count_is in
        rw p.text_is (counted.0, counted.1 ∙ sym (all ∙ append-nil p.deeds))

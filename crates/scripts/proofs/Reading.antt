-- Lines read one after another.
use Rattle.std.proofs.Common.{◌≡◌, ℕ, suc, ◌+◌, ◌-◌, ◌<◌, ◌≤◌, Bool, true, false, not, List, [], ◌∷◌, ◌++◌, length, Option, Some, None, Result, Ok, Err, refl, sym, ◌∙◌, ap, append_assoc, append-nil, add-one, arith}
use Rattle.std.specs.Prelude.{MatchOption, is_some, option_map}
use Rattle.std.proofs.lemmas.List.{length-append}
use Rattle.scripts.specs.Deeds.{Deed}
use Rattle.scripts.specs.Words.{line_read}
use Rattle.scripts.specs.Script.{AreCounted, AreRead, deeds_in, deeds_of, lines_of, or_bad, or_none, with_deed}

-- deeds that were read, and those that follow
abbrev pub with_deeds : List Deed → Result (List Deed) ℕ → Result (List Deed) ℕ
with_deeds deeds (Ok others) = Ok (deeds ++ others)
with_deeds deeds (Err bad) = Err bad

nothing_before : (r : Result (List Deed) ℕ) → r ≡ with_deeds [] r
nothing_before (Ok deeds) = refl
nothing_before (Err bad) = refl

one_more : (deeds : List Deed) (deed : Deed) (r : Result (List Deed) ℕ)
    → with_deeds deeds (with_deed deed r) ≡ with_deeds (deeds ++ deed ∷ []) r
one_more deeds deed (Ok others) = ap Ok (sym (append_assoc deeds (deed ∷ []) others))
one_more deeds deed (Err bad) = refl

read_line : (number : ℕ) (line : List ℕ) (lines : List (List ℕ))
    → deeds_of number (line ∷ lines) ≡ or_bad (line_read line) number (deeds_of (suc number) lines)
unfolding deeds_of
read_line number line lines = refl

read_end : (number : ℕ) → deeds_of number [] ≡ Ok []
unfolding deeds_of
read_end number = refl

-- a bad line ends the reading with its number
pub stops : (all : Result (List Deed) ℕ) (deeds : List Deed) (number : ℕ) (rest lines : List (List ℕ)) (line : List ℕ)
    → all ≡ with_deeds deeds (deeds_of number rest) → rest ≡ line ∷ lines → None ≡ line_read line → all ≡ Err number
stops all deeds number rest lines line so_far first bad =
    so_far
    ∙ ap (λ r. with_deeds deeds (deeds_of number r)) first
    ∙ ap (with_deeds deeds) (read_line number line lines)
    ∙ ap (λ o. with_deeds deeds (or_bad o number (deeds_of (suc number) lines))) (sym bad)

-- a good line adds its deed
pub goes_on : (all : Result (List Deed) ℕ) (deeds : List Deed) (number : ℕ) (rest lines : List (List ℕ)) (line : List ℕ) (deed : Deed)
    → all ≡ with_deeds deeds (deeds_of number rest) → rest ≡ line ∷ lines → Some deed ≡ line_read line
    → all ≡ with_deeds (deeds ++ deed ∷ []) (deeds_of (number + 1) lines)
goes_on all deeds number rest lines line deed so_far first good =
    so_far
    ∙ ap (λ r. with_deeds deeds (deeds_of number r)) first
    ∙ ap (with_deeds deeds) (read_line number line lines)
    ∙ ap (λ o. with_deeds deeds (or_bad o number (deeds_of (suc number) lines))) (sym good)
    ∙ one_more deeds deed (deeds_of (suc number) lines)
    ∙ ap (λ n. with_deeds (deeds ++ deed ∷ []) (deeds_of n lines)) (sym (add-one number))

-- at the end all is read
pub ends : (all : Result (List Deed) ℕ) (deeds : List Deed) (number : ℕ) (rest : List (List ℕ))
    → all ≡ with_deeds deeds (deeds_of number rest) → rest ≡ [] → all ≡ Ok deeds
ends all deeds number rest so_far done =
    so_far
    ∙ ap (λ r. with_deeds deeds (deeds_of number r)) done
    ∙ ap (with_deeds deeds) (read_end number)
    ∙ ap Ok (append-nil deeds)

-- ---- lines that were read

-- a line that was read, and those after it
split_read : (o : Option Deed) (n : ℕ) (r : Result (List Deed) ℕ) (deeds : List Deed) → or_bad o n r ≡ Ok deeds
    → (deed : Deed) × (rest : List Deed) × (o ≡ Some deed) × (r ≡ Ok rest) × (deeds ≡ deed ∷ rest)
split_read None n r deeds h = absurd (cc h)
split_read (Some deed) n (Err bad) deeds h = absurd (cc h)
split_read (Some deed) n (Ok rest) deeds h = (deed, rest, refl, refl, cc h)

-- what is read with one number is read with every other
renumbered : (m n : ℕ) (lines : List (List ℕ)) (deeds : List Deed) → deeds_of n lines ≡ Ok deeds → deeds_of m lines ≡ Ok deeds
renumbered m n [] deeds read = read_end m ∙ sym (read_end n) ∙ read
renumbered m n (line ∷ lines) deeds read =
    let s = split_read (line_read line) n (deeds_of (suc n) lines) deeds (sym (read_line n line lines) ∙ read) in
    read_line m line lines
    ∙ ap (λ o. or_bad o m (deeds_of (suc m) lines)) s.2
    ∙ ap (λ r. or_bad (Some s.0) m r) (renumbered (suc m) (suc n) lines s.1 s.3)
    ∙ ap Ok (sym s.4)

-- the first line that is left, and those after it
pub next_read : (text rest line : List ℕ) → AreRead text → lines_of text ≡ line ∷ lines_of rest
    → AreRead rest × ((deed : Deed) × (line_read line ≡ Some deed) × (deeds_in text ≡ deed ∷ deeds_in rest))
unfolding deeds_in
next_read text rest line read first =
    let whole = sym (read_line 3 line (lines_of rest)) ∙ ap (deeds_of 3) (sym first) ∙ read in
    let s = split_read (line_read line) 3 (deeds_of 4 (lines_of rest)) (deeds_in text) whole in
    let left : deeds_of 3 (lines_of rest) ≡ Ok s.1 = renumbered 3 4 (lines_of rest) s.1 s.3 in
    let same : deeds_in rest ≡ s.1 = ap or_none left in
    (left ∙ ap Ok (sym same), (s.0, s.2, s.4 ∙ ap (λ deeds. s.0 ∷ deeds) (sym same)))

-- no line is left
pub none_left : (text : List ℕ) → lines_of text ≡ [] → deeds_in text ≡ []
unfolding deeds_in
none_left text none = ap or_none (ap (deeds_of 3) none ∙ read_end 3)

-- what was read is what is there
pub are_read : (text : List ℕ) (deeds : List Deed) → deeds_of 3 (lines_of text) ≡ Ok deeds → AreRead text × (deeds_in text ≡ deeds)
unfolding deeds_in
are_read text deeds read = (read ∙ ap Ok (sym (ap or_none read)), ap or_none read)

-- the lines so far, from the line of this number on, were read, and these are left
pub record IsCounting (from : ℕ) (text rest : List ℕ) (number : ℕ) : Type 0 where
  pub deeds : List Deed
  pub read : deeds_of from (lines_of text) ≡ with_deeds deeds (deeds_of number (lines_of rest))
  pub number_is : number ≡ from + length deeds
  pub fits : number + length rest ≤ from + length text

pub none_counted : (from : ℕ) (text : List ℕ) → IsCounting from text text from
none_counted from text = record {
  deeds = [];
  read = nothing_before (deeds_of from (lines_of text));
  number_is = omega arith;
  fits = omega arith;
}

pub one_counted : (from : ℕ) (text rest next line : List ℕ) (number : ℕ) (deed : Deed)
    → IsCounting from text rest number
    → lines_of rest ≡ line ∷ lines_of next
    → length next < length rest → Some deed ≡ line_read line → IsCounting from text next (number + 1)
one_counted from text rest next line number deed c first shorter good = record {
  deeds = c.deeds ++ deed ∷ [];
  read = goes_on _ c.deeds number (lines_of rest) (lines_of next) line deed c.read first good;
  number_is = omega (arith, c.number_is, length-append c.deeds (deed ∷ []));
  fits = omega (arith, c.fits, shorter);
}

-- all are read, with whatever number they begin
pub all_counted : (from : ℕ) (text rest : List ℕ) (number : ℕ) → IsCounting from text rest number → lines_of rest ≡ []
    → AreCounted text (number - from) × (deeds_of from (lines_of text) ≡ Ok (deeds_in text))
all_counted from text rest number c none =
    let whole = ends _ c.deeds number (lines_of rest) c.read none in
    let read = are_read text c.deeds (renumbered 3 from (lines_of text) c.deeds whole) in
    (record { read = read.0; count_is = omega (arith, c.number_is, ap length read.1) }, whole ∙ ap Ok (sym read.1))

pub bad_counted : (from : ℕ) (text rest next line : List ℕ) (number : ℕ) → IsCounting from text rest number
    → lines_of rest ≡ line ∷ lines_of next
    → None ≡ line_read line → deeds_of from (lines_of text) ≡ Err number
bad_counted from text rest next line number c first bad =
    stops _ c.deeds number (lines_of rest) (lines_of next) line c.read first bad

-- ---- what a reader of lines answers

-- it answers nothing
pub bad_line : {L : Type 0} (deed_of : L → Deed) (o : Option L) (read : Option Deed) (none : Bool) → option_map deed_of o ≡ read
    → is_some o ≡ not none
    → none ≡ true → None ≡ read
bad_line deed_of None read none e f g = e
bad_line deed_of (Some line) read none e f g = absurd (cc (f, g))

-- it answers something
pub good_line : {L : Type 0} (deed_of : L → Deed) (o : Option L) (read : Option Deed) (none : Bool) → option_map deed_of o ≡ read
    → is_some o ≡ not none
    → none ≡ false → (deed : Deed) × (Some deed ≡ read)
good_line deed_of None read none e f g = absurd (cc (f, g))
good_line deed_of (Some line) read none e f g = (deed_of line, e)

-- the first deed that was left, and those after it
pub matched_line : {L : Type 0} (deed_of : L → Deed) (o : Option L) (read : Option Deed) (deed : Deed) (old new : List Deed)
    → option_map deed_of o ≡ read
    → read ≡ Some deed → old ≡ deed ∷ new → MatchOption o (old ≡ []) (λ line. old ≡ deed_of line ∷ new)
matched_line deed_of None read deed old new e f g = absurd (cc (e, f))
matched_line deed_of (Some line) read deed old new e f g = g ∙ ap (λ x. x ∷ new) (same_deed deed (deed_of line) (sym f ∙ sym e))
  where
    same_deed : (x y : Deed) → Some x ≡ Some y → x ≡ y
    same_deed x y h = cc h

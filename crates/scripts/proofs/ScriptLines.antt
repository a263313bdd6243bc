-- Printed lines are read as the script that they print.
use Rattle.std.proofs.Common.{◌≡◌, ◌∙◌, ℕ, suc, ◌==◌, ◌&&◌, Bool, true, false, not, refl, sym, ap, append_assoc, List, [], ◌∷◌, ◌++◌, length, Ok, codes}
use Rattle.std.specs.Prelude.{⊤}
use Rattle.std.specs.List.{list_all}
use Rattle.scripts.specs.Deeds.{Deed}
use Rattle.scripts.specs.Printed.{IsSayable, line_text, script_text}
use Rattle.scripts.specs.Script.{AreCounted, deeds_in, deeds_of, lines_of, with_byte}
use Rattle.scripts.proofs.PrintedDeeds.{line_back}
use Rattle.scripts.proofs.PrintedParts.{Without}
use Rattle.scripts.proofs.Reading.{are_read}

-- a deed whose line is one line
pub record IsLine (deed : Deed) : Type 0 where
  pub sayable : IsSayable deed
  pub one : Without 10 (line_text deed)

abbrev pub AreLines : List Deed → Type 0
AreLines [] = ⊤
AreLines (deed ∷ deeds) = IsLine deed × AreLines deeds

pub lines_both : (xs ys : List Deed) → AreLines xs → AreLines ys → AreLines (xs ++ ys)
lines_both [] ys h i = i
lines_both (x ∷ xs) ys h i = (h.0, lines_both xs ys h.1 i)

-- bytes of which none is a mark, by a test
pub without_tested : (mark : ℕ) (xs : List ℕ) → list_all (λ c. not (c == mark)) xs ≡ true → Without mark xs
without_tested mark [] e = tt
without_tested mark (c ∷ cs) e = go (c == mark) refl (without_tested mark cs) e
  where
    go : (b : Bool) → (c == mark) ≡ b → (list_all (λ c. not (c == mark)) cs ≡ true → Without mark cs)
        → (not b && list_all (λ c. not (c == mark)) cs) ≡ true → Without mark (c ∷ cs)
    go true is later e = cc
    go false is later e = (is, later e)

-- a line, its line feed, and what follows
first_line : (line rest : List ℕ) → Without 10 line → lines_of (line ++ 10 ∷ rest) ≡ line ∷ lines_of rest
unfolding lines_of
first_line [] rest h = refl
first_line (c ∷ cs) rest h = rw h.0 (ap (with_byte c) (first_line cs rest h.1))

text_read : (number : ℕ) (deeds : List Deed) → AreLines deeds → deeds_of number (lines_of (script_text deeds)) ≡ Ok deeds
unfolding deeds_of lines_of
text_read number [] h = refl
text_read number (deed ∷ deeds) h =
    let text = append_assoc (line_text deed) (codes "\n") (script_text deeds) in
    let lines = ap lines_of text ∙ first_line (line_text deed) (script_text deeds) h.0.one in
    ap (deeds_of number) lines ∙ rw (line_back deed h.0.sayable, text_read (suc number) deeds h.1) refl

-- the printed lines are counted, and say the deeds
pub text_counted : (deeds : List Deed) (count : ℕ) → AreLines deeds → count ≡ length deeds
    → AreCounted (script_text deeds) count × (deeds_in (script_text deeds) ≡ deeds)
text_counted deeds count h is =
    let read = are_read (script_text deeds) deeds (text_read 3 deeds h) in
    (record { read = read.0; count_is = is ∙ ap length (sym read.1) }, read.1)

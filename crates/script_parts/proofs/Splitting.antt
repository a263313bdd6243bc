-- A text taken apart: its first line, and its halves at the first space.
use Rattle.std.proofs.Common.{◌≡◌, ◌≢◌, ℕ, zero, suc, ◌+◌, ◌<◌, Bool, true, false, List, [], ◌∷◌, length, take, drop, get_or, refl, sym, ◌∙◌, ap, arith, nat_eq, ◌-◌, add-one}
use Rattle.std.specs.Prelude.{◌==◌, Option, Some, None, option_map, position, if◌then◌else◌}
use Rattle.std.proofs.lemmas.Bool.{eq-eqb, eqb-true}
use Rattle.std.proofs.lemmas.List.{take_rest}
use Rattle.script_parts.specs.Parts.{halves_of, lines_of, with_byte}

choose : (b : Bool) (x xs : List (List ℕ)) → b ≡ true → (if b then x else xs) ≡ x
choose true x xs h = refl
choose false x xs h = cc

refuse : (b : Bool) (x xs : List (List ℕ)) → (b ≡ true → ⊥) → (if b then x else xs) ≡ xs
refuse true x xs h = absurd (h refl)
refuse false x xs h = refl

-- a line feed ends an empty line
at_feed : (byte : ℕ) (rest : List ℕ) → byte ≡ 10 → lines_of (byte ∷ rest) ≡ [] ∷ lines_of rest
unfolding lines_of
at_feed byte rest e = choose (nat_eq byte 10) _ _ (eq-eqb byte 10 e)

-- every other byte stands in the first line
at_byte : (byte : ℕ) (rest : List ℕ) → byte ≢ 10 → lines_of (byte ∷ rest) ≡ with_byte byte (lines_of rest)
unfolding lines_of
at_byte byte rest n = refuse (nat_eq byte 10) _ _ (λ t. n (eqb-true byte 10 t))

-- a text up to its first line feed is the first line
pub first_line : (text : List ℕ) (n : ℕ) → n < length text → ((k : ℕ) → k < n → get_or text k 0 ≢ 10) → get_or text n 0 ≡ 10
    → lines_of text ≡ take n text ∷ lines_of (drop (suc n) text)
first_line [] n h before found = absurd (omega arith)
first_line (byte ∷ rest) zero h before found = at_feed byte rest found
first_line (byte ∷ rest) (suc n) h before found =
    at_byte byte rest (before zero (omega arith))
    ∙ ap (with_byte byte) (first_line rest n (omega arith) (λ k l. before (suc k) (omega arith)) found)

-- nothing has no line
pub no_lines : lines_of [] ≡ []
unfolding lines_of
no_lines = refl

-- a text without a line feed is one line
pub last_line : (text : List ℕ) → 0 < length text → ((k : ℕ) → k < length text → get_or text k 0 ≢ 10) → lines_of text ≡ text ∷ []
last_line [] h before = absurd (omega arith)
last_line (byte ∷ []) h before = at_byte byte [] (before zero (omega arith)) ∙ ap (with_byte byte) no_lines
last_line (byte ∷ next ∷ rest) h before =
    at_byte byte (next ∷ rest) (before zero (omega arith))
    ∙ ap (with_byte byte) (last_line (next ∷ rest) (omega arith) (λ k l. before (suc k) (omega arith)))

-- a first line that ends at a line feed
pub cut_line : (text : List ℕ) (n : ℕ) → n < length text → ((k : ℕ) → k < n → get_or text k 0 ≢ 10) → get_or text n 0 ≡ 10
    → lines_of text ≡ take n text ∷ lines_of (take (length text - (n + 1)) (drop (n + 1) text))
cut_line text n h before found =
    first_line text n h before found
    ∙ ap (λ rest. take n text ∷ lines_of rest) (sym (take_rest text (n + 1) ∙ rw add-one refl))

-- an empty text has no line
pub empty_lines : (text : List ℕ) → nat_eq (length text) 0 ≡ true → lines_of text ≡ []
empty_lines [] h = no_lines
empty_lines (byte ∷ rest) h = absurd (omega (arith, eqb-true (length (byte ∷ rest)) 0 h))

-- a text that has such a byte, as the code cuts it there
pub cut_halves : (mark : ℕ) (text : List ℕ) (found : Option ℕ) (at : ℕ) → found ≡ position (λ byte. byte == mark) text → found ≡ Some at
    → Some (take at text, take (length text - (at + 1)) (drop (at + 1) text)) ≡ halves_of mark text
unfolding halves_of
cut_halves mark text found at first is =
    ap (λ rest. Some (take at text, rest)) (take_rest text (at + 1))
    ∙ ap (option_map (λ k. (take k text, drop (k + 1) text))) (sym is ∙ first)

-- a text without one has no halves
pub no_halves : (mark : ℕ) (text : List ℕ) (found : Option ℕ) → found ≡ position (λ byte. byte == mark) text → found ≡ None
    → None ≡ halves_of mark text
unfolding halves_of
no_halves mark text found first is = ap (option_map (λ k. (take k text, drop (k + 1) text))) (sym is ∙ first)

-- The parts of a text from a number on, and the part that is cut under a number.
use Rattle.std.proofs.Common.{Bool, List, None, Some, [], ap, arith, false, map, suc, sym, true, ℕ, ◌+◌, ◌-◌, ◌<◌, ◌∙◌, ◌∷◌, ◌≡◌, ◌≤◌}
use Rattle.std.proofs.lemmas.Bool.Decides.{nat_tests}
use Rattle.std.specs.List.{range_with_len}
use Rattle.std.specs.Prelude.{if◌then◌else◌, nat_le, ◌&&◌}
use Rattle.boxes.specs.Parts.{Part}
use Rattle.long_text.specs.Cuts.{count_of, part_at, part_cut}
use Rattle.session_commands.specs.LongSaying.{parts_from}

one_less : (n number : ℕ) → number ≤ n → n + 1 - number ≡ suc (n + 1 - (number + 1))
one_less n number le = omega (arith, le)

none_left : (n number : ℕ) → n < number → n + 1 - number ≡ 0
none_left n number lt = omega (arith, lt)

pub parts_more : (id : ℕ) (text : List ℕ) (number : ℕ) → number ≤ count_of text
    → parts_from id text number ≡ part_at id text number ∷ parts_from id text (number + 1)
parts_more id text number le =
    ap (λ (n : ℕ). map (part_at id text) (range_with_len number n)) (one_less (count_of text) number le)

pub parts_none : (id : ℕ) (text : List ℕ) (number : ℕ) → count_of text < number
    → parts_from id text number ≡ []
parts_none id text number lt =
    ap (λ (n : ℕ). map (part_at id text) (range_with_len number n)) (none_left (count_of text) number lt)

-- ---- the part that is cut

the_one : (b : Bool) (p q : Part) → Some q ≡ (if b then Some p else None) → q ≡ p
the_one true p q e = let same : Some q ≡ Some p = e in cc
the_one false p q e = absurd (let no : Some q ≡ None = e in cc)

pub cut_is : (id : ℕ) (text : List ℕ) (number : ℕ) (part : Part) → Some part ≡ part_cut id text number
    → part ≡ part_at id text number
cut_is id text number part e =
    the_one (nat_le 1 number && nat_le number (count_of text)) (part_at id text number) part e

no_one : (b : Bool) (p : Part) → b ≡ true → None ≡ (if b then Some p else None) → ⊥
no_one true p is e = let no : None ≡ Some p = e in cc
no_one false p is e = let no : false ≡ true = is in cc

within : (n number : ℕ) → 1 ≤ number → number ≤ n → (nat_le 1 number && nat_le number n) ≡ true
within n number one most = grind (arith, nat_tests)

pub is_cut : (id : ℕ) (text : List ℕ) (number : ℕ) → 1 ≤ number → number ≤ count_of text
    → None ≡ part_cut id text number → ⊥
is_cut id text number one most e =
    no_one (nat_le 1 number && nat_le number (count_of text)) (part_at id text number)
    (within (count_of text) number one most) e

pub parts_next : (id : ℕ) (text : List ℕ) (number : ℕ) (part : Part) → number ≤ count_of text
    → Some part ≡ part_cut id text number
    → parts_from id text number ≡ part ∷ parts_from id text (number + 1)
parts_next id text number part most e =
    parts_more id text number most
    ∙ ap (λ (p : Part). p ∷ parts_from id text (number + 1)) (sym (cut_is id text number part e))

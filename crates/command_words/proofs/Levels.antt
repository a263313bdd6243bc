-- One level of clap's parse, from a place of its walk on: the separator is taken off, and a flag is refused, whatever the command's values are.
use Rattle.std.proofs.Common.{◌≡◌, ◌∙◌, ℕ, ◌&&◌, Bool, true, false, cond, refl, sym, ap, ap₂, List, [], ◌∷◌, Option, Some, None, subst}
use Rattle.std.specs.Prelude.{⊤, find, fold, slice_get}
use Rattle.std.specs.Char.{encode_utf8}
use Rattle.std.specs.List.{list_all}
use Rattle.std.specs.Option.{option_map, option_map_or}
use Rattle.std.specs.Str.{IsUtf8, chars, encode_utf8_all}
use Rattle.std.proofs.lemmas.Str.{encodes-chars}
use Rattle.clap.specs.Kinds.{Kinds, or_else}
use Rattle.clap.specs.Lexer.{long_of, short_of}
use Rattle.clap.specs.Walk.{Held, Rule, Text, Walk, arg_by_index, arg_by_long, arg_by_short, finished, is_multiple, is_pending, next_position, positional_held, pushed, settled, subcommand_met, takes_several, to_positional, walked}
use Rattle.clap.specs.Simple.{Shape}
use Rattle.clap.specs.Faults.{check_fault, defaults_fault, settle_fault, turn_fault, walk_fault}
use Rattle.clap.proofs.OnLiterals.{clap_on_literals}
use Rattle.command_words.specs.Values.{is_flag, is_separator, values_of}
use Rattle.command_words.proofs.Turns.{Place, divided, first_fails, joined, long_fails, next_fails, no_fault_so, short_fails, stands_so, waiting_for, walk_of}
use Rattle.command_words.proofs.Values.{values-flag, values-none, values-plain, values-separator}
use Rattle.command_words.proofs.WordKinds.{divides, stands, long, short, kind_of}

-- what is held after the words
abbrev pub held_after : Shape → Walk → List Text → Held
held_after s w words = (fold (walked s.rules []) w words).held

-- what the level makes of what is held at its end
abbrev pub end_fault : Shape → Held → Kinds
end_fault s held = or_else (settle_fault s.rules s.args_override_self held)
    (or_else (defaults_fault (settled s.rules held).rows s.rules) (check_fault s (finished s.rules held) false))

abbrev pub fault_from : Shape → Walk → List Text → Kinds
fault_from s w words = or_else (walk_fault s [] w words) (end_fault s (held_after s w words))

-- ---- word by word

pub fault_steps : (s : Shape) (w : Walk) (word : Text) (rest : List Text)
    → fault_from s w (word ∷ rest) ≡ or_else (turn_fault s [] w word) (fault_from s (walked s.rules [] w word) rest)
unfolding clap_on_literals
fault_steps s w word rest = joined (turn_fault s [] w word) (walk_fault s [] (walked s.rules [] w word) rest) (end_fault s (held_after s w (word ∷ rest)))

pub fault_fails : (s : Shape) (w : Walk) (word : Text) (rest : List Text) → (turn_fault s [] w word ≡ [] → ⊥) → fault_from s w (word ∷ rest) ≡ [] → ⊥
fault_fails s w word rest bad e = first_fails (turn_fault s [] w word) (fault_from s (walked s.rules [] w word) rest) bad (sym (fault_steps s w word rest) ∙ e)

-- ---- a value

-- the place after a value
abbrev pub moved : List Rule → Text → Place → Place
moved rules word l =
    option_map_or (λ a. record { held = positional_held rules a word l.held; position = next_position a l.position; several = is_multiple a }) (arg_by_index rules l.position) l

-- the command has no flags, and no argument that takes flags as values
pub record IsFlat (rules : List Rule) : Type 0 where
  pub by_long : (name : Text) → arg_by_long rules name ≡ None
  pub by_short : (x : ℕ) → arg_by_short rules x ≡ None
  pub whole : list_all (λ (a : Rule). cond a.trailing_var_arg false true) rules ≡ true

holds_of : (p q : Rule → Bool) (rules : List Rule) (a : Rule) → list_all p rules ≡ true → find q rules ≡ Some a → p a ≡ true
holds_of p q [] a h e = cc
holds_of p q (r ∷ rs) a h e = go (p r) refl (q r) (holds_of p q rs a) h e
  where
    go : (b : Bool) → p r ≡ b → (c : Bool) → (list_all p rs ≡ true → find q rs ≡ Some a → p a ≡ true)
        → (b && list_all p rs) ≡ true → cond c (Some r) (find q rs) ≡ Some a → p a ≡ true
    go true is true later h e =
        let same : r ≡ a = cc in
        ap p (sym same) ∙ is
    go true is false later h e = later h e
    go false is c later h e = cc

no_var : (b : Bool) → cond b false true ≡ true → b ≡ false
no_var true e = cc
no_var false e = refl

skip_kept : (rules : List Rule) (a : Rule) (word : Text) (held : Held) → (positional_held rules a word held).skip ≡ held.skip
skip_kept rules a word held = go (is_pending a held.pending) (takes_several a)
  where
    go : (b c : Bool) → (pushed a.id word (cond (b && c) held (settled rules held))).skip ≡ held.skip
    go true true = refl
    go true false = refl
    go false c = refl

module _ (s : Shape) (flat : IsFlat s.rules) (l : Place) (word : Text) where
  moved_skip : (moved s.rules word l).held.skip ≡ l.held.skip
  moved_skip = go (arg_by_index s.rules l.position)
    where
      go : (o : Option Rule)
          → (option_map_or (λ a. let after : Place = record { held = positional_held s.rules a word l.held; position = next_position a l.position; several = is_multiple a } in after) o l).held.skip ≡ l.held.skip
      go None = refl
      go (Some a) = skip_kept s.rules a word l.held

  -- after `--` each word is a value
  trailing_moves : walked s.rules [] (walk_of l true) word ≡ walk_of (moved s.rules word l) true
  unfolding clap_on_literals
  trailing_moves = go (arg_by_index s.rules l.position)
    where
      go : (o : Option Rule) → to_positional s.rules o word (walk_of l true) l.held
          ≡ walk_of (option_map_or (λ a. record { held = positional_held s.rules a word l.held; position = next_position a l.position; several = is_multiple a }) o l) true
      go None = refl
      go (Some a) = refl

  unmet : subcommand_met [] (waiting_for l.several) word ≡ None
  unmet = go l.several
    where
      go : (several : Bool) → subcommand_met [] (waiting_for several) word ≡ None
      go true = refl
      go false = refl

  module _ (apart : is_separator word ≡ false) (no_long : long_of word ≡ None) (no_short : short_of word ≡ None) where
    plain_turn : turn_fault s [] (walk_of l false) word ≡ turn_fault s [] (walk_of l true) word
    plain_turn = rw (no_fault_so s [] l word unmet apart no_long no_short, stands_so s [] l word unmet apart no_long no_short) refl

    plain_moves : walked s.rules [] (walk_of l false) word ≡ walk_of (moved s.rules word l) false
    unfolding clap_on_literals
    plain_moves = rw (stands_so s [] l word unmet apart no_long no_short) (go (arg_by_index s.rules l.position) refl)
      where
        go : (o : Option Rule) → arg_by_index s.rules l.position ≡ o → to_positional s.rules o word (walk_of l false) l.held
            ≡ walk_of (option_map_or (λ a. record { held = positional_held s.rules a word l.held; position = next_position a l.position; several = is_multiple a }) o l) false
        go None is = refl
        go (Some a) is = rw (no_var a.trailing_var_arg (holds_of (λ (a : Rule). cond a.trailing_var_arg false true) _ s.rules a flat.whole is)) refl

-- ---- a text that begins with a hyphen is a flag

no_first : (xs : List ℕ) → slice_get xs 0 ≡ None → xs ≡ []
no_first [] e = refl
no_first (x ∷ xs) e = cc

has_char : (y : ℕ) (zs : List ℕ) → IsUtf8 (45 ∷ y ∷ zs) → slice_get (chars (y ∷ zs)) 0 ≡ None → ⊥
unfolding chars encode_utf8
has_char y zs text none =
    let empty : chars (y ∷ zs) ≡ [] = no_first (chars (y ∷ zs)) none in
    let same : 45 ∷ [] ≡ 45 ∷ y ∷ zs = ap (λ cs. encode_utf8_all (45 ∷ cs)) (sym empty) ∙ encodes-chars (45 ∷ y ∷ zs) text in
    cc

-- ---- the words after a name

-- the words are texts
abbrev pub AreTexts : List Text → Type 0
AreTexts [] = ⊤
AreTexts (word ∷ words) = IsUtf8 word × AreTexts words

-- from this place the words come to what these values come to after `--`, or are refused where they are none
abbrev pub ComesTo : Shape → Place → List Text → Option (List Text) → Type 0
ComesTo s l words None = fault_from s (walk_of l false) words ≡ [] → ⊥
ComesTo s l words (Some values) =
    (fault_from s (walk_of l false) words ≡ fault_from s (walk_of l true) values) × (held_after s (walk_of l false) words ≡ held_after s (walk_of l true) values)

module _ (s : Shape) (flat : IsFlat s.rules) where
  flag_fails : (l : Place) (word : Text) (rest : List Text) → IsUtf8 word → l.held.skip ≡ 0 → is_separator word ≡ false → is_flag word ≡ true
      → turn_fault s [] (walk_of l false) word ≡ [] → ⊥
  flag_fails l word rest text skip apart flag = elim (kind_of word) [
    | divides e ↦ absurd cc
    | stands e f p h ↦ absurd cc
    | long e f p is ↦ long_fails s [] l word (unmet s flat l word) p e is (flat.by_long p.0)
    | short e f p y zs h is ↦ go y zs e p h is (slice_get (chars (y ∷ zs)) 0) refl
  ]
    where
      go : (y : ℕ) (zs : List ℕ) → is_separator word ≡ false → long_of word ≡ None → short_of word ≡ Some (y ∷ zs) → word ≡ 45 ∷ y ∷ zs
          → (o : Option ℕ) → slice_get (chars (y ∷ zs)) 0 ≡ o → turn_fault s [] (walk_of l false) word ≡ [] → ⊥
      go y zs e p h is (Some x) q = short_fails s [] l word (unmet s flat l word) y zs x e p h q (flat.by_short x) skip
      go y zs e p h is None q = absurd (has_char y zs (subst IsUtf8 is text) q)

  plain_comes : (l : Place) (word : Text) (rest : List Text) → is_separator word ≡ false → long_of word ≡ None → short_of word ≡ None
      → (o : Option (List Text)) → ComesTo s (moved s.rules word l) rest o → ComesTo s l (word ∷ rest) (option_map (λ values. word ∷ values) o)
  plain_comes l word rest e p h None later = λ bad.
      next_fails (turn_fault s [] (walk_of l false) word) (fault_from s (walked s.rules [] (walk_of l false) word) rest)
      (λ none. later (ap (λ w. fault_from s w rest) (sym (plain_moves s flat l word e p h)) ∙ none)) (sym (fault_steps s (walk_of l false) word rest) ∙ bad)
  plain_comes l word rest e p h (Some values) later = (
    fault_steps s (walk_of l false) word rest
        ∙ ap₂ or_else (plain_turn s flat l word e p h)
        (ap (λ w. fault_from s w rest) (plain_moves s flat l word e p h) ∙ later.0 ∙ ap (λ w. fault_from s w values) (sym (trailing_moves s flat l word)))
        ∙ sym (fault_steps s (walk_of l true) word values),
    ap (λ w. held_after s w rest) (plain_moves s flat l word e p h) ∙ later.1 ∙ ap (λ w. held_after s w values) (sym (trailing_moves s flat l word)),
  )

  pub comes_to : (l : Place) (words : List Text) → AreTexts words → l.held.skip ≡ 0 → ComesTo s l words (values_of words)
  unfolding clap_on_literals
  comes_to l [] texts skip = subst (ComesTo s l []) (sym values-none) (refl, refl)
  comes_to l (word ∷ rest) texts skip = elim (kind_of word) [
    | divides e ↦ (
        let step = divided s [] l word (unmet s flat l word) e in
        subst (ComesTo s l (word ∷ rest)) (sym (values-separator word rest e)) (
          fault_steps s (walk_of l false) word rest ∙ ap₂ (λ (k : Kinds) (w : Walk). or_else k (fault_from s w rest)) step.0 step.1,
          ap (λ w. held_after s w rest) step.1,
        ))
    | stands e f p h ↦ subst (ComesTo s l (word ∷ rest)) (sym (values-plain word rest e f))
        (plain_comes l word rest e p h (values_of rest) (comes_to (moved s.rules word l) rest texts.1 (moved_skip s flat l word ∙ skip)))
    | long e f p is ↦ subst (ComesTo s l (word ∷ rest)) (sym (values-flag word rest e f))
        (fault_fails s (walk_of l false) word rest (flag_fails l word rest texts.0 skip e f))
    | short e f p y zs h is ↦ subst (ComesTo s l (word ∷ rest)) (sym (values-flag word rest e f))
        (fault_fails s (walk_of l false) word rest (flag_fails l word rest texts.0 skip e f))
  ]

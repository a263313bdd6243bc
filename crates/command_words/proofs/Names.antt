-- What clap makes of a whole line of words, by the row of its first word.
use Rattle.std.proofs.Common.{◌==◌, arith, ◌≡◌, ◌∙◌, ℕ, ◌||◌, ◌&&◌, Bool, true, false, cond, refl, sym, ap, ap₂, List, [], ◌∷◌, map, Option, Some, None, codes}
use Rattle.std.specs.Prelude.{find, fold, is_some}
use Rattle.std.specs.Option.{option_map, option_map_or}
use Rattle.std.specs.Str.{bytes_eq}
use Rattle.std.proofs.lemmas.Bool.Decides.{nat_tests}
use Rattle.std.proofs.lemmas.Slice.Eq.{bytes_eq-Decides}
use Rattle.clap.specs.Kinds.{Kinds, or_else}
use Rattle.clap.specs.Walk.{Held, Names, Row as Found, Text, finished, settled, Walk, answers_to, idle, nothing_held, rows_after, stop_after, subcommand_met, walk, walked}
use Rattle.clap.specs.declared.error.kind.ErrorKind.TheVariants.{DisplayHelp, InvalidSubcommand}
use Rattle.clap.specs.Simple.{App, Shape, argument_words, built, entered, names_of, rows_at, label_of, subcommand_of}
use Rattle.clap.specs.Faults.{built_fault, check_fault, defaults_fault, entered_fault, fault_of, level_fault, settle_fault, turn_fault, walk_fault}
use Rattle.clap.proofs.FaultLemmas.{stopped_fault}
use Rattle.clap.proofs.OnLiterals.{clap_on_literals}
use Rattle.clap.proofs.WalkLemmas.{walk_stopped}
use Rattle.command_words.specs.Commands.{Row, row_of}
use Rattle.command_words.specs.Values.{is_separator}
use Rattle.command_words.specs.Application.{application}
use Rattle.command_words.proofs.Building.{built_row, built_top, subs_are}
use Rattle.command_words.proofs.Leaves.{leaf_fault}
use Rattle.command_words.proofs.Turns.{IsFull, first_fails, first_none, next_fails, full_fails, surplus_fails, start, walk_of}

or_false : (b : Bool) → (b || false) ≡ b
or_false true = refl
or_false false = refl

-- ---- a name among the subcommands is one of the table

either_way : (a b : Text) → bytes_eq a b ≡ bytes_eq b a
either_way [] [] = refl
either_way [] (y ∷ ys) = refl
either_way (x ∷ xs) [] = refl
either_way (x ∷ xs) (y ∷ ys) = ap₂ ◌&&◌ (same x y) (either_way xs ys)
  where
    same : (m n : ℕ) → (m == n) ≡ (n == m)
    same m n = grind (arith, nat_tests)

answers : (row : Row) (word : Text) → answers_to word (label_of (built_row row)) ≡ bytes_eq word row.name
answers row word = or_false (bytes_eq row.name word) ∙ either_way row.name word

shape_found : (table : List Row) (word : Text) → find (λ s. answers_to word (label_of s)) (map built_row table) ≡ option_map built_row (row_of table word)
shape_found [] word = refl
shape_found (row ∷ rest) word = rw (answers row word) (go (bytes_eq word row.name) (shape_found rest word))
  where
    go : (b : Bool) → find (λ s. answers_to word (label_of s)) (map built_row rest) ≡ option_map built_row (row_of rest word)
        → cond b (Some (built_row row)) (find (λ s. answers_to word (label_of s)) (map built_row rest)) ≡ option_map built_row (cond b (Some row) (row_of rest word))
    go true e = refl
    go false e = e

abbrev names_in : List Row → Names
names_in table = map label_of (map built_row table)

name_found : (table : List Row) (word : Text) → subcommand_met (names_in table) idle word ≡ option_map (λ row. row.name) (row_of table word)
name_found [] word = refl
name_found (row ∷ rest) word = rw (answers row word) (go (bytes_eq word row.name) (name_found rest word))
  where
    go : (b : Bool) → subcommand_met (names_in rest) idle word ≡ option_map (λ (r : Row). r.name) (row_of rest word)
        → option_map (λ (s : Text × List Text). s.0) (cond b (Some (label_of (built_row row))) (find (answers_to word) (names_in rest)))
        ≡ option_map (λ (r : Row). r.name) (cond b (Some row) (row_of rest word))
    go true e = refl
    go false e = e

-- the row of a name has that name
pub row_name : (table : List Row) (word : Text) (row : Row) → row_of table word ≡ Some row → row.name ≡ word
row_name [] word row e = cc
row_name (first ∷ rest) word row e = go (bytes_eq word first.name) refl (row_name rest word row) e
  where
    go : (b : Bool) → bytes_eq word first.name ≡ b → (row_of rest word ≡ Some row → row.name ≡ word) → cond b (Some first) (row_of rest word) ≡ Some row → row.name ≡ word
    go true is later e =
        let same : first ≡ row = cc in
        ap (λ (r : Row). r.name) (sym same) ∙ sym ((bytes_eq-Decides word first.name).0 is)
    go false is later e = later e

-- ---- the application as clap builds it

abbrev built_app : List Row → App
built_app table = record { top = built_top; subs = map built_row table }

built_is : (table : List Row) → built (application table) ≡ built_app table
built_is table = ap (λ (subs : List Shape). let a : App = record { top = built_top; subs = subs } in a) (subs_are table)

-- what the words above the subcommands come to at the end
abbrev ending : Held → Bool → Kinds
ending held has = or_else (settle_fault [] false held) (or_else (defaults_fault (settled [] held).rows []) (check_fault built_top (finished [] held) has))

abbrev subcommand_from : App → List Text → Option (Text × List Found)
subcommand_from a words = entered a (stop_after a.top.rules (names_of a) (argument_words a words))

-- ---- a first word of the table

module _ (table : List Row) (word : Text) (row : Row) (found : row_of table word ≡ Some row) (behind : List Text) where
  met : subcommand_met (names_in table) idle word ≡ Some word
  met = name_found table word ∙ ap (option_map (λ (r : Row). r.name)) found ∙ ap (λ name. Some name) (row_name table word row found)

  entering : walked [] (names_in table) (walk_of start false) word ≡ record (walk_of start false) { stopped = Some (word, []) }
  unfolding clap_on_literals
  entering = rw met refl

  walk_is : walk [] (names_in table) nothing_held (word ∷ behind) ≡ record (walk_of start false) { stopped = Some (word, behind) }
  walk_is = ap (λ w. fold (walked [] (names_in table)) w behind) entering ∙ sym (walk_stopped [] (names_in table) (walk_of start false) word [] behind)

  turn_none : turn_fault built_top (names_in table) (walk_of start false) word ≡ []
  unfolding clap_on_literals
  turn_none = rw met (go (bytes_eq word (codes "help")))
    where
      go : (b : Bool) → or_else (cond (b && false) (DisplayHelp ∷ InvalidSubcommand ∷ []) []) [] ≡ []
      go true = refl
      go false = refl

  walk_none : walk_fault built_top (names_in table) (walk_of start false) (word ∷ behind) ≡ []
  unfolding clap_on_literals
  walk_none = ap₂ or_else turn_none (ap (λ w. walk_fault built_top (names_in table) w behind) entering
      ∙ stopped_fault built_top (names_in table) (walk_of start false) (word, []) behind)

  shape_is : find (λ s. answers_to word (label_of s)) (map built_row table) ≡ Some (built_row row)
  shape_is = shape_found table word ∙ ap (option_map built_row) found

  -- the level above adds nothing to what the subcommand makes of its words
  level_is : (has : Bool) (below : Kinds) → level_fault built_top (names_in table) nothing_held (word ∷ behind) has below ≡ below
  unfolding clap_on_literals
  level_is has below =
      ap (λ k. or_else k (or_else below (ending (walk [] (names_in table) nothing_held (word ∷ behind)).held has))) walk_none
      ∙ ap (λ (w : Walk). or_else below (ending w.held has)) walk_is ∙ go has below
    where
      go : (b : Bool) (k : Kinds) → or_else k (ending nothing_held b) ≡ k
      go true [] = refl
      go true (x ∷ xs) = refl
      go false [] = refl
      go false (x ∷ xs) = refl

  pub named_fault : fault_of (application table) (word ∷ behind) ≡ leaf_fault (built_row row) behind
  named_fault =
      let stop = (walk [] (names_in table) nothing_held (word ∷ behind)).stopped in
      ap (λ a. built_fault a nothing_held (word ∷ behind)) (built_is table)
      ∙ level_is (is_some (entered (built_app table) stop)) (entered_fault (built_app table) stop)
      ∙ ap (λ (w : Walk). entered_fault (built_app table) w.stopped) walk_is
      ∙ ap (λ o. option_map_or (λ s. leaf_fault s behind) o []) shape_is

  pub named_rows : subcommand_of (application table) (word ∷ behind) ≡ Some (word, rows_after (built_row row).rules [] behind)
  named_rows =
      ap (λ a. subcommand_from a (word ∷ behind)) (built_is table) ∙ ap (λ (w : Walk). entered (built_app table) w.stopped) walk_is
      ∙ ap (option_map (λ s. rows_at s behind)) shape_is
      ∙ ap (λ name. Some (name, rows_after (built_row row).rules [] behind)) (row_name table word row found)

-- ---- no words, and a first word that the table lacks

pub nothing_entered : (table : List Row) → subcommand_of (application table) [] ≡ None
nothing_entered table = ap (λ a. subcommand_from a []) (built_is table)

no_positional : IsFull built_top start
no_positional = record { by_index = refl; by_long = λ name. refl; by_short = λ x. refl; no_skip = refl }

module _ (table : List Row) (word : Text) (none : row_of table word ≡ None) where
  unmet : subcommand_met (names_in table) idle word ≡ None
  unmet = name_found table word ∙ ap (option_map (λ (r : Row). r.name)) none

  -- the first word is refused, or is the separator and stands alone
  refused : (behind : List Text) → is_separator word ≡ false → walk_fault built_top (names_in table) (walk_of start false) (word ∷ behind) ≡ [] → ⊥
  unfolding clap_on_literals
  refused behind apart = first_fails _ (walk_fault built_top (names_in table) (walked [] (names_in table) (walk_of start false) word) behind)
      (full_fails built_top (names_in table) start word no_positional unmet apart refl)

  separating : is_separator word ≡ true → walked [] (names_in table) (walk_of start false) word ≡ walk_of start true
  unfolding clap_on_literals
  separating is = rw (unmet, is) refl

  surplus : (next : Text) (more : List Text) → is_separator word ≡ true
      → walk_fault built_top (names_in table) (walk_of start false) (word ∷ next ∷ more) ≡ [] → ⊥
  unfolding clap_on_literals
  surplus next more is =
      rw (separating is) (next_fails (turn_fault built_top (names_in table) (walk_of start false) word) _
      (first_fails _ (walk_fault built_top (names_in table) (walked [] (names_in table) (walk_of start true) next) more)
      (surplus_fails built_top (names_in table) start next no_positional)))

  walk_passes : (behind : List Text) → fault_of (application table) (word ∷ behind) ≡ []
      → walk_fault built_top (names_in table) (walk_of start false) (word ∷ behind) ≡ []
  walk_passes behind e = first_none _ _ (sym (ap (λ a. built_fault a nothing_held (word ∷ behind)) (built_is table)) ∙ e)

  pub unnamed_entered : (behind : List Text) → fault_of (application table) (word ∷ behind) ≡ [] → subcommand_of (application table) (word ∷ behind) ≡ None
  unnamed_entered behind e = go (is_separator word) refl behind (walk_passes behind e)
    where
      go : (b : Bool) → is_separator word ≡ b → (behind : List Text) → walk_fault built_top (names_in table) (walk_of start false) (word ∷ behind) ≡ []
          → subcommand_of (application table) (word ∷ behind) ≡ None
      go false apart behind e = absurd (refused behind apart e)
      go true is [] e = ap (λ a. subcommand_from a (word ∷ [])) (built_is table) ∙ ap (λ (w : Walk). entered (built_app table) w.stopped) (separating is)
      go true is (next ∷ more) e = absurd (surplus next more is e)

-- The application as clap builds it.
use Rattle.std.proofs.Common.{◌≡◌, ◌∙◌, ◌+◌, ◌<◌, ◌≤◌, ℕ, refl, sym, ap, arith, take_all, true, false, length, take, get_or, List, [], ◌∷◌, map}
use Rattle.std.specs.Borrow.{Bor}
use Rattle.std.proofs.lemmas.List.{get_or-map, length-map}
use Rattle.std.proofs.lemmas.List.Sums.{fold_more}
use Rattle.clap.specs.Walk.{Rule, Text, texts}
use Rattle.clap.specs.Simple.{Shape, built, filled_from, is_simple, with_subcommand}
use Rattle.clap.specs.Faults.{is_simple_and_free}
use Rattle.clap.proofs.OnLiterals.{clap_on_literals}
use Rattle.command_words.specs.Application.{application, application_of, empty_application, rules, shape_named, shape_with, top_shape}
use Rattle.command_words.specs.Commands.{Row, rows}

-- ---- name by name

pub one_more : (names : List (Bor Text)) (i : ℕ) (d : Bor Text) → i < length names
    → application_of (take (i + 1) (texts names)) ≡ with_subcommand (application_of (take i (texts names))) (shape_named (get_or names i d).now)
one_more names i d lt =
    fold_more (λ app name. with_subcommand app (shape_named name)) empty_application (texts names) i d.now
    (omega (arith, lt, length-map names (λ (s : Bor Text). s.now)))
    ∙ ap (λ name. with_subcommand (application_of (take i (texts names))) (shape_named name)) (get_or-map (λ (s : Bor Text). s.now) names i d d.now lt)

-- where they are those of the rows, there are 30, and all of them make the application
pub how_many : (names : List (Bor Text)) → texts names ≡ map (λ (row : Row). row.name) rows → length names ≡ 30
how_many names are = sym (length-map names (λ (s : Bor Text). s.now)) ∙ ap length are

pub all_named : (names : List (Bor Text)) (i : ℕ) → texts names ≡ map (λ (row : Row). row.name) rows → 30 ≤ i
    → application_of (take i (texts names)) ≡ application rows
all_named names i are all =
    ap application_of (take_all i (texts names) (omega (arith, all, ap length are))) ∙ ap application_of are

-- ---- built

-- a shape without help, as building leaves it
abbrev finished_shape : Shape → Shape
finished_shape s = record s {
  no_binary_name = true;
  disable_help_flag = true;
  disable_help_subcommand = true;
  is_built = true;
}

abbrev pub built_top : Shape
built_top = finished_shape (record top_shape { is_leaf = false })

abbrev pub built_rules : List Rule
built_rules = filled_from 1 rules

abbrev pub built_for : List ℕ → Shape
built_for name = finished_shape (shape_with name built_rules)

abbrev pub built_row : Row → Shape
built_row row = built_for row.name

pub subs_are : (table : List Row) → (built (application table)).subs ≡ map built_row table
subs_are [] = refl
subs_are (row ∷ rest) = ap (λ (ss : List Shape). built_row row ∷ ss) (subs_are rest)

pub is_simple_and_free_is : is_simple_and_free (application rows) ≡ true
unfolding clap_on_literals
is_simple_and_free_is = refl

pub is_simple_is : is_simple (application rows) ≡ true
unfolding clap_on_literals
is_simple_is = refl

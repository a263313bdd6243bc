-- From what clap's parse says of its result to the command.
use Rattle.std.proofs.Common.{◌≡◌, ◌∙◌, ◌≤◌, ◌<◌, ◌-◌, true, refl, sym, ap, ap₂, arith, subst, length, take, drop, get_or, take_all, inl, inr, List, [], ◌∷◌, ◌++◌, map, String, string_bytes, Option, Some, None, codes}
use Rattle.std.specs.Prelude.{Box, unwrap_or}
use Rattle.std.specs.Borrow.{Bor}
use Rattle.std.specs.Box.{box_value}
use Rattle.std.specs.Option.{option_map}
use Rattle.std.proofs.lemmas.List.{nil_from_length}
use Rattle.std.proofs.lemmas.Str.{IsUtf8-string_bytes}
use Rattle.clap.specs.Kinds.{HasKind}
use Rattle.clap.specs.Matches.{found_of, matched_of, raw_values, subcommand_name_of}
use Rattle.clap.specs.Values.{kind_of}
use Rattle.clap.specs.Walk.{Row, Text, rows_of, texts}
use Rattle.clap.specs.Simple.{App, HasMatchesOf, is_simple, subcommand_of, subcommand_rows, subcommand_rows_of}
use Rattle.clap.specs.Faults.{fault_of, is_simple_and_free}
use Rattle.clap.specs.declared.error.Error.{Error}
use Rattle.clap.specs.declared.error.kind.ErrorKind.TheVariants.{OutOfMemory}
use Rattle.clap.specs.declared.parser.matches.ArgMatches.{ArgMatches}
use Rattle.clap.specs.declared.parser.matches.ArgMatches.TheViews.{out-ArgMatches, out-SubCommand}
use Rattle.clap.specs.declared.parser.matches.Found.{Found}
use Rattle.clap.specs.declared.parser.matches.SubCommand.{SubCommand}
use Rattle.clap.proofs.WalkLemmas.{raw_values-rows}
use Rattle.command_words.specs.Application.{application}
use Rattle.command_words.specs.Commands.{Work, command_in, command_named, command_of, rows}
use Rattle.command_words.specs.Values.{values_found}
use Rattle.command_words.proofs.Building.{is_simple_and_free_is, is_simple_is}
use Rattle.command_words.proofs.Levels.{AreTexts}
use Rattle.command_words.proofs.Readings.{command_entered, passes, taken}

-- a parse that fails, but not for want of memory, was of no command
refused : (words : List Text) → AreTexts words → (e : Error) → HasKind (fault_of (application rows) words) e → (kind_of e ≡ OutOfMemory → ⊥) → None ≡ command_of words
unfolding command_of
refused words texts e has other = go (command_in rows words) refl
  where
    go : (o : Option Work) → command_in rows words ≡ o → None ≡ o
    go None is = refl
    go (Some work) is = elim (subst (λ kinds. HasKind kinds e) (passes rows words work texts is) has) [
      | inl memory ↦ absurd (other memory)
      | inr among ↦ absurd among
    ]

-- the subcommand that a parse entered, by its name and its rows
module _ {Z : Type 0} where
  entered_is : (o : Option (Box SubCommand Z)) (name : Text) (found : List Row) → Some name ≡ option_map (λ b. (out-SubCommand (box_value b)).name.now) o
      → Some found ≡ option_map (λ p. p.1) (subcommand_rows o) → subcommand_rows o ≡ Some (name, found)
  entered_is None name found n f = cc
  entered_is (Some b) name found n f = cc

  none_entered : (o : Option (Box SubCommand Z)) → None ≡ option_map (λ (p : Text × List Row). p.1) (subcommand_rows o) → subcommand_rows o ≡ None
  none_entered None f = refl
  none_entered (Some b) f = cc

-- the words of a program are texts
pub are_texts : {Y : Type 0} (words : List (String Y)) → AreTexts (map string_bytes words)
are_texts [] = tt
are_texts (word ∷ words) = (IsUtf8-string_bytes word, are_texts words)

-- the values, found by their name
pub all_values : (f : Found) (found : Option (List Text)) (none all : List Text) → none ≡ [] → all ≡ none ++ unwrap_or found []
    → found ≡ option_map raw_values (matched_of f (codes "values")) → all ≡ values_found (rows_of f)
all_values f found none all empty put is = put ∙ ap₂ (λ xs o. xs ++ unwrap_or o []) empty (is ∙ raw_values-rows f (codes "values"))

-- no value, one, and two
pub none_given : (xs : List (Bor Text)) → length xs < 1 → texts xs ≡ []
none_given xs h = ap texts (nil_from_length xs (omega (arith, h)))

pub one_given : (xs : List (Bor Text)) (d : Bor Text) → 1 ≤ length xs → length xs < 2 → texts xs ≡ (get_or xs 0 d).now ∷ []
one_given [] d some few = absurd (omega (arith, some))
one_given (a ∷ []) d some few = refl
one_given (a ∷ b ∷ rest) d some few = absurd (omega (arith, few))

pub two_given : (xs : List (Bor Text)) (d : Bor Text) → 2 ≤ length xs → length xs < 3
    → texts xs ≡ (get_or xs 0 d).now ∷ (get_or xs 1 d).now ∷ []
two_given [] d some few = absurd (omega (arith, some))
two_given (a ∷ []) d some few = absurd (omega (arith, some))
two_given (a ∷ b ∷ []) d some few = refl
two_given (a ∷ b ∷ c ∷ rest) d some few = absurd (omega (arith, few))

-- three, and four with those after them
pub three_given : (xs : List (Bor Text)) (d : Bor Text) → 3 ≤ length xs → length xs < 4
    → (third : Text) × (texts xs ≡ (get_or xs 0 d).now ∷ (get_or xs 1 d).now ∷ third ∷ [])
three_given [] d some few = absurd (omega (arith, some))
three_given (a ∷ []) d some few = absurd (omega (arith, some))
three_given (a ∷ b ∷ []) d some few = absurd (omega (arith, some))
three_given (a ∷ b ∷ c ∷ []) d some few = (c.now, refl)
three_given (a ∷ b ∷ c ∷ e ∷ rest) d some few = absurd (omega (arith, few))

pub four_or_more : (xs : List (Bor Text)) (d : Bor Text) → 4 ≤ length xs
    → (third fourth : Text) × (others : List Text) × (texts xs ≡ (get_or xs 0 d).now ∷ (get_or xs 1 d).now ∷ third ∷ fourth ∷ others)
four_or_more [] d h = absurd (omega (arith, h))
four_or_more (a ∷ []) d h = absurd (omega (arith, h))
four_or_more (a ∷ b ∷ []) d h = absurd (omega (arith, h))
four_or_more (a ∷ b ∷ c ∷ []) d h = absurd (omega (arith, h))
four_or_more (a ∷ b ∷ c ∷ e ∷ rest) d h = (c.now, e.now, texts rest, refl)

module _ (app : App) (words : List Text) (texts : AreTexts words) (is : app ≡ application rows) where
  pub failed : (e : Error) → (is_simple_and_free app ≡ true → HasKind (fault_of app words) e) → (kind_of e ≡ OutOfMemory → ⊥) → None ≡ command_of words
  failed e has other =
      refused words texts e (subst (λ a. HasKind (fault_of a words) e) is (has (ap is_simple_and_free is ∙ is_simple_and_free_is))) other

  module _ (m : ArgMatches) (free : is_simple_and_free app ≡ true → fault_of app words ≡ []) (has : HasMatchesOf app words m) where
    fault_is : fault_of (application rows) words ≡ []
    fault_is = ap (λ a. fault_of a words) (sym is) ∙ free (ap is_simple_and_free is ∙ is_simple_and_free_is)

    rows_are : subcommand_rows_of m ≡ subcommand_of (application rows) words
    rows_are = (has (ap is_simple is ∙ is_simple_is)).1 ∙ ap (λ a. subcommand_of a words) is

    pub unanswered : None ≡ option_map (λ (p : Text × List Row). p.1) (subcommand_rows_of m) → None ≡ command_of words
    unfolding command_of
    unanswered none =
        let entered : subcommand_of (application rows) words ≡ None = sym rows_are ∙ none_entered (out-ArgMatches m).subcommand none in
        ap (command_entered rows) (sym entered) ∙ taken rows words texts fault_is

    pub answered : (given : ArgMatches) (name : Text) (values : List Text) → Some name ≡ subcommand_name_of m
        → Some (rows_of (found_of given)) ≡ option_map (λ (p : Text × List Row). p.1) (subcommand_rows_of m)
        → values ≡ values_found (rows_of (found_of given)) → command_named rows name values ≡ command_of words
    unfolding command_of
    answered given name values named found read =
        let entered : subcommand_of (application rows) words ≡ Some (name, rows_of (found_of given)) =
        sym rows_are ∙ entered_is (out-ArgMatches m).subcommand name (rows_of (found_of given)) named found in
        ap (command_named rows name) read ∙ ap (command_entered rows) (sym entered) ∙ taken rows words texts fault_is

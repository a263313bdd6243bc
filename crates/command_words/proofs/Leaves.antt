-- What clap makes of a command's values, each taken as a value.
use Rattle.std.proofs.Common.{◌≡◌, ◌∙◌, true, false, refl, sym, ap, append_assoc, List, [], ◌∷◌, ◌++◌, Option, Some, None, codes}
use Rattle.clap.specs.Kinds.{Kinds}
use Rattle.clap.specs.Walk.{Held, Row as Found, Text, finished, nothing_held, reading_by, rows_after, walked}
use Rattle.clap.specs.declared.parser.matches.ValueSource.TheVariants.{CommandLine}
use Rattle.clap.specs.Simple.{Shape}
use Rattle.clap.specs.Faults.{level_fault, turn_fault}
use Rattle.clap.proofs.OnLiterals.{clap_on_literals}
use Rattle.command_words.specs.Application.{each_value}
use Rattle.command_words.specs.Values.{values_found, values_of}
use Rattle.command_words.proofs.Building.{built_for, built_rules}
use Rattle.command_words.proofs.Levels.{AreTexts, ComesTo, IsFlat, comes_to, fault_from, fault_steps, held_after}
use Rattle.command_words.proofs.Turns.{Place, start, walk_of}

-- why a subcommand with these words fails
abbrev pub leaf_fault : Shape → List Text → Kinds
leaf_fault s words = level_fault s [] nothing_held words false []

-- ---- one more value and one more

-- the row of an argument's values
row_for : List Text → Found
row_for values = record {
  id = codes "values";
  values = values;
  count = None;
  source = Some CommandLine;
  reading = reading_by (each_value (codes "values"));
}

rows_for : List Text → List Found
rows_for [] = []
rows_for (value ∷ values) = row_for (value ∷ values) ∷ []

-- the values seen, and the last, which is read
collecting : List Text → Text → Held
collecting seen last = record { rows = rows_for seen; pending = Some (codes "values", last ∷ []); skip = 0 }

collecting_at : List Text → Text → Place
collecting_at seen last = record { held = collecting seen last; position = 1; several = true }

module _ (name : Text) where
  one_more : (seen : List Text) (last word : Text)
      → (turn_fault (built_for name) [] (walk_of (collecting_at seen last) true) word ≡ [])
      × (walked built_rules [] (walk_of (collecting_at seen last) true) word ≡ walk_of (collecting_at (seen ++ last ∷ []) word) true)
  unfolding clap_on_literals row_for rows_for collecting collecting_at
  one_more [] last word = (refl, refl)
  one_more (value ∷ values) last word = (refl, refl)

  last_found : (seen : List Text) (last : Text)
      → (fault_from (built_for name) (walk_of (collecting_at seen last) true) [] ≡ [])
      × (values_found (finished built_rules (collecting seen last)) ≡ seen ++ last ∷ [])
  unfolding clap_on_literals row_for rows_for collecting collecting_at
  last_found [] last = (refl, refl)
  last_found (value ∷ values) last = (refl, refl)

  all_found : (seen : List Text) (last : Text) (more : List Text)
      → (fault_from (built_for name) (walk_of (collecting_at seen last) true) more ≡ [])
      × (values_found (finished built_rules (held_after (built_for name) (walk_of (collecting_at seen last) true) more)) ≡ seen ++ last ∷ more)
  unfolding collecting_at
  all_found seen last [] = last_found seen last
  all_found seen last (word ∷ more) =
      let step = one_more seen last word in
      let later = all_found (seen ++ last ∷ []) word more in
      let s = built_for name in (
        fault_steps s (walk_of (collecting_at seen last) true) word more ∙ rw (step.0, step.1) later.0,
        ap (λ w. values_found (finished built_rules (held_after s w more))) step.1 ∙ later.1
            ∙ append_assoc seen (last ∷ []) (word ∷ more),
      )

  -- ---- all values, after `--`

  -- the parse passes
  values_pass : (values : List Text) → fault_from (built_for name) (walk_of start true) values ≡ []
  unfolding clap_on_literals collecting_at collecting row_for rows_for
  values_pass [] = refl
  values_pass (value ∷ more) = (all_found [] value more).0

  -- and they are what it found
  values_hold : (values : List Text) → values_found (finished built_rules (held_after (built_for name) (walk_of start true) values)) ≡ values
  unfolding clap_on_literals collecting_at collecting row_for rows_for
  values_hold [] = refl
  values_hold (value ∷ more) = (all_found [] value more).1

-- ---- the words

flat : IsFlat built_rules
flat = record { by_long = λ name. refl; by_short = λ x. refl; whole = refl }

module _ (name : Text) (words : List Text) (texts : AreTexts words) where
  comes : ComesTo (built_for name) start words (values_of words)
  comes = comes_to (built_for name) flat start words texts refl

  -- where the parse passes, the values of the words are what it found
  pub leaf_holds : leaf_fault (built_for name) words ≡ [] → values_of words ≡ Some (values_found (rows_after built_rules [] words))
  leaf_holds e = go (values_of words) comes
    where
      go : (o : Option (List Text)) → ComesTo (built_for name) start words o → o ≡ Some (values_found (rows_after built_rules [] words))
      go None later = absurd (later e)
      go (Some values) later =
          ap (λ vs. Some vs) (sym (values_hold name values)
          ∙ ap (λ h. values_found (finished built_rules h)) (sym later.1))

  -- where the words have values, the parse passes
  pub leaf_passes : (values : List Text) → values_of words ≡ Some values → leaf_fault (built_for name) words ≡ []
  leaf_passes values e =
      let later : ComesTo (built_for name) start words (Some values) = rw e at comes in
      later.0 ∙ values_pass name values

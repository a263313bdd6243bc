-- What clap makes of the words of a command is what they are.
use Rattle.std.proofs.Common.{◌≡◌, ◌∙◌, refl, sym, ap, List, [], ◌∷◌, Option, Some, None}
use Rattle.std.specs.Option.{option_and_then}
use Rattle.clap.specs.Walk.{Row as Found, Text}
use Rattle.clap.specs.Simple.{subcommand_of}
use Rattle.clap.specs.Faults.{fault_of}
use Rattle.command_words.specs.Application.{application}
use Rattle.command_words.specs.Commands.{Row, Work, command_in, command_named, row_of}
use Rattle.command_words.specs.Values.{values_found, values_of}
use Rattle.command_words.proofs.Leaves.{leaf_holds, leaf_passes}
use Rattle.command_words.proofs.Levels.{AreTexts}
use Rattle.command_words.proofs.Names.{named_fault, named_rows, nothing_entered, unnamed_entered}

-- the command of a subcommand that was entered
abbrev pub command_entered : List Row → Option (Text × List Found) → Option Work
command_entered table entered = option_and_then (λ p. command_named table p.0 (values_found p.1)) entered

no_command : (table : List Row) (name : Text) (values : Option (List Text)) → row_of table name ≡ None → option_and_then (command_named table name) values ≡ None
no_command table name None none = refl
no_command table name (Some vs) none = rw none refl

-- where the parse passes, the subcommand that it entered is the command
pub taken : (table : List Row) (words : List Text) → AreTexts words → fault_of (application table) words ≡ [] → command_entered table (subcommand_of (application table) words) ≡ command_in table words
taken table [] texts e = ap (command_entered table) (nothing_entered table)
taken table (word ∷ behind) texts e = go (row_of table word) refl
  where
    go : (found : Option Row) → row_of table word ≡ found → command_entered table (subcommand_of (application table) (word ∷ behind)) ≡ command_in table (word ∷ behind)
    go None none = ap (command_entered table) (unnamed_entered table word none behind e) ∙ sym (no_command table word (values_of behind) none)
    go (Some row) is =
        let rows = named_rows table word row is behind in
        let values = leaf_holds row.name behind texts.1 (sym (named_fault table word row is behind) ∙ e) in
        ap (command_entered table) rows ∙ sym (ap (option_and_then (command_named table word)) values)

-- where the words are a command, the parse passes
pub passes : (table : List Row) (words : List Text) (work : Work) → AreTexts words → command_in table words ≡ Some work → fault_of (application table) words ≡ []
passes table [] work texts e = cc
passes table (word ∷ behind) work texts e = go (row_of table word) refl (values_of behind) refl e
  where
    go : (found : Option Row) → row_of table word ≡ found → (values : Option (List Text)) → values_of behind ≡ values
        → option_and_then (command_named table word) values ≡ Some work → fault_of (application table) (word ∷ behind) ≡ []
    go None none values v e =
        let bad : None ≡ Some work = sym (no_command table word values none) ∙ e in
        cc
    go (Some row) is None v e = cc
    go (Some row) is (Some values) v e =
        named_fault table word row is behind
        ∙ leaf_passes row.name behind texts.1 values v

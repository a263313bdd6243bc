-- The application as clap is told it: one subcommand for each row of the table. Clap takes the words
-- after its name as values, however many they are; how many there may be, the row says.
use Rattle.std.specs.Prelude.{◌≡◌, ℕ, true, false, List, [], ◌∷◌, Some, Result, IfOk, map, codes}
use Rattle.std.specs.List.{fold}
use Rattle.clap.specs.declared.builder.command.Command.{Command}
use Rattle.clap.specs.declared.builder.command.Command.TheViews.{out-Command}
use Rattle.clap.specs.declared.builder.action.ArgAction.TheVariants.{Append}
use Rattle.clap.specs.Walk.{Rule}
use Rattle.clap.specs.Simple.{App, Shape, new_rule, new_shape, app_of, with_subcommand}
use Rattle.command_words.specs.Commands.{Row}

-- values, however many
abbrev pub each_value : List ℕ → Rule
each_value id = record (new_rule id) { action = Some Append }

abbrev pub rules : List Rule
rules = each_value (codes "values") ∷ []

-- a subcommand with these rules
abbrev pub shape_with : List ℕ → List Rule → Shape
shape_with name rules = record (new_shape name) { rules = rules }

abbrev pub shape_named : List ℕ → Shape
shape_named name = shape_with name rules

-- no value of the command is meant for subcommands
abbrev pub IsLocal : Command → Type 0
IsLocal command = (out-Command command).has_globals ≡ false

-- where memory sufficed, the command is this application
abbrev pub Makes : {E : Type 0} → Result Command E → App → Type 0
Makes made app = IfOk made (λ command. app_of command ≡ app)

-- the second is the first with one more subcommand, where memory sufficed for both
abbrev pub Joins : {E : Type 0} → Result Command E → Result Command E → Shape → Type 0
Joins before after sub = (app : App) → Makes before app → Makes after (with_subcommand app sub)

-- words without the program's name, and no help
abbrev pub top_shape : Shape
top_shape = record (new_shape (codes "messenger")) {
  no_binary_name = true;
  disable_help_flag = true;
  disable_help_subcommand = true;
}

-- the application before it has subcommands, with those of these names, and with one for each row
abbrev pub empty_application : App
empty_application = record { top = top_shape; subs = [] }

abbrev pub application_of : List (List ℕ) → App
application_of names =
    fold (λ app name. with_subcommand app (shape_named name)) empty_application names

abbrev pub application : List Row → App
application table = record {
  top = record top_shape { is_leaf = false };
  subs = map (λ (row : Row). shape_named row.name) table;
}

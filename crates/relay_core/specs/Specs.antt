-- What boxes are made by.
use Rattle.std.specs.Prelude.{ℕ, List, None}
use Rattle.relay_core.specs.declared.spec.BoxSpec.{BoxSpec}

-- a name alone: such a box serves whoever asks
abbrev pub bare_spec : List ℕ → BoxSpec
bare_spec name = record { name = name; keys = None }

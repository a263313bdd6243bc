-- The boxes that have a record in a version.
use Rattle.std.specs.Prelude.{◌≡◌, false, None}
use Rattle.relay_core.specs.Lawful.{IsLawfulBox}
use Rattle.relay_core.specs.Record.{Saved}
use Rattle.relay_core.specs.Versions.{has_guards}

-- a lawful box, without a guard where the version knows none
pub record IsLawfulSaved (s : Saved) : Type 0 where
  pub box : IsLawfulBox s.box
  pub guard : has_guards s.version ≡ false → s.box.guard ≡ None

-- The size of a relay's disk, as numbers.
use Rattle.std.specs.Prelude.{◌≡◌}
use Rattle.relay_command.specs.declared.relaying.TheConstants.{RELAY_DISK_SIZE}

-- bytes
pub record HasLimits : Type 0 where
  pub disk : RELAY_DISK_SIZE ≡ 16777216

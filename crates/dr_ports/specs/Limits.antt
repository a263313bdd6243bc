-- The limits of ports in memory, as numbers.
use Rattle.std.specs.Prelude.{◌≡◌}
use Rattle.dr_ports.specs.declared.memory.link.TheConstants.{ADDRESS_LIMIT}
use Rattle.dr_ports.specs.declared.output_line.TheConstants.{ROOM}

-- bytes of an address, and of the room of a line
pub record HasLimits : Type 0 where
  pub address : ADDRESS_LIMIT ≡ 261
  pub line : ROOM ≡ 128

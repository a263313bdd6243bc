-- The greatest inputs, as numbers.
use Rattle.std.specs.Prelude.{◌≡◌}
use Rattle.command_lines.specs.declared.input.TheConstants.{KEY_TEXT_LIMIT, PACKET_TEXT_LIMIT}

-- bytes of a key and of a packet in hex digits, with the end of their line
pub record HasLimits : Type 0 where
  pub key : KEY_TEXT_LIMIT ≡ 65
  pub packet : PACKET_TEXT_LIMIT ≡ 13741

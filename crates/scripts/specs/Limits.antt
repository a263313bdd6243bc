-- The limits of a script's lines, as numbers.
use Rattle.std.specs.Prelude.{◌≡◌}
use Rattle.scripts.specs.declared.hexed.TheConstants.{DIGIT_LIMIT, HEX_LIMIT}

-- bytes that a line gives in hex, and their digits
pub record HasLimits : Type 0 where
  pub hex : HEX_LIMIT ≡ 8000
  pub digits : DIGIT_LIMIT ≡ 16000

-- The limit of long texts, as a number.
use Rattle.std.specs.Prelude.{◌≡◌}
use Rattle.long_text.specs.declared.limits.TheConstants.{LONG_LIMIT}

-- the bytes of a long text
pub record HasLimits : Type 0 where
  pub long : LONG_LIMIT ≡ 261760

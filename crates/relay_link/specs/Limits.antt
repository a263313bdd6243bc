-- The limits of a link, as numbers.
use Rattle.std.specs.Prelude.{◌≡◌}
use Rattle.relay_link.specs.declared.limits.TheConstants.{REPLY_LIMIT, SENT_LIMIT}

-- replies, and bytes sent
pub record HasLimits : Type 0 where
  pub replies : REPLY_LIMIT ≡ 545
  pub sent : SENT_LIMIT ≡ 4482118

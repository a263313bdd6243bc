-- The greatest numbers of commands, as numbers.
use Rattle.std.specs.Prelude.{◌≡◌}
use Rattle.command_words.specs.declared.limits.TheConstants.{CALL_LIMIT, CONNECTION_LIMIT, ID_LIMIT, PEER_LIMIT, PORT_LIMIT, ROUND_LIMIT}

-- a port's number, connections of a relay, rounds of a made script, the id of a long text, and of a fan
-- that is played its people, and the calls of its disk
pub record HasLimits : Type 0 where
  pub port : PORT_LIMIT ≡ 65535
  pub connections : CONNECTION_LIMIT ≡ 1000000
  pub rounds : ROUND_LIMIT ≡ 1000
  pub id : ID_LIMIT ≡ 4294967295
  pub peers : PEER_LIMIT ≡ 8
  pub calls : CALL_LIMIT ≡ 4294967295

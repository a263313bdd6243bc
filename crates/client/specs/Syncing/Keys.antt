-- The keys under which a side's requests to a relay are tagged.
use Rattle.std.specs.Prelude.{Option, option_map}
use Rattle.dr_base.specs.declared.position.Side.{Side}
use Rattle.dr_base.specs.declared.position.Side.TheVariants.{First, Second}
use Rattle.session_model.specs.Clients.{Client}
use Rattle.session_model.specs.declared.relay_keys.RelayKeys.{RelayKeys}
use Rattle.sync_model.specs.Tokens.{SyncKeys}
use Rattle.client.specs.declared.syncing.keys.BoxKeys.{BoxKeys}

-- of a session's keys, the owner's of the side's own box and the poster's of its peer's
abbrev pub side_keys : Side → RelayKeys → SyncKeys
side_keys First keys =
    record { owner = keys.first_owner.bytes; poster = keys.second_poster.bytes }
side_keys Second keys =
    record { owner = keys.second_owner.bytes; poster = keys.first_poster.bytes }

-- a client's, where its session has keys
abbrev pub keys_in : Client → Option SyncKeys
keys_in kept = option_map (side_keys kept.state.side) kept.relay

-- those that the code has
abbrev pub keys_seen : BoxKeys → SyncKeys
keys_seen keys = record { owner = keys.owner.bytes; poster = keys.poster.bytes }

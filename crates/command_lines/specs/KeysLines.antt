-- The lines of the keys of a session's boxes at a relay: for each box its name, and after it the
-- owner's key and the poster's, in hex digits, as a relay is told them.
use Rattle.std.specs.Prelude.{List, None, Option, Some, [], codes, ℕ, ◌++◌}
use Rattle.dr_base.specs.declared.key.Key32.{Key32}
use Rattle.dr_base.specs.declared.position.Side.{Side}
use Rattle.dr_base.specs.declared.position.Side.TheVariants.{First, Second}
use Rattle.hex.specs.Hex.{encode_lower}
use Rattle.session_model.specs.Clients.{Client}
use Rattle.session_model.specs.declared.relay_keys.RelayKeys.{RelayKeys}
use Rattle.client.specs.Syncing.Lines.{box_name}

-- a box's name with its owner's key, and then its poster's
unfoldable pub owner_text : List ℕ → Side → Key32 → List ℕ
owner_text session side owner = box_name session side ++ codes "=" ++ encode_lower owner.bytes

unfoldable pub poster_text : Key32 → List ℕ
poster_text poster = codes "," ++ encode_lower poster.bytes ++ codes "\n"

abbrev pub box_line : List ℕ → Side → Key32 → Key32 → List ℕ
box_line session side owner poster = owner_text session side owner ++ poster_text poster

abbrev pub both_lines : List ℕ → RelayKeys → List ℕ
both_lines session keys =
    box_line session First keys.first_owner keys.first_poster
    ++ box_line session Second keys.second_owner keys.second_poster

-- none where there are no keys
abbrev pub lines_of_keys : List ℕ → Option RelayKeys → List ℕ
lines_of_keys session None = []
lines_of_keys session (Some keys) = both_lines session keys

abbrev pub keys_lines : Client → List ℕ
keys_lines kept = lines_of_keys kept.state.session kept.relay

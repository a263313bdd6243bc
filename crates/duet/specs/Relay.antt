-- The relay of a script before the first deed: a box for each side, which the line `guard` guards.
use Rattle.std.specs.Prelude.{Bool, List, None, Some, [], ◌∷◌, if◌then◌else◌, ℕ}
use Rattle.relay_core.specs.Boxes.{Box, empty_box}
use Rattle.relay_core.specs.declared.spec.BoxKeys.{BoxKeys}
use Rattle.relay_core.specs.declared.spec.BoxSpec.{BoxSpec}
use Rattle.session_model.specs.BoxKeys.{relay_keys_of}
use Rattle.session_model.specs.Clients.{Client}
use Rattle.session_model.specs.declared.relay_keys.RelayKeys.{RelayKeys}
use Rattle.client.specs.Syncing.Lines.{own_box, peers_box}

-- the keys of First's box, and those of Second's
abbrev pub first_keys : RelayKeys → BoxKeys
first_keys keys = record { owner = keys.first_owner; poster = keys.first_poster }

abbrev pub second_keys : RelayKeys → BoxKeys
second_keys keys = record { owner = keys.second_owner; poster = keys.second_poster }

-- what a box is made by: with these keys where it is guarded
abbrev pub spec_where : Bool → List ℕ → BoxKeys → BoxSpec
spec_where guarded name keys = record { name = name; keys = if guarded then Some keys else None }

-- First's box and Second's by their names, which are empty; guarded, they have the keys of the session that a key begins
abbrev pub boxes_where : Bool → List ℕ → List ℕ → List ℕ → List Box
boxes_where guarded key first second =
    empty_box (spec_where guarded first (first_keys (relay_keys_of key)))
    ∷ empty_box (spec_where guarded second (second_keys (relay_keys_of key))) ∷ []

-- by what First keeps, which names them
abbrev pub opening_boxes : Bool → List ℕ → Client → List Box
opening_boxes guarded key first = boxes_where guarded key (own_box first) (peers_box first)
